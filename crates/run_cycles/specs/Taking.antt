-- Terms of the contracts of a run's cycles, which go by a table of a width. No public call's contract uses them.
use Rattle.std.specs.Prelude.{ℕ, ◌≡◌, List, length}
use Rattle.std.proofs.Math.Option.{none}
use Rattle.gates.specs.Rules.{mark}
use Rattle.unknowns.specs.Widths.{rule_by, Coded, Tables}
use Rattle.image.specs.Image.{sizes_of}
use Rattle.checking.specs.Check.{check_refusal}
use Rattle.cycle.specs.Cycle.{Rules}
use Rattle.lists.specs.Lists.{Found, Watched}
use Rattle.run_cycles.specs.declared.running.Run.{Run}

-- the rules of cycles by such a table
abbrev pub rules_by : (width : ℕ) → Rules
rules_by width = record { gate = rule_by width; marked = mark }

-- an accepted image s with a code for each register, and n row codes
pub record Takes (width : ℕ) (s st : List ℕ) (n : ℕ) (rows : List ℕ) : Type 0 where
  pub image : check_refusal s ≡ none
  pub registers : length st ≡ (sizes_of s).registers
  pub state : Coded width st
  pub size : length rows ≡ n
  pub codes : Coded width rows

-- what a run makes once is of its image and its width: the tables, and the lists with where these begin and end (`Run` is the struct of src/running.rt)
pub record Made (r : Run) : Type 0 where
  pub tables : Tables r.width r.plain.now r.wide.now
  pub found : Found r.image.now r.parts r.list.now
  pub watched : Watched r.image.now r.parts r.protected.now
