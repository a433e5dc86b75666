-- Terms of the contracts between the functions that take rows by runs: many rows are one run, and what the definition takes row by row, they take together.
use Rattle.std.specs.Prelude.{ℕ, ◌+◌, ◌*◌, ◌≤◌, ◌<◌, ◌^◌, ◌≡◌, List, true, length}
use Rattle.image.specs.Image.{sizes_of}
use Rattle.row_runs.specs.Taking.{AcceptedState}
use Rattle.listing_output.specs.declared.output.Progress.{Progress}
use Rattle.listing_output.specs.Printed.{Printed, printed, Room}
use Rattle.listing_cycles.specs.ByOutputs.{Known}
use Rattle.listing_rows.specs.Rows.{Listed, with_rows}

-- what the code holds of a listing: the state, and what is printed. Output bytes are printed with their row, and no later line depends on them
pub record Held : Type 0 where
  pub state : List ℕ
  pub printed : Printed

abbrev pub held : (state text : List ℕ) → Progress → Held
held state text p = record { state = state; printed = printed text p }

-- a listing in which that stands, beside some O output bytes
pub record Holds (s : List ℕ) (h : Held) (l : Listed) : Type 0 where
  pub state : l.state ≡ h.state
  pub printed : l.printed ≡ h.printed
  pub outputs : length l.outputs ≡ (sizes_of s).outputs

-- rows of i bytes each were taken: they lead every listing that holds what was held before to one that holds what is held after
pub record Taken (s : List ℕ) (i : ℕ) (rows : List (List ℕ)) (before after : Held) : Type 0 where
  pub leads : (l : Listed) → Holds s before l → Holds s after (with_rows s i rows l)

-- bytes that are some whole rows
pub record Whole (i : ℕ) (bytes : List ℕ) : Type 0 where
  pub rows : ℕ
  pub is : length bytes ≡ rows * i

-- what one run of k rows asks, and a line for each of its cycles
pub record Asks (s : List ℕ) (i k : ℕ) (list st rows outputs text : List ℕ) (p : Progress) : Type 0 where
  pub known : Known s i list
  pub state : AcceptedState s st
  pub few : k ≤ 4096
  pub row_bytes : length rows ≡ k * i
  pub output_bytes : length outputs ≡ k * length list
  pub room : Room text p
  pub going : p.open ≡ true
  pub count : p.cycles + k < 2 ^ 64

-- what some rows leave, at most k: a state that a run accepts, and room in the text. A failure stays
pub record Leaves (s st text : List ℕ) (k : ℕ) (before after : Progress) : Type 0 where
  pub state : AcceptedState s st
  pub room : Room text after
  pub cycles : after.cycles ≤ before.cycles + k
  pub failed : before.failed ≡ true → after.failed ≡ true
