-- Terms of the contracts between the functions that print the cycles of a run: their lines by their output bytes, which stand one after another.
use Rattle.std.specs.Prelude.{ℕ, zero, suc, ◌≡◌, ◌<◌, List, [], ◌∷◌, ◌&&◌, cond, eqb, length, get_or, take, drop}
use Rattle.std.proofs.Math.Option.{none}
use Rattle.gates.specs.Kinds.{OUT}
use Rattle.gates.specs.Rules.{mark}
use Rattle.image.specs.Image.{sizes_of, operand_at, nets_of}
use Rattle.image.specs.Places.{places_from}
use Rattle.checking.specs.Check.{check_refusal}
use Rattle.cycle.specs.Cycle.{Verdict, clear, flow}
use Rattle.listing_output.specs.Printed.{Printed, with_cycle}

-- an image that is accepted, and a list of the numbers of its OUTs, in net order
pub record Outs (s list : List ℕ) : Type 0 where
  pub accepted : check_refusal s ≡ none
  pub listed : list ≡ places_from OUT 0 (nets_of s)

-- an accepted image, the list of its OUTs, and i, its I, which is not 0
pub record Known (s : List ℕ) (i : ℕ) (list : List ℕ) : Type 0 where
  pub outs : Outs s list
  pub inputs : i ≡ (sizes_of s).inputs
  pub some : 0 < i

-- the verdict of a cycle by its output bytes: a flow at the first of the listed OUTs that is protected and whose byte has mark 1; clear where there is none
unfoldable pub verdict_by : (s outs bytes : List ℕ) → Verdict
verdict_by s [] bytes = clear
verdict_by s (i ∷ outs) bytes =
    cond (eqb (operand_at s (sizes_of s).nets i 1) 1 && mark (get_or bytes 0 0)) (flow i) (verdict_by s outs (drop 1 bytes))

-- a line for each of k cycles, by their output bytes
unfoldable pub with_lines : (s outs : List ℕ) (k : ℕ) (bytes : List ℕ) → Printed → Printed
with_lines s outs zero bytes p = p
with_lines s outs (suc k) bytes p =
    let first = take (length outs) bytes in
    with_lines s outs k (drop (length outs) bytes) (with_cycle first (verdict_by s outs first) p)
