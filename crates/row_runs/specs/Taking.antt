-- Terms of the contract of the function that takes whole rows by a run. No public call's contract uses them.
use Rattle.std.specs.Prelude.{ℕ, ◌*◌, ◌≤◌, ◌<◌, ◌≡◌, List, length, take}
use Rattle.std.proofs.Math.Option.{none}
use Rattle.image.specs.Image.{sizes_of, nets_of}
use Rattle.refusals.specs.Refusals.{refusal_in}
use Rattle.checking.specs.Check.{check_refusal}
use Rattle.cycle.specs.Cycle.{plain, Cycle, cycles_of, outputs_of, state_after}
use Rattle.cycle.specs.State.{registers_in}
use Rattle.cycle.specs.Calls.{state_refusal}
use Rattle.row_runs.specs.declared.running.RowsRun.{RowsRun}
use Rattle.row_runs.specs.Rows.{row_refusal, good_rows}

-- a state that a run accepts: none of 10, 11 and 20 applies
abbrev pub AcceptedState : (s st : List ℕ) → Type 0
AcceptedState s st = state_refusal (sizes_of s) st ≡ none

-- an accepted image, i and o, its I and O, of which I is not 0, a state that a run accepts, k rows, and room for their output bytes
pub record Lent (s : List ℕ) (i o k : ℕ) (st rows outputs : List ℕ) : Type 0 where
  pub accepted : check_refusal s ≡ none
  pub inputs : i ≡ (sizes_of s).inputs
  pub some : 0 < i
  pub each : o ≡ (sizes_of s).outputs
  pub state : AcceptedState s st
  pub few : k ≤ 4096
  pub row_bytes : length rows ≡ k * i
  pub output_bytes : length outputs ≡ k * o

-- the cycles of k rows of i bytes each, from the register bytes rs
abbrev pub cycles_on : (s : List ℕ) (i k : ℕ) (rows rs : List ℕ) → List Cycle
cycles_on s i k rows rs = cycles_of plain (nets_of s) i k rows rs

-- k rows were taken from the state st: those before the first bad one were run, and that one draws its refusal
pub record RowsTaken (s : List ℕ) (i o k : ℕ) (st rows : List ℕ) (r : RowsRun) (after filled : List ℕ) : Type 0 where
  pub good : r.good ≡ good_rows i k rows
  pub few : r.good ≤ k
  pub refusal : refusal_in r.outcome ≡ row_refusal i k rows
  pub registers : registers_in s after ≡ state_after (registers_in s st) (cycles_on s i r.good rows (registers_in s st))
  pub accepts : AcceptedState s after
  pub outputs : take (r.good * o) filled ≡ outputs_of (cycles_on s i r.good rows (registers_in s st))
