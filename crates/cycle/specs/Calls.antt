-- What power-up, a step and a run, on an image s and a state st, answer, and what each leaves in every lent buffer. A refusal leaves each as it was.
use Rattle.std.specs.Prelude.{ℕ, ◌*◌, List, eqb, ltb, take}
use Rattle.std.proofs.Math.Option.{Option, none, some}
use Rattle.gates.specs.Rules.{byte}
use Rattle.image.specs.declared.image.Sizes.{Sizes}
use Rattle.image.specs.declared.image.Net.{Net}
use Rattle.image.specs.Image.{sizes_of, nets_of}
use Rattle.refusals.specs.declared.answer.Refusal.{Refusal}
use Rattle.refusals.specs.Refusals.{refuse, ◌then◌, Alphabet, plain_bytes, bad_byte, bad_length}
use Rattle.checking.specs.Check.{check_refusal}
use Rattle.cycle.specs.State.{state_length, with_count, registers_in, miscounted}
use Rattle.cycle.specs.Cycle.{plain, Verdict, registers, Cycle, cycle_of, cycles_of, outputs_of, state_after, FirstFlow, first_flow}

-- the answer of a call that has a result
pub data Answer (A : Type 0) : Type 0 where
  done : A → Answer A
  refused : Refusal → Answer A

-- the byte that a register powers up with, by its operand b, which is 0, 1, or 2 for none given: the start value, trusted; or, where none is given, value 0 and mark 1
unfoldable pub start : ℕ → ℕ
start b = byte (eqb b 1) (eqb b 2)

-- power-up: that byte for each register, in net order
unfoldable pub starts : List Net → List ℕ
starts xs = registers (λ x. start x.b) xs

-- what power-up gives: its refusal, or none, and the state
pub record PoweredUp : Type 0 where
  pub refusal : Option Refusal
  pub state : List ℕ

-- 1 to 8 and 10
unfoldable pub power_up_refusal : (s st : List ℕ) → Option Refusal
power_up_refusal s st = check_refusal s then bad_length 10 (state_length (sizes_of s)) st

unfoldable pub power_up_of : (s st : List ℕ) → PoweredUp
power_up_of s st =
    elim (power_up_refusal s st) [
      | none ↦ record { refusal = none; state = with_count (starts (nets_of s)) }
      | some r ↦ record { refusal = some r; state = st }
    ]

-- 10, 11 and 20: "condition 10 means R + 2 and 11 looks at the first R bytes alone", and 20 "directly after 11"
unfoldable pub state_refusal : Sizes → (st : List ℕ) → Option Refusal
state_refusal z st =
    bad_length 10 (state_length z) st
    then bad_byte plain_bytes.bad 11 0 (take z.registers st)
    then refuse (miscounted z.registers st) 20 0

-- 12 to 14, by the bytes that a call takes, and by the numbers of bytes that it wants in its rows and in the buffer that it fills
abbrev pub lent_refusal : Alphabet → (rowBytes filled : ℕ) (rows buffer : List ℕ) → Option Refusal
lent_refusal bytes rowBytes filled rows buffer =
    bad_length 12 rowBytes rows
    then bad_byte bytes.bad bytes.in_rows 0 rows
    then bad_length 14 filled buffer

-- a step: its answer, the state, and the lent buffer of net bytes
pub record Stepped : Type 0 where
  pub answer : Answer Verdict
  pub state : List ℕ
  pub nets : List ℕ

-- an accepted step, from its cycle
unfoldable pub as_step : Cycle → Stepped
as_step c = record { answer = done c.verdict; state = with_count c.state; nets = c.bytes }

-- 1 to 8, 10, 11, 20, and 12 to 14
unfoldable pub step_refusal : (s st row nets : List ℕ) → Option Refusal
step_refusal s st row nets =
    check_refusal s
    then state_refusal (sizes_of s) st
    then lent_refusal plain_bytes (sizes_of s).inputs (sizes_of s).nets row nets

unfoldable pub step_of : (s st row nets : List ℕ) → Stepped
step_of s st row nets =
    elim (step_refusal s st row nets) [
      | none ↦ as_step (cycle_of plain (nets_of s) row (registers_in s st))
      | some r ↦ record { answer = refused r; state = st; nets = nets }
    ]

-- a run: its answer, the state, and the lent buffer of output bytes
pub record Ran : Type 0 where
  pub answer : Answer FirstFlow
  pub state : List ℕ
  pub outputs : List ℕ

-- an accepted run from the register bytes rs, from its cycles. Its state is the register bytes after the last cycle, as a static run leaves them
unfoldable pub as_run : (rs : List ℕ) → List Cycle → Ran
as_run rs cs = record { answer = done (first_flow 0 cs); state = state_after rs cs; outputs = outputs_of cs }

-- the same with the count of the marked registers behind them, as a plain run leaves it
unfoldable pub counting : Ran → Ran
counting o = record { answer = o.answer; state = with_count o.state; outputs = o.outputs }

-- 1 to 9, 10, 11, 20, and 12 to 14
unfoldable pub run_refusal : (s st : List ℕ) (k : ℕ) (rows outputs : List ℕ) → Option Refusal
run_refusal s st k rows outputs =
    check_refusal s
    then refuse (ltb 4096 k) 9 0
    then state_refusal (sizes_of s) st
    then lent_refusal plain_bytes (k * (sizes_of s).inputs) (k * (sizes_of s).outputs) rows outputs

unfoldable pub run_of : (s st : List ℕ) (k : ℕ) (rows outputs : List ℕ) → Ran
run_of s st k rows outputs =
    elim (run_refusal s st k rows outputs) [
      | none ↦ let rs = registers_in s st in counting (as_run rs (cycles_of plain (nets_of s) (sizes_of s).inputs k rows rs))
      | some r ↦ record { answer = refused r; state = st; outputs = outputs }
    ]
