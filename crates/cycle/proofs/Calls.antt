-- What each call is where it is accepted and where it is refused, and what its acceptance says of the lent bytes.
use Prim.Native.Nat.{ℕ, zero, suc, ◌*◌, ◌≤◌}
use native.Mathlib.Omega.{arith}
use native.Mathlib.Nat.{suc-mul}
use mathlib.Core.Logic.{◌↔◌}
use mathlib.Core.Path.{◌≡◌, refl, sym, ◌∙◌}
use mathlib.Core.List.{List, Forall₂}
use mathlib.Core.Option.{Option, none, some}
use lib.Dec.{eqb}
use lib.ListN.{length, take, drop, length-drop}
use lib.Seq.{length-take-le}
use Rattle.gates.specs.Rules.{byte, gate_byte}
use Rattle.gates.proofs.Laws.{Code, byte_code}
use Rattle.image.specs.Image.{sizes_of, nets_of}
use Rattle.image.proofs.Pairs.{pairs_take, pairs_drop}
use Rattle.refusals.specs.declared.answer.Refusal.{Refusal}
use Rattle.refusals.proofs.Refusals.{Codes, accepted}
use Rattle.checking.proofs.Checked.{Checked, check_none}
use Rattle.cycle.specs.Codes.{Low}
use Rattle.cycle.specs.Cycle.{Rules, plain, bytes_of, clocked, cycle_of, cycles_of, state_after}
use Rattle.cycle.specs.State.{state_length, with_count, registers_in}
use Rattle.cycle.specs.Calls.{refused, start, starts, power_up_refusal, power_up_of, as_step, step_refusal, step_of, as_run, counting, run_refusal, run_of}
use Rattle.cycle.proofs.States.{RegistersOf, IsRegisters, IsState, counted_state, state_none}
use Rattle.cycle.proofs.Cycles.{Kept, registers_related, cycle_related, AnyVerdicts, code_kept, registers_length, codes_cycle, low_codes}

-- a refusal is given, or none
pub either_way : {A : Type 0} (o : Option Refusal) → (o ≡ none → A) → ((r : Refusal) → o ≡ some r → A) → A
either_way none f g = f refl
either_way (some r) f g = g r refl

-- POWER-UP. The byte of each start: its value, trusted; or value 0 and mark 1 where none is given
pub start_bytes : (start 0 ≡ 0) × (start 1 ≡ 1) × (start 2 ≡ 2)
unfolding start byte
start_bytes = (refl, refl, refl)

pub power_up_accepted : (s st : List ℕ) → power_up_refusal s st ≡ none → power_up_of s st ≡ record { refusal = none; state = with_count (starts (nets_of s)) }
unfolding power_up_of
power_up_accepted s st h = rw (h, power_up_of)

pub power_up_refused : (s st : List ℕ) (r : Refusal) → power_up_refusal s st ≡ some r → power_up_of s st ≡ record { refusal = some r; state = st }
unfolding power_up_of
power_up_refused s st r h = rw (h, power_up_of)

pub power_up_none : (s st : List ℕ) → (power_up_refusal s st ≡ none) ↔ (Checked s × (length st ≡ state_length (sizes_of s)))
unfolding power_up_refusal
power_up_none s st = (λ h. simp (accepted, check_none) at h, λ h. simp (accepted, check_none) h)

-- STEP
pub step_accepted : (s st row nets : List ℕ) → step_refusal s st row nets ≡ none → step_of s st row nets ≡ as_step (cycle_of plain (nets_of s) row (registers_in s st))
unfolding step_of
step_accepted s st row nets h = rw (h, step_of)

pub step_refused :
    (s st row nets : List ℕ) (r : Refusal) → step_refusal s st row nets ≡ some r
    → step_of s st row nets ≡ record { answer = refused r; state = st; nets = nets }
unfolding step_of
step_refused s st row nets r h = rw (h, step_of)

-- RUN
pub run_accepted :
    (s st : List ℕ) (k : ℕ) (rows outputs : List ℕ) → run_refusal s st k rows outputs ≡ none
    → let rs = registers_in s st in run_of s st k rows outputs ≡ counting (as_run rs (cycles_of plain (nets_of s) (sizes_of s).inputs k rows rs))
unfolding run_of
run_accepted s st k rows outputs h = rw (h, run_of)

pub run_refused :
    (s st : List ℕ) (k : ℕ) (rows outputs : List ℕ) (r : Refusal) → run_refusal s st k rows outputs ≡ some r
    → run_of s st k rows outputs ≡ record { answer = refused r; state = st; outputs = outputs }
unfolding run_of
run_refused s st k rows outputs r h = rw (h, run_of)

-- WHAT IS ACCEPTED. An image, its register bytes rs in A, a relation that looks at its first byte alone; and n such row bytes beside them
pub record ReadyOf (A : ℕ → ℕ → Type 0) (s rs : List ℕ) (n : ℕ) (rows : List ℕ) : Type 0 where
  pub image : Checked s
  pub registers : RegistersOf A s rs
  pub size : length rows ≡ n
  pub codes : Forall₂ A rows rows

-- of plain calls: bytes 0 to 3
abbrev pub Ready : (s rs : List ℕ) (n : ℕ) (rows : List ℕ) → Type 0
Ready = ReadyOf Code

-- what a plain call is lent beside the buffer that it fills: an image, a state, and n row bytes
pub record Lent (s st : List ℕ) (n : ℕ) (rows : List ℕ) : Type 0 where
  pub image : Checked s
  pub state : IsState s st
  pub size : length rows ≡ n
  pub codes : Codes rows

pub lent_ready : {s st : List ℕ} {n : ℕ} {rows : List ℕ} → Lent s st n rows → Ready s (registers_in s st) n rows
lent_ready l = record { image = l.image; registers = l.state.registers; size = l.size; codes = l.codes }

pub ready_lent : {s rs : List ℕ} {n : ℕ} {rows : List ℕ} → Ready s rs n rows → Lent s (with_count rs) n rows
ready_lent r = record { image = r.image; state = counted_state r.registers; size = r.size; codes = r.codes }

pub step_none : (s st row nets : List ℕ) → (step_refusal s st row nets ≡ none) ↔ (Lent s st (sizes_of s).inputs row × (length nets ≡ (sizes_of s).nets))
unfolding step_refusal
step_none s st row nets = (
  λ h.
      let t = simp (accepted, check_none, state_none) at h in
      (record { image = t.0; state = t.1.0; size = t.1.1.0; codes = t.1.1.1.0 }, t.1.1.1.1),
  λ r. simp (accepted, check_none, state_none) (r.0.image, (r.0.state, (r.0.size, (r.0.codes, r.1)))),
)

pub run_none :
    (s st : List ℕ) (k : ℕ) (rows outputs : List ℕ)
    → (run_refusal s st k rows outputs ≡ none) ↔ (Lent s st (k * (sizes_of s).inputs) rows × (k ≤ 4096) × (length outputs ≡ k * (sizes_of s).outputs))
unfolding run_refusal
run_none s st k rows outputs = (
  λ h.
      let t = simp (accepted, check_none, state_none) at h in
      let u = t.1.1 in
      (record { image = t.0; state = u.0; size = u.1.0; codes = u.1.1.0 }, t.1.0, u.1.1.1),
  λ r. simp (accepted, check_none, state_none) (r.0.image, (r.1, (r.0.state, (r.0.size, (r.0.codes, r.2))))),
)

-- the bytes that are worked out for it are 0 to 3
pub worked_low : {s rs : List ℕ} {n : ℕ} {row : List ℕ} → Ready s rs n row → Low (bytes_of gate_byte (nets_of s) row rs)
unfolding cycle_of
worked_low r = low_codes (codes_cycle r.image.nets r.codes r.registers.codes).bytes

-- power-up leaves register bytes, and so does a cycle
pub start_code : (b : ℕ) → start b ≤ 3
unfolding start
start_code b = byte_code (eqb b 1) (eqb b 2)

pub starts_registers : {s : List ℕ} → Checked s → IsRegisters s (starts (nets_of s))
unfolding starts
starts_registers {s} c =
    record {
      size = registers_length _ (nets_of s) ∙ sym c.registers;
      codes = registers_related Code (λ x. start_code x.b) (nets_of s);
    }

pub powered_up_lem : (s a : List ℕ) → Checked s → length a ≡ state_length (sizes_of s)
    → power_up_of s a ≡ record { refusal = none; state = with_count (starts (nets_of s)) }
powered_up_lem s a c l = power_up_accepted s a ((power_up_none s a).1 (c, l))

-- the first cycle of many
pub first_ready : {A : ℕ → ℕ → Type 0} {s st : List ℕ} (k : ℕ) {rows : List ℕ} → ReadyOf A s st (suc k * (sizes_of s).inputs) rows
    → ReadyOf A s st (sizes_of s).inputs (take (sizes_of s).inputs rows)
first_ready {s = s} k {rows} r =
    let m = suc-mul k (sizes_of s).inputs in
    let l = r.size in
    record { image = r.image; registers = r.registers; size = length-take-le (sizes_of s).inputs rows (omega arith); codes = pairs_take (sizes_of s).inputs r.codes }

-- rules that keep bytes in A: what a cycle leaves, the cycles after the first, and what a run leaves
module _ (rules : Rules) {A : ℕ → ℕ → Type 0} (kept : Kept rules.gate rules.gate A) where
  pub cycle_leaves : {s st row : List ℕ} → ReadyOf A s st (sizes_of s).inputs row → RegistersOf A s (cycle_of rules (nets_of s) row st).state
  cycle_leaves {s} {st} {row} r =
      record {
        size = unfold cycle_of clocked in registers_length _ (nets_of s) ∙ sym r.image.registers;
        codes = (cycle_related rules rules {Q = AnyVerdicts} kept (λ i xs bs cs h. tt) r.image.nets r.codes r.registers.codes).state;
      }

  pub rest_ready_by : {s st : List ℕ} (k : ℕ) {rows : List ℕ} → ReadyOf A s st (suc k * (sizes_of s).inputs) rows
      → ReadyOf A s (cycle_of rules (nets_of s) (take (sizes_of s).inputs rows) st).state (k * (sizes_of s).inputs) (drop (sizes_of s).inputs rows)
  rest_ready_by {s} k r =
      let m = suc-mul k (sizes_of s).inputs in
      let l = r.size in
      record { image = r.image; registers = cycle_leaves (first_ready k r); size = simp length-drop (omega arith); codes = pairs_drop (sizes_of s).inputs r.codes }

  pub run_leaves : {s : List ℕ} (k : ℕ) {st rows : List ℕ} → ReadyOf A s st (k * (sizes_of s).inputs) rows
      → RegistersOf A s (state_after st (cycles_of rules (nets_of s) (sizes_of s).inputs k rows st))
  unfolding cycles_of state_after
  run_leaves zero r = r.registers
  run_leaves (suc k) r = run_leaves k (rest_ready_by k r)

-- of plain calls
pub cycle_registers : {s st row : List ℕ} → Ready s st (sizes_of s).inputs row → IsRegisters s (cycle_of plain (nets_of s) row st).state
cycle_registers = cycle_leaves plain code_kept

pub rest_ready : {s st : List ℕ} (k : ℕ) {rows : List ℕ} → Ready s st (suc k * (sizes_of s).inputs) rows
    → Ready s (cycle_of plain (nets_of s) (take (sizes_of s).inputs rows) st).state (k * (sizes_of s).inputs) (drop (sizes_of s).inputs rows)
rest_ready = rest_ready_by plain code_kept

pub run_registers : {s : List ℕ} (k : ℕ) {st rows : List ℕ} → Ready s st (k * (sizes_of s).inputs) rows
    → IsRegisters s (state_after st (cycles_of plain (nets_of s) (sizes_of s).inputs k rows st))
run_registers = run_leaves plain code_kept
