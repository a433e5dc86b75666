-- Static calls, where they are accepted and where they are refused; and what an accepted one takes.
use Prim.Native.Nat.{ℕ, ◌*◌, ◌≤◌}
use mathlib.Core.Logic.{◌↔◌}
use mathlib.Core.Path.{◌≡◌, refl, sym, ap, ◌∙◌}
use mathlib.Core.List.{List, Forall₂}
use mathlib.Core.Option.{none, some}
use mathlib.Core.Bool.{true, false}
use lib.ListN.{length}
use borrow.Author.Tests.{not-true}
use Rattle.unknowns.specs.Filling.{no_code, is_code}
use Rattle.unknowns.specs.Widths.{rule_by, code_by}
use Rattle.image.specs.Image.{sizes_of, nets_of}
use Rattle.image.proofs.Pairs.{pairs_imp}
use Rattle.refusals.specs.declared.answer.Refusal.{Refusal}
use Rattle.refusals.specs.Refusals.{bad_byte}
use Rattle.refusals.proofs.Refusals.{none_bad, accepted}
use Rattle.checking.proofs.Checked.{Checked, check_none}
use Rattle.cycle.specs.Cycle.{cycles_of}
use Rattle.cycle.specs.Calls.{refused, as_run}
use Rattle.cycle.proofs.Calls.{ReadyOf}
use Rattle.run_cycles.specs.Taking.{rules_by, Takes}
use Rattle.run_cycles.proofs.Cycling.{pairs_coded}
use Rattle.static_run.specs.StaticCalls.{static, static_starts, static_power_up_refusal, static_power_up_of, static_run_refusal, static_run_of}

pub static_power_up_accepted : (s st : List ℕ) → static_power_up_refusal s st ≡ none → static_power_up_of s st ≡ record { refusal = none; state = static_starts (nets_of s) }
unfolding static_power_up_of
static_power_up_accepted s st h = rw (h, static_power_up_of)

pub static_power_up_refused : (s st : List ℕ) (r : Refusal) → static_power_up_refusal s st ≡ some r → static_power_up_of s st ≡ record { refusal = some r; state = st }
unfolding static_power_up_of
static_power_up_refused s st r h = rw (h, static_power_up_of)

pub static_accepted :
    (s st : List ℕ) (k : ℕ) (rows outputs : List ℕ) → static_run_refusal s st k rows outputs ≡ none
    → static_run_of s st k rows outputs ≡ as_run st (cycles_of static (nets_of s) (sizes_of s).inputs k rows st)
unfolding static_run_of
static_accepted s st k rows outputs h = rw (h, static_run_of)

pub static_refused :
    (s st : List ℕ) (k : ℕ) (rows outputs : List ℕ) (r : Refusal) → static_run_refusal s st k rows outputs ≡ some r
    → static_run_of s st k rows outputs ≡ record { answer = refused r; state = st; outputs = outputs }
unfolding static_run_of
static_refused s st k rows outputs r h = rw (h, static_run_of)

-- WHAT IS ACCEPTED
pub static_power_up_none : (s st : List ℕ) → (static_power_up_refusal s st ≡ none) ↔ (Checked s × (length st ≡ (sizes_of s).registers))
unfolding static_power_up_refusal
static_power_up_none s st = (λ h. simp (accepted, check_none) at h, λ h. simp (accepted, check_none) h)

-- a code, as a relation that looks at its first byte alone
abbrev pub AnyCode : ℕ → ℕ → Type 0
AnyCode x y = is_code x ≡ true

code_good : (x y : ℕ) → (no_code x ≡ false) ↔ AnyCode x y
code_good x y = (λ h. rw h, not-true (no_code x))

pub code_none : (number i : ℕ) (xs : List ℕ) → (bad_byte no_code number i xs ≡ none) ↔ Forall₂ AnyCode xs xs
code_none = none_bad no_code code_good

pub static_none :
    (s st : List ℕ) (k : ℕ) (rows outputs : List ℕ)
    → (static_run_refusal s st k rows outputs ≡ none) ↔ (ReadyOf AnyCode s st (k * (sizes_of s).inputs) rows × (k ≤ 4096) × (length outputs ≡ k * (sizes_of s).outputs))
unfolding static_run_refusal
static_none s st k rows outputs = (
  λ h.
      let t = simp (accepted, check_none, code_none) at h in
      let u = t.1.1 in
      (record { image = t.0; registers = record { size = u.0; codes = u.1.0 }; size = u.1.1.0; codes = u.1.1.1.0 }, t.1.0, u.1.1.1.1),
  λ r. simp (accepted, check_none, code_none) (r.0.image, (r.1, (r.0.registers.size, (r.0.registers.codes, (r.0.size, (r.0.codes, r.2)))))),
)

-- THE CYCLES go by the table of width 8
wide_code : (x y : ℕ) → AnyCode x y → code_by 8 x ≡ true
unfolding code_by
wide_code x y h = h

pub static_taken : (s st : List ℕ) (k : ℕ) (rows outputs : List ℕ) → static_run_refusal s st k rows outputs ≡ none
    → Takes 8 s st (k * (sizes_of s).inputs) rows × ((k ≤ 4096) × (length outputs ≡ k * (sizes_of s).outputs))
static_taken s st k rows outputs h =
    let t = (static_none s st k rows outputs).0 h in
    let r = t.0 in (
      record {
        image = (check_none _).1 r.image;
        registers = r.registers.size;
        state = pairs_coded (pairs_imp wide_code r.registers.codes);
        size = r.size;
        codes = pairs_coded (pairs_imp wide_code r.codes);
      },
      (t.1, t.2),
    )

static_rules : rules_by 8 ≡ static
unfolding rule_by
static_rules = refl

pub static_ran : (s st : List ℕ) (k : ℕ) (rows outputs : List ℕ) → static_run_refusal s st k rows outputs ≡ none
    → as_run st (cycles_of (rules_by 8) (nets_of s) (sizes_of s).inputs k rows st) ≡ static_run_of s st k rows outputs
static_ran s st k rows outputs h =
    ap (λ rules. as_run st (cycles_of rules (nets_of s) (sizes_of s).inputs k rows st)) static_rules ∙ sym (static_accepted s st k rows outputs h)
