-- A call that is not refused is accepted.
use Prim.Native.Nat.{ℕ}
use mathlib.Core.Path.{◌≡◌, sym}
use mathlib.Core.List.{List}
use mathlib.Core.Option.{none}
use lib.ListN.{length}
use Rattle.image.specs.Image.{sizes_of}
use Rattle.checking.proofs.Checked.{Checked}
use Rattle.cycle.specs.Cycle.{Verdict, FirstFlow}
use Rattle.cycle.specs.State.{state_length}
use Rattle.cycle.specs.Calls.{done, power_up_refusal, power_up_of, step_refusal, step_of, run_refusal, run_of}
use Rattle.cycle.proofs.Calls.{either_way, power_up_none, power_up_refused, step_refused, run_refused}
use Rattle.doubling.specs.Doubling.{double_refusal, double_of}
use Rattle.doubling.proofs.Checks.{double_refused}
use Rattle.static_run.specs.StaticCalls.{static_run_refusal, static_run_of}
use Rattle.static_run.proofs.StaticRefused.{static_refused}
use Rattle.claims.proofs.Unchanged.{not_refused, not_some}

pub powered : (s a : List ℕ) → (power_up_of s a).refusal ≡ none → Checked s × (length a ≡ state_length (sizes_of s))
powered s a h =
    either_way (power_up_refusal s a) (λ e. (power_up_none s a).0 e)
    (λ r e. absurd (not_some (sym (rw (power_up_refused s a r e) at h))))

pub step_taken : (s st row nets : List ℕ) {v : Verdict} → (step_of s st row nets).answer ≡ done v → step_refusal s st row nets ≡ none
step_taken s st row nets h =
    either_way (step_refusal s st row nets) (λ e. e) (λ r e. absurd (not_refused (sym (rw (step_refused s st row nets r e) at h))))

pub run_taken : (s st : List ℕ) (k : ℕ) (rows outputs : List ℕ) {f : FirstFlow} → (run_of s st k rows outputs).answer ≡ done f → run_refusal s st k rows outputs ≡ none
run_taken s st k rows outputs h =
    either_way (run_refusal s st k rows outputs) (λ e. e) (λ r e. absurd (not_refused (sym (rw (run_refused s st k rows outputs r e) at h))))

pub static_run_taken : (s st : List ℕ) (k : ℕ) (rows outputs : List ℕ) {f : FirstFlow} → (static_run_of s st k rows outputs).answer ≡ done f
    → static_run_refusal s st k rows outputs ≡ none
static_run_taken s st k rows outputs h =
    either_way (static_run_refusal s st k rows outputs) (λ e. e) (λ r e. absurd (not_refused (sym (rw (static_refused s st k rows outputs r e) at h))))

pub double_taken : (s buf : List ℕ) → (double_of s buf).refusal ≡ none → double_refusal s buf ≡ none
double_taken s buf h = either_way (double_refusal s buf) (λ e. e) (λ r e. absurd (not_some (sym (rw (double_refused s buf r e) at h))))
