-- A call that turns back changes no lent byte.
use Prim.Native.Nat.{ℕ}
use mathlib.Core.Path.{◌≡◌, refl}
use mathlib.Core.Option.{none, some}
use native.Mathlib.Omega.{arith}
use Rattle.refusals.specs.declared.answer.Refusal.{Refusal}
use Rattle.cycle.specs.Calls.{done, refused, power_up_refusal, as_step, step_refusal, as_run, counting, run_refusal}
use Rattle.cycle.proofs.Calls.{either_way, power_up_accepted, power_up_refused, step_accepted, step_refused, run_accepted, run_refused}
use Rattle.doubling.specs.Doubling.{double_refusal}
use Rattle.doubling.proofs.Checks.{double_accepted, double_refused}
use Rattle.static_run.specs.StaticCalls.{static_power_up_refusal, static_run_refusal}
use Rattle.static_run.proofs.StaticRefused.{static_power_up_accepted, static_power_up_refused, static_accepted, static_refused}
use Rattle.paging.specs.Paging.{page_refusal}
use Rattle.paging.proofs.PageCalls.{page_accepted, page_refused}
use Rattle.claims.specs.Unchanged.{Unchanged}

-- what is done is not refused
pub not_refused : {A : Type 0} {a : A} {r : Refusal} → done a ≡ refused r → ⊥
not_refused h = let z : ◌≡◌ {A = ℕ} 0 1 = cc in omega arith

pub not_some : {r : Refusal} → none ≡ some r → ⊥
not_some h = let z : ◌≡◌ {A = ℕ} 0 1 = cc in omega arith

pub unchanged : Unchanged
unfolding as_step as_run counting
unchanged =
    record {
      power_up = λ s st r h.
          either_way (power_up_refusal s st) (λ e. absurd (not_some (rw (power_up_accepted s st e) at h))) (λ q e. rw (power_up_refused s st q e));
      step = λ s st row nets r h.
          either_way (step_refusal s st row nets)
          (λ e. absurd (not_refused (rw (step_accepted s st row nets e) at h)))
          (λ q e. rw (step_refused s st row nets q e) (refl, refl));
      run = λ s st k rows outputs r h.
          either_way (run_refusal s st k rows outputs)
          (λ e. absurd (not_refused (rw (run_accepted s st k rows outputs e) at h)))
          (λ q e. rw (run_refused s st k rows outputs q e) (refl, refl));
      static_power_up = λ s st r h.
          either_way (static_power_up_refusal s st)
          (λ e. absurd (not_some (rw (static_power_up_accepted s st e) at h)))
          (λ q e. rw (static_power_up_refused s st q e));
      static_run = λ s st k rows outputs r h.
          either_way (static_run_refusal s st k rows outputs)
          (λ e. absurd (not_refused (rw (static_accepted s st k rows outputs e) at h)))
          (λ q e. rw (static_refused s st k rows outputs q e) (refl, refl));
      double = λ s buf r h.
          either_way (double_refusal s buf) (λ e. absurd (not_some (rw (double_accepted s buf e) at h))) (λ q e. rw (double_refused s buf q e));
      page = λ s k outputs buf r h.
          either_way (page_refusal s k outputs buf)
          (λ e. absurd (not_some (rw (page_accepted s k outputs buf e) at h)))
          (λ q e. rw (page_refused s k outputs buf q e));
    }
