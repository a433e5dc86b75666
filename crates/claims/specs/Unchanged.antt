-- A call that turns back changes no lent byte. Checking and the doubled size are lent none. This holds of doubling too, since 17, which would set its buffer to 0, is never given.
use Rattle.std.specs.Prelude.{ℕ, ◌≡◌, List}
use Rattle.std.proofs.Math.Option.{some}
use Rattle.refusals.specs.declared.answer.Refusal.{Refusal}
use Rattle.cycle.specs.Calls.{refused, power_up_of, step_of, run_of}
use Rattle.doubling.specs.Doubling.{double_of}
use Rattle.static_run.specs.StaticCalls.{static_power_up_of, static_run_of}
use Rattle.paging.specs.Paging.{page_of}

-- proved as `unchanged`
pub record Unchanged : Type 0 where
  pub power_up : (s st : List ℕ) (r : Refusal) → (power_up_of s st).refusal ≡ some r → (power_up_of s st).state ≡ st
  pub step :
      (s st row nets : List ℕ) (r : Refusal) → (step_of s st row nets).answer ≡ refused r
      → ((step_of s st row nets).state ≡ st) × ((step_of s st row nets).nets ≡ nets)
  pub run :
      (s st : List ℕ) (k : ℕ) (rows outputs : List ℕ) (r : Refusal) → (run_of s st k rows outputs).answer ≡ refused r
      → ((run_of s st k rows outputs).state ≡ st) × ((run_of s st k rows outputs).outputs ≡ outputs)
  pub static_power_up : (s st : List ℕ) (r : Refusal) → (static_power_up_of s st).refusal ≡ some r → (static_power_up_of s st).state ≡ st
  pub static_run :
      (s st : List ℕ) (k : ℕ) (rows outputs : List ℕ) (r : Refusal) → (static_run_of s st k rows outputs).answer ≡ refused r
      → ((static_run_of s st k rows outputs).state ≡ st) × ((static_run_of s st k rows outputs).outputs ≡ outputs)
  pub double : (s buf : List ℕ) (r : Refusal) → (double_of s buf).refusal ≡ some r → (double_of s buf).buffer ≡ buf
  pub page : (s : List ℕ) (k : ℕ) (outputs buf : List ℕ) (r : Refusal) → (page_of s k outputs buf).refusal ≡ some r → (page_of s k outputs buf).page ≡ buf
