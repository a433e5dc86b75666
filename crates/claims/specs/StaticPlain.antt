-- "Without unknowns and without start 2 the bytes are those of the run."
use Rattle.std.specs.Prelude.{ℕ, ◌+◌, ◌≡◌, List, length}
use Rattle.std.proofs.Math.Option.{none}
use Rattle.gates.specs.Kinds.{REG}
use Rattle.image.specs.Image.{sizes_of, nets_of}
use Rattle.checking.specs.Check.{check_refusal}
use Rattle.cycle.specs.Cycle.{plain, cycles_of}
use Rattle.cycle.specs.State.{with_count}
use Rattle.cycle.specs.Calls.{power_up_of, counting, run_of}
use Rattle.static_run.specs.StaticCalls.{static, static_power_up_of, static_run_of}
use Rattle.claims.specs.Accepted.{NoneAbove3}
use Rattle.claims.specs.Reading.{net_of}

-- no register has start 2
abbrev pub NoStart2 : (s : List ℕ) → Type 0
NoStart2 s = (i : ℕ) → (net_of s i).kind ≡ REG → (net_of s i).b ≡ 2 → ⊥

-- power-up without start 2, and cycles and runs without unknowns: answer and all bytes, of refused calls too. A static state is compared with the register bytes of a plain one
pub record AsPlain (s : List ℕ) : Type 0 where
  pub power_up_refusal_lem : (st st' : List ℕ) → length st' ≡ length st + 2 → (power_up_of s st').refusal ≡ (static_power_up_of s st).refusal
  pub power_up :
      NoStart2 s → (st st' : List ℕ) → (static_power_up_of s st).refusal ≡ none → (power_up_of s st').refusal ≡ none
      → (power_up_of s st').state ≡ with_count (static_power_up_of s st).state
  pub cycles :
      check_refusal s ≡ none → (k : ℕ) (rows st : List ℕ) → NoneAbove3 rows → NoneAbove3 st
      → cycles_of static (nets_of s) (sizes_of s).inputs k rows st ≡ cycles_of plain (nets_of s) (sizes_of s).inputs k rows st
  pub run :
      (rs : List ℕ) (k : ℕ) (rows outputs : List ℕ) → NoneAbove3 rows → NoneAbove3 rs
      → run_of s (with_count rs) k rows outputs ≡ counting (static_run_of s rs k rows outputs)

-- proved as `static_plain`
abbrev pub StaticPlain : Type 0
StaticPlain = (s : List ℕ) → AsPlain s
