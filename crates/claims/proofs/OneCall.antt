-- One call, a step or a run: what demand 3 says of a list of one call.
use Prim.Native.Nat.{ℕ}
use native.Mathlib.Omega.{arith}
use mathlib.Core.Path.{◌≡◌, refl}
use mathlib.Core.List.{List, [], ◌∷◌}
use Rattle.gates.specs.Relations.{Agree}
use Rattle.cycle.specs.State.{AgreeStates}
use Rattle.refusals.specs.declared.answer.Refusal.{Refusal}
use Rattle.claims.specs.History.{Call, CallAnswer, CallResult, call_result, TurnedBack, Finished}
use Rattle.claims.specs.TwoRun.{turned_back, finished, SameCalls}
use Rattle.claims.proofs.History.{made_is}

-- an answer that is no refusal is not one
not_back : {r : Refusal} {a b : CallAnswer} → TurnedBack r a → Finished b → a ≡ b → ⊥
not_back TurnedBack.a_step Finished.a_step e = let z : ◌≡◌ {A = ℕ} 0 1 = cc in omega arith
not_back TurnedBack.a_step Finished.a_run e = let z : ◌≡◌ {A = ℕ} 0 1 = cc in omega arith
not_back TurnedBack.a_run Finished.a_step e = let z : ◌≡◌ {A = ℕ} 0 1 = cc in omega arith
not_back TurnedBack.a_run Finished.a_run e = let z : ◌≡◌ {A = ℕ} 0 1 = cc in omega arith

pub record SameResult (s : List ℕ) (m n : CallResult) : Type 0 where
  pub answer : m.answer ≡ n.answer
  pub buffer : Agree m.buffer n.buffer
  pub state : AgreeStates s m.state n.state

pub same_one : {s st st' : List ℕ} {c d : Call} → SameCalls s st st' (c ∷ []) (d ∷ []) → Finished (call_result s st c).answer
    → SameResult s (call_result s st c) (call_result s st' d)
same_one (SameCalls.cons p q (turned_back r t u) a n) f = absurd (not_back (rw (made_is p) at t) f refl)
same_one (SameCalls.cons p q (finished t e b cycles) a n) f =
    record { answer = rw (made_is p, made_is q) at e; buffer = rw (made_is p, made_is q) at b; state = rw (made_is p, made_is q) at a }
