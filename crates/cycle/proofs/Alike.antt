-- What is read off the bytes of the nets of a list: the same of bytes that are alike for these nets, whatever else stands behind them.
use Prim.Native.Nat.{ℕ, suc, ◌+◌, ◌≤◌, ◌<◌}
use native.Mathlib.Omega.{arith}
use mathlib.Core.Path.{◌≡◌, refl}
use mathlib.Core.List.{List, [], ◌∷◌}
use mathlib.Core.Bool.{Bool, true, false, cond}
use borrow.Author.Tests.{eqb-true}
use lib.Dec.{eqb}
use lib.ListN.{length, get_or}
use Rattle.gates.specs.Kinds.{REG}
use Rattle.image.specs.declared.image.Net.{Net}
use Rattle.net_checking.proofs.Passes.{register_pin}
use Rattle.checking.proofs.Checked.{AllPass, nil, cons}
use Rattle.cycle.specs.Cycle.{Rule, pin_byte, verdict_from, outputs_from, registers, clocked}
use Rattle.cycle.proofs.Ruling.{pin_same}

module _ {n : ℕ} (bs cs : List ℕ) (alike : (j : ℕ) → j < n → get_or bs j 0 ≡ get_or cs j 0) where
  pub outputs_alike : (i : ℕ) (xs : List Net) → i + length xs ≤ n → outputs_from i xs bs ≡ outputs_from i xs cs
  unfolding outputs_from
  outputs_alike i [] h = refl
  outputs_alike i (x ∷ xs) h = rw (alike i (omega arith), outputs_alike (suc i) xs (omega arith))

  pub verdict_alike : (marked : ℕ → Bool) (i : ℕ) (xs : List Net) → i + length xs ≤ n → verdict_from marked i xs bs ≡ verdict_from marked i xs cs
  unfolding verdict_from
  verdict_alike marked i [] h = refl
  verdict_alike marked i (x ∷ xs) h = rw (alike i (omega arith), verdict_alike marked (suc i) xs (omega arith))

  pub clocked_alike : (rule : Rule) {i : ℕ} {xs : List Net} → AllPass n i xs → clocked rule xs bs ≡ clocked rule xs cs
  unfolding clocked registers
  clocked_alike rule nil = refl
  clocked_alike rule (cons {x = x} {xs = xs} p ps) = one (eqb x.kind REG) refl (clocked_alike rule ps)
    where
      one : (b : Bool) → eqb x.kind REG ≡ b → clocked rule xs bs ≡ clocked rule xs cs
          → cond b (pin_byte rule bs x.a ∷ clocked rule xs bs) (clocked rule xs bs) ≡ cond b (pin_byte rule cs x.a ∷ clocked rule xs cs) (clocked rule xs cs)
      one true e rest = rw (pin_same rule bs cs x.a (alike _ (register_pin p (eqb-true x.kind REG e))), rest)
      one false e rest = rest
