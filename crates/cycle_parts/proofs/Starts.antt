-- At plain power-up a register without a start wakes with 2: value 0 and mark 1.
use Prim.Native.Nat.{ℕ}
use mathlib.Core.Path.{◌≡◌, refl, ap₂}
use mathlib.Core.List.{List, [], ◌∷◌}
use mathlib.Core.Bool.{Bool, true, false, cond}
use lib.Dec.{eqb}
use borrow.Author.Tests.{eqb-true}
use Rattle.gates.specs.Kinds.{REG}
use Rattle.gates.specs.Rules.{byte}
use Rattle.image.specs.declared.image.Net.{Net}
use Rattle.cycle.specs.Cycle.{registers}
use Rattle.cycle.specs.Calls.{start, starts}
use Rattle.cycle_parts.specs.Starting.{start_by, starts_by}

wakes_2 : (b : ℕ) → start_by 2 b ≡ start b
unfolding start_by start byte
wakes_2 b = told (eqb b 2) refl
  where
    told : (c : Bool) → eqb b 2 ≡ c → cond c 2 (start b) ≡ start b
    told true e = rw (eqb-true b 2 e)
    told false e = refl

pub plain_starts : (xs : List Net) → starts_by 2 xs ≡ starts xs
unfolding starts_by starts registers
plain_starts [] = refl
plain_starts (x ∷ xs) = one (eqb x.kind REG) (plain_starts xs)
  where
    one : (c : Bool) {ys zs : List ℕ} → ys ≡ zs → cond c (start_by 2 x.b ∷ ys) ys ≡ cond c (start x.b ∷ zs) zs
    one true e = ap₂ (λ y ys. y ∷ ys) (wakes_2 x.b) e
    one false e = e
