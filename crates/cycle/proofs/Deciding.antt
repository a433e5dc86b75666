-- Two numbers: the same or not, and the one below the other or not.
use Prim.Native.Nat.{ℕ, suc, ◌≤◌, ◌<◌}
use native.Mathlib.Nat.{eq-or-lt_of_le, le_of_suc-le-suc}
use mathlib.Core.Logic.{◌⊎◌, inl, inr}
use mathlib.Core.Path.{◌≡◌, refl}
use mathlib.Core.Bool.{Bool, true, false}
use lib.Dec.{eqb, leb}
use borrow.Author.Tests.{eqb-true, eqb-false, leb-true, leb-false}

pub same_or_not : (i j : ℕ) → (i ≡ j) ⊎ (i ≡ j → ⊥)
same_or_not i j = told (eqb i j) refl
  where
    told : (b : Bool) → eqb i j ≡ b → (i ≡ j) ⊎ (i ≡ j → ⊥)
    told true e = inl (eqb-true i j e)
    told false e = inr (eqb-false i j e)

pub below_or_here : (i j : ℕ) → j < suc i → (j ≡ i) ⊎ (j < i)
below_or_here i j l = eq-or-lt_of_le (le_of_suc-le-suc l)

pub there_or_not : (i n : ℕ) → (i < n) ⊎ (n ≤ i)
there_or_not i n = told (leb n i) refl
  where
    told : (b : Bool) → leb n i ≡ b → (i < n) ⊎ (n ≤ i)
    told true e = inr (leb-true n i e)
    told false e = inl (leb-false n i e)
