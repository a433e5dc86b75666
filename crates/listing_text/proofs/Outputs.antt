-- The digits of outputs, of which there may be none.
use native.Mathlib.Omega.{arith}
use Prim.Native.Nat.{ℕ, max}
use mathlib.Core.Path.{◌≡◌, refl}
use mathlib.Core.Bool.{true, false}
use mathlib.Core.List.{List, [], ◌∷◌, map}
use lib.Dec.{eqb}
use lib.ListN.{length, length-map}
use borrow.Author.Tests.{eqb-true, eqb-false}
use Rattle.listing_text.specs.Lines.{dash, digit, output_digits}

-- no output is a -
pub no_outputs : (xs : List ℕ) → eqb (length xs) 0 ≡ true → output_digits xs ≡ dash
unfolding output_digits
no_outputs [] h = refl
no_outputs (x ∷ xs) h = let none = eqb-true (length (x ∷ xs)) 0 h in absurd (omega arith)

pub some_outputs : (xs : List ℕ) → eqb (length xs) 0 ≡ false → output_digits xs ≡ map digit xs
unfolding output_digits
some_outputs [] h = absurd (eqb-false 0 0 h refl)
some_outputs (x ∷ xs) h = refl

pub length_digits : (xs : List ℕ) → length (output_digits xs) ≡ max (length xs) 1
unfolding output_digits
length_digits [] = refl
length_digits (x ∷ xs) = omega (arith, length-map xs digit)
