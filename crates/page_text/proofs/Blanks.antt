-- Blanks, and texts that are set left or right: how long they are.
use Prim.Native.Nat.{ℕ, zero, suc, ◌-◌, ◌≤◌}
use native.Mathlib.Omega.{arith}
use mathlib.Core.Path.{◌≡◌, refl, ap}
use mathlib.Core.List.{List, ◌∷◌}
use lib.ListN.{length, take, length-append, length-replicate}
use Rattle.page_text.specs.Pages.{blanks, set_left, set_right}

pub take_blanks : (n m : ℕ) → n ≤ m → take n (blanks m) ≡ blanks n
take_blanks zero m h = refl
take_blanks (suc n) zero h = absurd (omega arith)
take_blanks (suc n) (suc m) h = ap (λ l. 32 ∷ l) (take_blanks n m (omega arith))

pub left_length : (columns : ℕ) (text : List ℕ) → length text ≤ columns → length (set_left columns text) ≡ columns
unfolding set_left
left_length columns text h = omega (arith, length-append text (blanks (columns - length text)), length-replicate {A = ℕ} (columns - length text) 32)

pub right_length : (columns : ℕ) (text : List ℕ) → length text ≤ columns → length (set_right columns text) ≡ columns
unfolding set_right
right_length columns text h = omega (arith, length-append (blanks (columns - length text)) text, length-replicate {A = ℕ} (columns - length text) 32)
