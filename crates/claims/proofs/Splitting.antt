-- The two bytes for each byte, in the doubled netlist: where its value and its mark stand.
use Prim.Native.Nat.{ℕ, zero, suc, ◌+◌, ◌*◌, ◌/◌, ◌%◌}
use native.Mathlib.Omega.{arith}
use mathlib.Core.Path.{◌≡◌, refl}
use mathlib.Core.List.{List, [], ◌∷◌}
use lib.ListN.{get_or}
use Rattle.groups.specs.Groups.{split}
use Rattle.doubling.proofs.Simulation.{split_length, two_more}
use Rattle.claims.specs.InBytes.{InTwo}

two_one_more : (j : ℕ) → 2 * suc j + 1 ≡ suc (suc (2 * j + 1))
two_one_more j = omega arith

pub split_value : (xs : List ℕ) (j : ℕ) → get_or (split xs) (2 * j) 0 ≡ get_or xs j 0 % 2
unfolding split
split_value [] j = refl
split_value (x ∷ xs) zero = refl
split_value (x ∷ xs) (suc j) = rw (two_more j) (split_value xs j)

pub split_mark : (xs : List ℕ) (j : ℕ) → get_or (split xs) (2 * j + 1) 0 ≡ get_or xs j 0 / 2
unfolding split
split_mark [] j = refl
split_mark (x ∷ xs) zero = refl
split_mark (x ∷ xs) (suc j) = rw (two_one_more j) (split_mark xs j)

pub split_in_two : (xs : List ℕ) → InTwo xs (split xs)
split_in_two xs = record { size = split_length xs; values = λ i l. split_value xs i; marks = λ i l. split_mark xs i }

-- bytes that stand so are the two bytes for each
rest_in_two : {x y z : ℕ} {xs ys : List ℕ} → InTwo (x ∷ xs) (y ∷ z ∷ ys) → InTwo xs ys
rest_in_two h =
    record {
      size = omega (arith, h.size);
      values = λ i l. rw (two_more i) at (h.values (suc i) (omega arith));
      marks = λ i l. rw (two_one_more i) at (h.marks (suc i) (omega arith));
    }

pub in_two : (xs ys : List ℕ) → InTwo xs ys → ys ≡ split xs
unfolding split
in_two [] [] h = refl
in_two [] (y ∷ ys) h = absurd (omega (arith, h.size))
in_two (x ∷ xs) [] h = absurd (omega (arith, h.size))
in_two (x ∷ xs) (y ∷ []) h = absurd (omega (arith, h.size))
in_two (x ∷ xs) (y ∷ z ∷ ys) h =
    let v : y ≡ x % 2 = h.values 0 (omega arith) in
    let t : z ≡ x / 2 = h.marks 0 (omega arith) in
    rw (v, t, in_two xs ys (rest_in_two h))
