-- A number as it is printed is read as that number again.
use Prim.Native.Nat.{ℕ, zero, suc, ◌+◌, ◌*◌, ◌-◌, ◌/◌, ◌%◌, ◌^◌, ◌<◌}
use native.Mathlib.Omega.{arith}
use mathlib.Core.Path.{◌≡◌, refl, ◌∙◌}
use mathlib.Core.List.{List, [], ◌∷◌, ◌++◌}
use mathlib.Core.Bool.{Bool, true, false, cond}
use lib.Dec.{ltb}
use Rattle.text.specs.Decimal.{digits_up_to, decimal}
use Rattle.text.specs.Numbers.{number_from, NumbersRead}

-- one digit more
last_digit : (m : ℕ) (ds : List ℕ) (d : ℕ) → number_from m (ds ++ (48 + d) ∷ []) ≡ 10 * number_from m ds + d
unfolding number_from
last_digit m [] d = omega arith
last_digit m (x ∷ ds) d = last_digit (10 * m + (x - 48)) ds d

pub digits_read : (most n : ℕ) → n < 10 ^ most → number_from 0 (digits_up_to most n) ≡ n
unfolding digits_up_to number_from
digits_read zero n h = omega arith
digits_read (suc most) n h = by_size (digits_read most (n / 10) (omega arith)) (ltb n 10) refl
  where
    by_size : number_from 0 (digits_up_to most (n / 10)) ≡ n / 10 → (t : Bool) → ltb n 10 ≡ t
        → number_from 0 (cond t ((48 + n) ∷ []) (digits_up_to most (n / 10) ++ (48 + n % 10) ∷ [])) ≡ n
    by_size ih true e = omega arith
    by_size ih false e = last_digit 0 (digits_up_to most (n / 10)) (n % 10) ∙ omega (arith, ih)

pub numbers_read : NumbersRead
unfolding decimal
numbers_read n h = digits_read 20 n h
