-- A number as it is printed is read as that number again.
use Rattle.std.specs.Prelude.{ℕ, ◌+◌, ◌*◌, ◌-◌, ◌^◌, ◌<◌, ◌≡◌, List, [], ◌∷◌}
use Rattle.text.specs.Decimal.{decimal}

-- the number that decimal digits say, the most significant first, behind those that said n
unfoldable pub number_from : (n : ℕ) → List ℕ → ℕ
number_from n [] = n
number_from n (d ∷ ds) = number_from (10 * n + (d - 48)) ds

-- proved as `numbers_read`
abbrev pub NumbersRead : Type 0
NumbersRead = (n : ℕ) → n < 10 ^ 20 → number_from 0 (decimal n) ≡ n
