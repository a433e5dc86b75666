-- A number in decimal, and a number behind a word.
use Rattle.std.specs.Prelude.{ℕ, zero, suc, ◌+◌, ◌/◌, ◌%◌, List, [], ◌∷◌, ◌++◌, cond, ltb}
use Rattle.text.specs.Ascii.{space}

-- the decimal digits of a number that has at most so many, the most significant first
unfoldable pub digits_up_to : (most : ℕ) → ℕ → List ℕ
digits_up_to zero n = []
digits_up_to (suc most) n = cond (ltb n 10) ((48 + n) ∷ []) (digits_up_to most (n / 10) ++ ((48 + n % 10) ∷ []))

-- a number in decimal: a u64 has at most 20 digits
unfoldable pub decimal : ℕ → List ℕ
decimal n = digits_up_to 20 n

-- a word and a number, one space between
abbrev pub numbered : (word : List ℕ) → ℕ → List ℕ
numbered word n = word ++ space ++ decimal n
