-- The reason in the text of an error, in front of the number that the system has for it: No space left on device (os error 28).
use Rattle.std.specs.Prelude.{ℕ, List, [], ◌∷◌, Option, MatchOption, ◌≡◌, take}
use Rattle.std.specs.Str.Pattern.{FindsText}

-- the bytes " (os error "
abbrev pub before_number : List ℕ
before_number = 32 ∷ 40 ∷ 111 ∷ 115 ∷ 32 ∷ 101 ∷ 114 ∷ 114 ∷ 111 ∷ 114 ∷ 32 ∷ []

-- the reason is what stands before the first of these bytes, or the whole text where they are not in it
abbrev pub IsReason : (text reason : List ℕ) → Type 0
IsReason text reason =
    (place : Option (ℕ × ℕ)) × FindsText before_number text place × MatchOption place (reason ≡ text) (λ q. reason ≡ take q.0 text)
