-- The first bad byte of a list, by its position: the refusal there, and none where no byte is bad.
use Rattle.std.proofs.Common.{arith, ℕ, ◌+◌, Bool, true, false, ◌||◌, cond, List, [], ◌∷◌, ◌≡◌, refl, sym, fold, position, Option, Some, None}
use Rattle.std.specs.List.{position_from}
use Rattle.std.proofs.lemmas.Iterator.Adapters.{position_from-zero}
use native.Mathlib.Numerals.{add-one}
use Rattle.std.proofs.Math.Option.{none, some}
use Rattle.std.proofs.Math.Option as math
use Rattle.refusals.specs.declared.answer.Refusal.{Refusal}
use Rattle.refusals.specs.Refusals.{refusal, bad_byte}

-- the refusal at a position, where there is one
abbrev pub at_position : (number : ℕ) → Option ℕ → math.Option Refusal
at_position number None = none
at_position number (Some i) = some (refusal number i)

module _ (bad : ℕ → Bool) where
  from_place : (number i : ℕ) (xs : List ℕ) → bad_byte bad number i xs ≡ at_position number (position_from bad i xs)
  unfolding bad_byte
  from_place number i [] = refl
  from_place number i (x ∷ xs) = by_first (bad x) refl (from_place number (i + 1) xs)
    where
      by_first : (b : Bool) → bad x ≡ b → bad_byte bad number (i + 1) xs ≡ at_position number (position_from bad (i + 1) xs) → bad_byte bad number i (x ∷ xs) ≡ at_position number (position_from bad i (x ∷ xs))
      by_first true e h = rw e
      by_first false e h = rw (e, sym (add-one i)) h

  pub bad_position : (number : ℕ) (xs : List ℕ) → bad_byte bad number 0 xs ≡ at_position number (position bad xs)
  bad_position number xs = rw (position_from-zero bad xs) (from_place number 0 xs)

  -- a list that holds no bad byte
  stays : (xs : List ℕ) → fold (λ b x. b || bad x) true xs ≡ true
  stays [] = refl
  stays (x ∷ xs) = stays xs

  none_from : (i : ℕ) (xs : List ℕ) → fold (λ b x. b || bad x) false xs ≡ false → position_from bad i xs ≡ None
  none_from i [] h = refl
  none_from i (x ∷ xs) h = by_first (bad x) (none_from (i + 1) xs) h
    where
      by_first : (b : Bool) → (fold (λ b x. b || bad x) false xs ≡ false → position_from bad (i + 1) xs ≡ None) → fold (λ b x. b || bad x) b xs ≡ false → cond b (Some i) (position_from bad (i + 1) xs) ≡ None
      by_first true later h = grind (arith, h, stays xs)
      by_first false later h = later h

  pub no_position : (xs : List ℕ) → fold (λ b x. b || bad x) false xs ≡ false → position bad xs ≡ None
  no_position xs h = grind (arith, position_from-zero bad xs, none_from 0 xs h)
