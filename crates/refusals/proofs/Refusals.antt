-- Refusals that are not given: each test of a chain, as the fact that it leaves.
use Prim.Native.Nat.{ℕ, suc, ◌≤◌, ◌<◌}
use mathlib.Core.Logic.Iff
use mathlib.Core.Logic.{◌↔◌}
use mathlib.Core.Path.{◌≡◌, refl, sym, ap, ◌∙◌}
use Rattle.std.proofs.Common.{Result, Ok, Err}
use mathlib.Core.List.{List, [], ◌∷◌, Forall₂}
use mathlib.Core.Option.{Option, none, some}
use mathlib.Core.Bool.{Bool, true, false, ◌||◌, not}
use lib.Dec.{eqb, leb, ltb}
use lib.ListN.{length}
use borrow.Author.Tests.{ltb-false, leb-false, eqb-true, eqb-false, not-false, le-ltb, lt-leb, eq-eqb, ne_eqb}
use Rattle.gates.proofs.Laws.{Code}
use Rattle.refusals.specs.declared.answer.Refusal.{Refusal}
use Rattle.refusals.specs.Refusals.{refusal_in, refuse, ◌then◌, bad_above, bad_byte, bad_length}

-- what an answer says of the refusal that it gives, by its variant
pub passed : (o : Result (Unit {0}) Refusal) {done : Unit {0}} {p : Option Refusal} → refusal_in o ≡ p → o ≡ Ok done → p ≡ none
passed o tried well = sym tried ∙ ap refusal_in well

pub turned : (o : Result (Unit {0}) Refusal) {r : Refusal} {p : Option Refusal} → refusal_in o ≡ p → o ≡ Err r → p ≡ some r
turned o tried bad = sym tried ∙ ap refusal_in bad

pub then_none : (p q : Option Refusal) → (p then q ≡ none) ↔ ((p ≡ none) × (q ≡ none))
then_none none q = (λ h. (refl, h), λ h. h.1)
then_none (some r) q = (λ h. (h, cc), λ h. h.0)

pub then_assoc : (p q r : Option Refusal) → (p then (q then r)) ≡ ((p then q) then r)
then_assoc none q r = refl
then_assoc (some x) q r = refl

pub refuse_none : (c : Bool) (number place : ℕ) → (refuse c number place ≡ none) ↔ (c ≡ false)
refuse_none true number place = (λ h. cc, λ h. cc)
refuse_none false number place = (λ h. refl, λ h. refl)

pub neither : (a b : Bool) → (a || b ≡ false) ↔ ((a ≡ false) × (b ≡ false))
neither true b = (λ h. (h, cc), λ h. h.0)
neither false b = (λ h. (refl, h), λ h. h.1)

-- the tests
pub not_above : (a b : ℕ) → (ltb a b ≡ false) ↔ (b ≤ a)
not_above a b = (ltb-false a b, le-ltb a b)

pub not_from : (a b : ℕ) → (leb a b ≡ false) ↔ (b < a)
not_from a b = (leb-false a b, lt-leb a b)

pub not_other : (a b : ℕ) → (not (eqb a b) ≡ false) ↔ (a ≡ b)
not_other a b = (λ h. eqb-true a b (not-false (eqb a b) h), λ h. rw (eq-eqb a b h))

pub not_same : (a b : ℕ) → (eqb a b ≡ false) ↔ (a ≡ b → ⊥)
not_same a b = (eqb-false a b, ne_eqb a b)

-- the bytes of a list are codes, 0 to 3
abbrev pub Codes : List ℕ → Type 0
Codes xs = Forall₂ Code xs xs

-- no byte of a list is bad: each has the property A, which is a relation that looks at its first byte alone
module _ (bad : ℕ → Bool) {A : ℕ → ℕ → Type 0} (good : (x y : ℕ) → (bad x ≡ false) ↔ A x y) where
  none_found : (number i : ℕ) (xs : List ℕ) → bad_byte bad number i xs ≡ none → Forall₂ A xs xs
  unfolding bad_byte
  none_found number i [] h = Forall₂.nil
  none_found number i (x ∷ xs) h = let t = simp (then_none, refuse_none) at h in Forall₂.cons ((good x x).0 t.0) (none_found number (suc i) xs t.1)

  no_bad_byte : (number i : ℕ) {xs ys : List ℕ} → Forall₂ A xs ys → bad_byte bad number i xs ≡ none
  unfolding bad_byte
  no_bad_byte number i Forall₂.nil = refl
  no_bad_byte number i (Forall₂.cons {a = x} {b = y} h t) = simp (then_none, refuse_none) ((good x y).1 h, no_bad_byte number (suc i) t)

  pub none_bad : (number i : ℕ) (xs : List ℕ) → (bad_byte bad number i xs ≡ none) ↔ Forall₂ A xs xs
  none_bad number i xs = (none_found number i xs, no_bad_byte number i)

-- of the plain bytes: 5 is above 3 anyway
above_3 : (x : ℕ) → bad_above 3 x ≡ ltb 3 x
above_3 x = by_5 (eqb x 5) refl
  where
    by_5 : (b : Bool) → eqb x 5 ≡ b → (b || ltb 3 x) ≡ ltb 3 x
    by_5 true e = rw (eqb-true x 5 e)
    by_5 false e = refl

pub plain_bad : (number i : ℕ) (xs : List ℕ) → bad_byte (bad_above 3) number i xs ≡ bad_byte (ltb 3) number i xs
unfolding bad_byte
plain_bad number i [] = refl
plain_bad number i (x ∷ xs) = rw (above_3 x, plain_bad number (suc i) xs)

pub byte_none : (number i : ℕ) (xs : List ℕ) → (bad_byte (ltb 3) number i xs ≡ none) ↔ Codes xs
byte_none = none_bad (ltb 3) (λ x y. not_above 3 x)

pub length_none : (number n : ℕ) (xs : List ℕ) → (bad_length number n xs ≡ none) ↔ (length xs ≡ n)
unfolding bad_length
length_none number n xs = simp (refuse_none, not_other) Iff.rfl

-- a chain of refusals, none of which is given
pub ruleset accepted = (then_none, refuse_none, neither, not_above, not_from, not_other, not_same, byte_none, length_none)
