-- The elements of a list tried in turn, each for its refusals: when none is given, and which one otherwise.
use Prim.Native.Nat.{ℕ, zero, suc, ◌<◌}
use native.Mathlib.Omega.{arith}
use mathlib.Core.Path.{◌≡◌, ◌∙◌}
use mathlib.Core.List.{List, [], ◌∷◌}
use mathlib.Core.Option.{Option, none, some}
use lib.ListN.{length, get_or}
use Rattle.refusals.specs.declared.answer.Refusal.{Refusal}
use Rattle.refusals.specs.Refusals.{◌then◌}
use Rattle.refusals.proofs.Refusals.{then_none}
use Rattle.cycle.proofs.Calls.{either_way}
use Rattle.claims.proofs.Unchanged.{not_some}

-- f i x is what element x draws at place i, and chain i xs what the elements xs draw, the first of which has place i
pub record InTurn {A : Type 0} (f : ℕ → A → Option Refusal) (chain : ℕ → List A → Option Refusal) : Type 0 where
  pub at_end : (i : ℕ) → chain i [] ≡ none
  pub next : (i : ℕ) (x : A) (xs : List A) → chain i (x ∷ xs) ≡ f i x then chain (suc i) xs

-- element j is the first that draws a refusal, and draws r
pub record FirstDrawn {A : Type 0} (d : A) (f : ℕ → A → Option Refusal) (xs : List A) (r : Refusal) (j : ℕ) : Type 0 where
  pub below : j < length xs
  pub before : (k : ℕ) → k < j → f k (get_or xs k d) ≡ none
  pub here : f j (get_or xs j d) ≡ some r

module _ {A : Type 0} (d : A) where
  -- one place further on
  later : {f : ℕ → A → Option Refusal} {chain : ℕ → List A → Option Refusal} → InTurn f chain → InTurn (λ i. f (suc i)) (λ i. chain (suc i))
  later t = record { at_end = λ i. t.at_end (suc i); next = λ i. t.next (suc i) }

  -- none is drawn by the first, and none by those behind it
  front : (f : ℕ → A → Option Refusal) (x : A) (xs : List A) {n : ℕ} → f 0 x ≡ none → ((k : ℕ) → k < n → f (suc k) (get_or xs k d) ≡ none)
      → (k : ℕ) → k < suc n → f k (get_or (x ∷ xs) k d) ≡ none
  front f x xs h hs zero l = h
  front f x xs h hs (suc k) l = hs k (omega arith)

  pub none_drawn : {f : ℕ → A → Option Refusal} {chain : ℕ → List A → Option Refusal} → InTurn f chain
      → (xs : List A) → chain 0 xs ≡ none → (j : ℕ) → j < length xs → f j (get_or xs j d) ≡ none
  none_drawn t [] h = λ j l. absurd (omega arith)
  none_drawn {f} {chain} t (x ∷ xs) h = let e = simp then_none at (rw (t.next 0 x xs) at h) in front f x xs e.0 (none_drawn {f = λ i. f (suc i)} {chain = λ i. chain (suc i)} (later t) xs e.1)

  pub none_given : {f : ℕ → A → Option Refusal} {chain : ℕ → List A → Option Refusal} → InTurn f chain
      → (xs : List A) → ((j : ℕ) → j < length xs → f j (get_or xs j d) ≡ none) → chain 0 xs ≡ none
  none_given t [] h = t.at_end 0
  none_given {f} {chain} t (x ∷ xs) h = rw (t.next 0 x xs) (rw (h 0 (omega arith)) (none_given {f = λ i. f (suc i)} {chain = λ i. chain (suc i)} (later t) xs (λ j l. h (suc j) (omega arith))))

  pub given_first : {f : ℕ → A → Option Refusal} {chain : ℕ → List A → Option Refusal} {r : Refusal} → InTurn f chain
      → (xs : List A) (j : ℕ) → FirstDrawn d f xs r j → chain 0 xs ≡ some r
  given_first t [] j w = absurd (omega (arith, w.below))
  given_first t (x ∷ xs) zero w = rw (t.next 0 x xs, w.here)
  given_first {f} {chain} t (x ∷ xs) (suc j) w =
      rw (t.next 0 x xs) (rw (w.before 0 (omega arith))
      (given_first {f = λ i. f (suc i)} {chain = λ i. chain (suc i)} (later t) xs j (record { below = omega (arith, w.below); before = λ k l. w.before (suc k) (omega arith); here = w.here })))

  pub first_given : {f : ℕ → A → Option Refusal} {chain : ℕ → List A → Option Refusal} {r : Refusal} → InTurn f chain
      → (xs : List A) → chain 0 xs ≡ some r → (j : ℕ) × FirstDrawn d f xs r j
  first_given t [] h = absurd (not_some (rw (t.at_end 0) at h))
  first_given {f} {chain} t (x ∷ xs) h =
      let e = rw (t.next 0 x xs) at h in
      either_way (f 0 x)
      (λ n. let w = first_given {f = λ i. f (suc i)} {chain = λ i. chain (suc i)} (later t) xs (rw n at e) in
      (suc w.0, record { below = omega (arith, w.1.below); before = front f x xs n w.1.before; here = w.1.here }))
      (λ q s. (0, record { below = omega arith; before = λ k l. absurd (omega arith); here = s ∙ (rw s at e) }))
