-- The rule by filling is exact: a code that covers every byte of a gate's fillings says no more than the gate's code.
use Prim.Native.Nat.{ℕ}
use mathlib.Core.Logic.{⊎_elim}
use mathlib.Core.Path.{◌≡◌, refl, sym, ◌∙◌}
use mathlib.Core.List.Memᴰ
use mathlib.Core.List.{List, [], ◌∷◌, flat_map, Memᴰ}
use mathlib.Core.Bool.{Bool, true, false, ◌||◌, cond, false≢true}
use lib.Dec.{eqb}
use Rattle.gates.specs.Rules.{value, mark, byte, gate_byte}
use Rattle.unknowns.specs.Filling.{known, fillings, filled, all_value, any_mark, code_of, static_byte}
use Rattle.unknowns.specs.Covering.{Covers}
use Rattle.unknowns.specs.StaticExactness.{SaysNoMore, StaticExact}
use Rattle.unknowns.proofs.Covered.{value_in, mem_filled, covers_gate, fills_covers}

-- what holds of every byte of a list
all_value_lem : (v : Bool) (xs : List ℕ) → ((y : ℕ) → Memᴰ y xs → value y ≡ v) → all_value v xs ≡ true
all_value_lem v [] h = refl
all_value_lem true (x ∷ xs) h = rw (h x (Memᴰ.head refl)) (all_value_lem true xs (λ y m. h y (Memᴰ.tail m)))
all_value_lem false (x ∷ xs) h = rw (h x (Memᴰ.head refl)) (all_value_lem false xs (λ y m. h y (Memᴰ.tail m)))

any_mark_lem : (xs : List ℕ) {A : Type 0} → any_mark xs ≡ true → ((y : ℕ) → Memᴰ y xs → mark y ≡ true → A) → A
any_mark_lem [] h f = absurd (false≢true h)
any_mark_lem (x ∷ xs) {A} h f = here (mark x) refl h (λ t. any_mark_lem xs t (λ y m. f y (Memᴰ.tail m)))
  where
    here : (m : Bool) → mark x ≡ m → (m || any_mark xs) ≡ true → (any_mark xs ≡ true → A) → A
    here true e t later = f x (Memᴰ.head refl) e
    here false e t later = later t

code_mark : (p q m : Bool) → mark (cond p (byte true m) (cond q (byte false m) (cond m 6 4))) ≡ m
unfolding mark byte
code_mark true q true = refl
code_mark true q false = refl
code_mark false true true = refl
code_mark false true false = refl
code_mark false false true = refl
code_mark false false false = refl

-- the code, where all bytes have the value v, and there is one
code_value : (v p q m : Bool) → (v ≡ true → p ≡ true) → (v ≡ false → (p ≡ false) × (q ≡ true))
    → let x = cond p (byte true m) (cond q (byte false m) (cond m 6 4)) in
    (known x ≡ true) × (value x ≡ v)
unfolding value byte
code_value true true q true f g = (refl, refl)
code_value true true q false f g = (refl, refl)
code_value true false q m f g = absurd (false≢true (f refl))
code_value false false true true f g = (refl, refl)
code_value false false true false f g = (refl, refl)
code_value false false false m f g = absurd (false≢true (g refl).1)
code_value false true q m f g = absurd (false≢true (sym (g refl).0))

not_all : {b : Bool} → (b ≡ true → ⊥) → b ≡ false
not_all {b} h = by b h
  where
    by : (b : Bool) → (b ≡ true → ⊥) → b ≡ false
    by true h = absurd (h refl)
    by false h = refl

exact_code : (xs : List ℕ) (x : ℕ) {z : ℕ} → Memᴰ z xs → ((y : ℕ) → Memᴰ y xs → Covers x y) → SaysNoMore x (code_of xs)
unfolding code_of
exact_code xs x {z} m h =
    record {
      values = λ k.
          code_value (value x) (all_value true xs) (all_value false xs) (any_mark xs)
          (λ e. all_value_lem true xs (λ y n. (h y n).values k ∙ e))
          (λ e. (not_all (λ t. false≢true (sym e ∙ sym ((h z m).values k) ∙ value_in true m t)), all_value_lem false xs (λ y n. (h y n).values k ∙ e)));
      marks = λ t. any_mark_lem xs (sym (code_mark (all_value true xs) (all_value false xs) (any_mark xs)) ∙ t) (λ y n e. (h y n).marks e);
    }

-- the fillings of a gate
flat_all : (P : ℕ → Type 0) (f : ℕ → List ℕ) (xs : List ℕ) → ((x : ℕ) → Memᴰ x xs → (y : ℕ) → Memᴰ y (f x) → P y)
    → (y : ℕ) → Memᴰ y (flat_map f xs) → P y
unfolding flat_map
flat_all P f [] h y m = absurd (Memᴰ.not-nil m)
flat_all P f (x ∷ xs) h y m =
    ⊎_elim (h x (Memᴰ.head refl) y) (flat_all P f xs (λ x k. h x (Memᴰ.tail k)) y) (Memᴰ.append_cases (f x) m)

record Some (xs : List ℕ) : Type 0 where
  one : ℕ
  among : Memᴰ one xs

some_filling : (x : ℕ) → Some (fillings x)
unfolding fillings
some_filling x = by (eqb x 4) (eqb x 6)
  where
    by : (p q : Bool) → Some (cond p (0 ∷ 1 ∷ []) (cond q (2 ∷ 3 ∷ []) (x ∷ [])))
    by true q = record { one = 0; among = Memᴰ.head refl }
    by false true = record { one = 2; among = Memᴰ.head refl }
    by false false = record { one = x; among = Memᴰ.head refl }

least : (kind a b c x : ℕ)
    → ((p q r : ℕ) → Memᴰ p (fillings a) → Memᴰ q (fillings b) → Memᴰ r (fillings c) → Covers x (gate_byte kind p q r))
    → SaysNoMore x (static_byte kind a b c)
unfolding static_byte filled
least kind a b c x h =
    exact_code (filled kind a b c) x (mem_filled kind a b c (some_filling a).among (some_filling b).among (some_filling c).among)
    (flat_all (Covers x) _ (fillings a)
    (λ p i. flat_all (Covers x) _ (fillings b)
    (λ q j y m. let n = Memᴰ.of_map (λ r. gate_byte kind p q r) (fillings c) m in rw (← n.2) (h p q n.0 i j n.1))))

pub static_exact : StaticExact
static_exact kind a b c ha hb hc =
    record {
      covers = λ p q r i j l.
          covers_gate kind a p b q c r
          (fills_covers a p (record { exists = ha; among = i })) (fills_covers b q (record { exists = hb; among = j })) (fills_covers c r (record { exists = hc; among = l }));
      least = least kind a b c;
    }
