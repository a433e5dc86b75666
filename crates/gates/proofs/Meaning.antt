-- What the gate rules mean: values, marks, and the relations of bytes.
use Prim.Native.Nat.{ℕ, ◌+◌, ◌*◌, ◌-◌, ◌/◌, ◌%◌, ◌≤◌}
use native.Mathlib.Omega.{arith}
use mathlib.Core.Path.{◌≡◌, refl, sym}
use mathlib.Core.Bool.{Bool, true, false, ◌||◌, not, cond}
use borrow.Author.Tests.{eqb-true, eqb-false, not-true, ne_eqb, eq-eqb}
use lib.Dec.{eqb}
use Rattle.gates.specs.Rules.{value, mark, byte, and_mark, or_mark, xor_mark, mux_mark, not_byte, and_byte, or_byte, xor_byte, mux_byte, gate_byte}
use Rattle.gates.specs.Relations.{AgreeByte, same, low_high, high_low, BelowByte, equal, zero_marked, one_marked}
use Rattle.gates.specs.Meaning.{GateValues, Changed, Exact, MarksExact, RelationsMean}
use Rattle.gates.proofs.EachCode.{all4, each, each_pair, each_triple}
use Rattle.gates.proofs.Laws.{Code, gates_agree, gates_code}

-- THE RELATIONS of bytes 0 to 3. Two bytes are equal or not
pub either : (x y : ℕ) {A : Type 0} → (x ≡ y → A) → ((x ≡ y → ⊥) → A) → A
either x y {A} f g = by_test (eqb x y) refl
  where
    by_test : (t : Bool) → eqb x y ≡ t → A
    by_test true e = f (eqb-true x y e)
    by_test false e = g (eqb-false x y e)

pub agree_means : {x y : ℕ} → AgreeByte x y → (x / 2 ≡ y / 2) × (x / 2 ≡ 0 → x % 2 ≡ y % 2)
agree_means same = (refl, λ h. refl)
agree_means low_high = (refl, λ h. absurd (omega arith))
agree_means high_low = (refl, λ h. absurd (omega arith))

agree_back : (x y : ℕ) → x ≤ 3 → y ≤ 3 → (x / 2 ≡ y / 2) → (x / 2 ≡ 0 → x % 2 ≡ y % 2) → AgreeByte x y
agree_back x y l m marks values =
    either x y (λ e. rw e same)
    (λ n. either (x / 2) 0
    (λ e. absurd (n (omega (arith, values e))))
    (λ k. either x 2
    (λ e. let e' : y ≡ 3 = omega arith in rw (e, e') low_high)
    (λ o. let e : x ≡ 3 = omega arith in let e' : y ≡ 2 = omega arith in rw (e, e') high_low)))

below_into : {x y : ℕ} → BelowByte x y → (x % 2 ≡ y % 2) × (x / 2 ≤ y / 2)
below_into equal = (refl, omega arith)
below_into zero_marked = (refl, omega arith)
below_into one_marked = (refl, omega arith)

below_back : (x y : ℕ) → x ≤ 3 → y ≤ 3 → x % 2 ≡ y % 2 → x / 2 ≤ y / 2 → BelowByte x y
below_back x y l m values marks =
    either x y (λ e. rw e equal)
    (λ n. either x 0
    (λ e. let e' : y ≡ 2 = omega arith in rw (e, e') zero_marked)
    (λ o. let e : x ≡ 1 = omega arith in let e' : y ≡ 3 = omega arith in rw (e, e') one_marked))

pub relations_mean : RelationsMean
relations_mean =
    record {
      agree = λ x y l m. (agree_means, λ h. agree_back x y l m h.0 h.1);
      below = λ x y l m. (below_into, λ h. below_back x y l m h.0 h.1);
    }

-- VALUES, computed at all bytes of the pins
chosen : (a b c : ℕ) → a ≤ 3 → b ≤ 3 → c ≤ 3 → mux_byte a b c % 2 ≡ cond (eqb (c % 2) 0) (a % 2) (b % 2)
unfolding value mark byte mux_mark mux_byte
chosen a b c h k l = eqb-true _ _ (each_triple (λ a b c. eqb (mux_byte a b c % 2) (cond (eqb (c % 2) 0) (a % 2) (b % 2))) refl a b c h k l)

pub gate_values : GateValues
unfolding value mark byte and_mark or_mark xor_mark not_byte and_byte or_byte xor_byte
gate_values =
    record {
      not = λ a h. eqb-true _ _ (each (λ a. eqb (not_byte a % 2) ((1 + a) % 2)) refl a h);
      and = λ a b h k. eqb-true _ _ (each_pair (λ a b. eqb (and_byte a b % 2) ((a * b) % 2)) refl a b h k);
      or = λ a b h k. eqb-true _ _ (each_pair (λ a b. eqb (or_byte a b % 2) ((a + b + a * b) % 2)) refl a b h k);
      xor = λ a b h k. eqb-true _ _ (each_pair (λ a b. eqb (xor_byte a b % 2) ((a + b) % 2)) refl a b h k);
      mux_a = λ a b c h k l e. rw (eq-eqb (c % 2) 0 e) at (chosen a b c h k l);
      mux_b = λ a b c h k l e. let n : c % 2 ≡ 0 → ⊥ = λ o. omega arith in rw (ne_eqb (c % 2) 0 n) at (chosen a b c h k l);
    }

-- MARKS. The byte with the other value, where it is marked
abbrev pub flipped : ℕ → ℕ
flipped a = cond (eqb (a / 2) 1) (5 - a) a

pub flip_agrees : (a : ℕ) → a ≤ 3 → AgreeByte a (flipped a)
flip_agrees a h =
    either (a / 2) 1
    (λ e. rw (eq-eqb (a / 2) 1 e) (agree_back a (5 - a) h (omega arith) (omega arith) (λ z. absurd (omega arith))))
    (λ n. rw (ne_eqb (a / 2) 1 n) same)

-- a test that holds at a byte or at its flipped one
record Found (P : ℕ → Bool) (a : ℕ) : Type 0 where
  other : ℕ
  agree : AgreeByte a other
  holds : P other ≡ true

abbrev either_of : (ℕ → Bool) → ℕ → Bool
either_of P a = P a || P (flipped a)

find : (P : ℕ → Bool) (a : ℕ) → a ≤ 3 → either_of P a ≡ true → Found P a
find P a h = by_test (P a) refl
  where
    by_test : (t : Bool) → P a ≡ t → t || P (flipped a) ≡ true → Found P a
    by_test true e k = record { other = a; agree = same; holds = e }
    by_test false e k = record { other = flipped a; agree = flip_agrees a h; holds = k }

module _ (f : (a b c : ℕ) → ℕ) where
  -- the value at these bytes is another one
  abbrev another : (v a b c : ℕ) → Bool
  another v a b c = not (eqb (f a b c % 2) v)

  abbrev some_change : (v a b c : ℕ) → Bool
  some_change v a b c = either_of (λ a. either_of (λ b. either_of (another v a b) c) b) a

  -- where a gate is marked, some change of marked pins changes it
  abbrev marked_changes : (a b c : ℕ) → Bool
  marked_changes a b c = cond (eqb (f a b c / 2) 1) (some_change (f a b c % 2) a b c) true

  changes : (a b c : ℕ) → a ≤ 3 → b ≤ 3 → c ≤ 3 → some_change (f a b c % 2) a b c ≡ true → Changed f a b c
  changes a b c h k l t =
      let v = f a b c % 2 in
      let x = find (λ a. either_of (λ b. either_of (another v a b) c) b) a h t in
      let y = find (λ b. either_of (another v x.other b) c) b k x.holds in
      let z = find (another v x.other y.other) c l y.holds in
      record {
        other_a = x.other;
        other_b = y.other;
        other_c = z.other;
        agree_a = x.agree;
        agree_b = y.agree;
        agree_c = z.agree;
        changed = λ e. eqb-false _ v (not-true _ z.holds) e;
      }

  -- a gate that keeps agreement and codes, and of which that holds at all bytes, is marked exactly if it can be changed
  abbrev pub Keeps : (ℕ → ℕ → Type 0) → Type 0
  Keeps R = (a a' b b' c c' : ℕ) → R a a' → R b b' → R c c' → R (f a b c) (f a' b' c')

  exact : Keeps AgreeByte → Keeps Code → all4 (λ a. all4 (λ b. all4 (marked_changes a b))) ≡ true → Exact f
  exact agrees code t a b c h k l = (
    λ m. changes a b c h k l (rw (eq-eqb (f a b c / 2) 1 m) at (each_triple marked_changes t a b c h k l)),
    λ d.
        let g = agree_means (agrees a _ b _ c _ d.agree_a d.agree_b d.agree_c) in
        either (f a b c / 2) 0 (λ e. absurd (d.changed (sym (g.1 e)))) (λ n. omega (arith, code a a b b c c h k l)),
  )

pub marks_exact : MarksExact
unfolding value mark byte and_mark or_mark xor_mark mux_mark not_byte and_byte or_byte xor_byte mux_byte gate_byte
marks_exact =
    record {
      not = exact (λ a b c. not_byte a) (gates_agree 3) (gates_code 3) refl;
      and = exact (λ a b c. and_byte a b) (gates_agree 4) (gates_code 4) refl;
      or = exact (λ a b c. or_byte a b) (gates_agree 5) (gates_code 5) refl;
      xor = exact (λ a b c. xor_byte a b) (gates_agree 6) (gates_code 6) refl;
      mux = exact mux_byte (gates_agree 7) (gates_code 7) refl;
    }
