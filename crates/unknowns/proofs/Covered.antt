-- A code covers a byte: some filling of the code has the byte's value, and its mark or more. So the code of a gate covers the gate's byte, since a gate's mark
-- is monotone in the marks of its pins (`gates_monotone`).
use Prim.Native.Nat.{ℕ, ◌/◌, ◌%◌, ◌≤◌}
use native.Mathlib.Omega.{arith}
use mathlib.Core.Path.{◌≡◌, refl, sym, ◌∙◌}
use mathlib.Core.List.Memᴰ
use mathlib.Core.List.{List, [], ◌∷◌, map, flat_map, Memᴰ}
use mathlib.Core.Bool.{Bool, true, false, ◌||◌, not, cond, false≢true}
use lib.Dec.{eqb, lit≤}
use borrow.Author.Tests.{not-true, eqb-true, ne_eqb, lt-ltb}
use Rattle.gates.specs.Rules.{value, mark, byte, gate_byte}
use Rattle.gates.specs.Relations.{BelowByte, equal, zero_marked, one_marked}
use Rattle.gates.proofs.EachCode.{both, each}
use Rattle.gates.proofs.Laws.{gates_monotone, below_value, below_mark, gates_code}
use Rattle.unknowns.specs.Filling.{is_code, fillings, filled, all_value, any_mark, code_of, static_byte}
use Rattle.unknowns.specs.Covering.{Covers}
use Rattle.unknowns.proofs.SixCodes.{IsCode, a_byte, unknown, untrusted, is_code_lem, byte_code}

-- a byte covers itself
pub covers_itself : {x : ℕ} → x ≤ 3 → Covers x x
covers_itself {x} h = record { exists = byte_code x h; values = λ k. refl; marks = λ m. m; small = h }

-- an unknown trusted bit covers every unmarked one
unmarked : (x : ℕ) → x ≤ 1 → mark x ≡ false
unfolding mark
unmarked x h = let e : x / 2 % 2 ≡ 0 = omega arith in rw e

pub covers_trusted : {x : ℕ} → x ≤ 1 → Covers 4 x
covers_trusted {x} h =
    record { exists = refl; values = λ k. absurd (false≢true k); marks = λ m. absurd (false≢true (sym (unmarked x h) ∙ m)); small = omega arith }

-- and an unknown untrusted bit covers every byte
pub covers_every : {x : ℕ} → x ≤ 3 → Covers 6 x
unfolding mark
covers_every h = record { exists = refl; values = λ k. absurd (false≢true k); marks = λ m. refl; small = h }

-- FILLINGS
pub fillings_known : (x : ℕ) → x ≤ 3 → fillings x ≡ x ∷ []
unfolding fillings
fillings_known x h = rw (ne_eqb x 4 (λ e. omega arith), ne_eqb x 6 (λ e. omega arith))

pub value_mark : (x : ℕ) → x ≤ 3 → byte (value x) (mark x) ≡ x
unfolding value mark byte
value_mark x h = eqb-true _ _ (each (λ x. eqb (byte (value x) (mark x)) x) refl x h)

pub below_bytes : (v t u : Bool) → (t ≡ true → u ≡ true) → BelowByte (byte v t) (byte v u)
unfolding byte
below_bytes true true true h = equal
below_bytes true false true h = one_marked
below_bytes true false false h = equal
below_bytes false true true h = equal
below_bytes false false true h = zero_marked
below_bytes false false false h = equal
below_bytes v true false h = absurd (false≢true (h refl))

below : (x y : ℕ) → x ≤ 3 → y ≤ 3 → value x ≡ value y → (mark x ≡ true → mark y ≡ true) → BelowByte x y
below x y h k v m =
    let b : BelowByte (byte (value x) (mark x)) (byte (value y) (mark y)) = rw v (below_bytes (value y) (mark x) (mark y) m) in
    rw (value_mark x h, value_mark y k) at b

-- a filling of the code x that is above the byte y
record Above (x y : ℕ) : Type 0 where
  filling : ℕ
  among : Memᴰ filling (fillings x)
  above : BelowByte y filling

in_unknown : (v : Bool) → Memᴰ (byte v false) (fillings 4)
unfolding byte fillings
in_unknown false = Memᴰ.head refl
in_unknown true = Memᴰ.tail (Memᴰ.head refl)

in_untrusted : (v : Bool) → Memᴰ (byte v true) (fillings 6)
unfolding byte fillings
in_untrusted false = Memᴰ.head refl
in_untrusted true = Memᴰ.tail (Memᴰ.head refl)

above_of : {x y : ℕ} → IsCode x → Covers x y → Above x y
unfolding mark
above_of {x} {y} (a_byte l) h =
    record {
      filling = x;
      among = rw (fillings_known x l) (Memᴰ.head refl);
      above = below y x h.small l (h.values (lt-ltb x 4 (omega arith))) h.marks;
    }
above_of {y = y} unknown h =
    record { filling = byte (value y) false; among = in_unknown (value y); above = rw (value_mark y h.small) at (below_bytes (value y) (mark y) false h.marks) }
above_of {y = y} untrusted h =
    record { filling = byte (value y) true; among = in_untrusted (value y); above = rw (value_mark y h.small) at (below_bytes (value y) (mark y) true (λ e. refl)) }

some_above : {x y : ℕ} → Covers x y → Above x y
some_above {x} h = above_of (is_code_lem x h.exists) h

-- THE CODE OF SOME BYTES covers each of them, and each byte below one of them
pub value_in : (v : Bool) {y : ℕ} {xs : List ℕ} → Memᴰ y xs → all_value v xs ≡ true → value y ≡ v
value_in v {xs = []} m h = elim m [ ]
value_in true {xs = x ∷ xs} (Memᴰ.head e) h = rw e (both (value x) (all_value true xs) h).0
value_in false {xs = x ∷ xs} (Memᴰ.head e) h = rw e (not-true (value x) (both (not (value x)) (all_value false xs) h).0)
value_in v {xs = x ∷ xs} (Memᴰ.tail m) h = value_in v m (both (cond v (value x) (not (value x))) (all_value v xs) h).1

or_right : (a b : Bool) → b ≡ true → a || b ≡ true
or_right true b h = refl
or_right false b h = h

mark_in : {y : ℕ} {xs : List ℕ} → Memᴰ y xs → mark y ≡ true → any_mark xs ≡ true
mark_in (Memᴰ.head e) h = rw (← e, h)
mark_in {xs = x ∷ xs} (Memᴰ.tail m) h = or_right (mark x) (any_mark xs) (mark_in m h)

by_cases : (p q m : Bool) {z : ℕ} → (p ≡ true → value z ≡ true) → (q ≡ true → value z ≡ false) → (mark z ≡ true → m ≡ true) → z ≤ 3
    → Covers (cond p (byte true m) (cond q (byte false m) (cond m 6 4))) z
unfolding value mark byte
by_cases true q true f g h l = record { exists = refl; values = λ k. f refl; marks = λ t. refl; small = l }
by_cases true q false f g h l = record { exists = refl; values = λ k. f refl; marks = h; small = l }
by_cases false true true f g h l = record { exists = refl; values = λ k. g refl; marks = λ t. refl; small = l }
by_cases false true false f g h l = record { exists = refl; values = λ k. g refl; marks = h; small = l }
by_cases false false true f g h l = record { exists = refl; values = λ k. absurd (false≢true k); marks = λ t. refl; small = l }
by_cases false false false f g h l = record { exists = refl; values = λ k. absurd (false≢true k); marks = h; small = l }

covers_in : {xs : List ℕ} {y z : ℕ} → Memᴰ y xs → BelowByte z y → z ≤ 3 → Covers (code_of xs) z
unfolding code_of
covers_in {xs} m b l =
    by_cases (all_value true xs) (all_value false xs) (any_mark xs)
    (λ h. below_value b ∙ value_in true m h) (λ h. below_value b ∙ value_in false m h) (λ t. mark_in m (below_mark b t)) l

-- THE GATES
mem_flat : (f : ℕ → List ℕ) {x y : ℕ} {xs : List ℕ} → Memᴰ x xs → Memᴰ y (f x) → Memᴰ y (flat_map f xs)
unfolding flat_map
mem_flat f {xs = []} m n = elim m [ ]
mem_flat f {xs = x ∷ xs} (Memᴰ.head e) n = Memᴰ.append_left (flat_map f xs) (rw e at n)
mem_flat f {xs = x ∷ xs} (Memᴰ.tail m) n = Memᴰ.append_right (f x) (mem_flat f m n)

pub mem_filled : (kind a b c : ℕ) {x y z : ℕ} → Memᴰ x (fillings a) → Memᴰ y (fillings b) → Memᴰ z (fillings c)
    → Memᴰ (gate_byte kind x y z) (filled kind a b c)
unfolding filled
mem_filled kind a b c {x} {y} {z} p q r =
    mem_flat (λ x. flat_map (λ y. map (λ z. gate_byte kind x y z) (fillings c)) (fillings b)) p
    (mem_flat (λ y. map (λ z. gate_byte kind x y z) (fillings c)) q (Memᴰ.map (λ z. gate_byte kind x y z) r))

pub covers_gate : (kind a a' b b' c c' : ℕ) → Covers a a' → Covers b b' → Covers c c' → Covers (static_byte kind a b c) (gate_byte kind a' b' c')
unfolding static_byte
covers_gate kind a a' b b' c c' p q r =
    let x = some_above p in
    let y = some_above q in
    let z = some_above r in
    covers_in (mem_filled kind a b c x.among y.among z.among) (gates_monotone kind _ _ _ _ _ _ x.above y.above z.above)
    (gates_code kind a' a' b' b' c' c' p.small q.small r.small)

-- FILLING IS COVERING: the byte is one that the code is filled with
pub record Fills (code byte : ℕ) : Type 0 where
  pub exists : is_code code ≡ true
  pub among : Memᴰ byte (fillings code)

fills_one : {x y : ℕ} → IsCode x → Memᴰ y (fillings x) → Covers x y
unfolding fillings value mark
fills_one {x} (a_byte l) m = one (rw (fillings_known x l) at m)
  where
    one : {y : ℕ} → Memᴰ y (x ∷ []) → Covers x y
    one (Memᴰ.head e) = rw e (covers_itself l)
    one (Memᴰ.tail m) = elim m [ ]
fills_one unknown (Memᴰ.head e) = rw e (record { exists = refl; values = λ k. absurd (false≢true k); marks = λ t. t; small = lit≤ tt })
fills_one unknown (Memᴰ.tail (Memᴰ.head e)) = rw e (record { exists = refl; values = λ k. absurd (false≢true k); marks = λ t. t; small = lit≤ tt })
fills_one unknown (Memᴰ.tail (Memᴰ.tail m)) = elim m [ ]
fills_one untrusted (Memᴰ.head e) = rw e (covers_every (lit≤ tt))
fills_one untrusted (Memᴰ.tail (Memᴰ.head e)) = rw e (covers_every (lit≤ tt))
fills_one untrusted (Memᴰ.tail (Memᴰ.tail m)) = elim m [ ]

pub fills_covers : (code byte : ℕ) → Fills code byte → Covers code byte
fills_covers code byte h = fills_one (is_code_lem code h.exists) h.among
