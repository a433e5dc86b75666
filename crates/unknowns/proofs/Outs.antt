-- An OUT passes the code of its pin on, whatever the codes of the other two operands.
use Prim.Native.Nat.{ℕ}
use mathlib.Core.Path.{◌≡◌, refl, sym, ◌∙◌}
use mathlib.Core.List.{List, [], ◌∷◌, map, flat_map, append-nil}
use mathlib.Core.Bool.{Bool, true, false, ◌&&◌, ◌||◌, not, cond}
use lib.Dec.{eqb}
use Rattle.gates.specs.Kinds.{OUT}
use Rattle.gates.specs.Rules.{value, mark, byte, gate_byte}
use Rattle.unknowns.specs.Filling.{fillings, filled, code_of, static_byte}

-- one filling, or two
data Few : List ℕ → Type 0 where
  one : {x : ℕ} → Few (x ∷ [])
  two : {x y : ℕ} → Few (x ∷ y ∷ [])

few : (x : ℕ) → Few (fillings x)
unfolding fillings
few x = by (eqb x 4) (eqb x 6)
  where
    by : (p q : Bool) → Few (cond p (0 ∷ 1 ∷ []) (cond q (2 ∷ 3 ∷ []) (x ∷ [])))
    by true q = two
    by false true = two
    by false false = one

-- one byte, as often as there are fillings of the other operands: its code is that of the byte once
abbrev often : (x : ℕ) (ys zs : List ℕ) → List ℕ
often x ys zs = flat_map (λ y. map (λ z. x) zs) ys

abbrev code : (v m : Bool) → ℕ
code v m = cond (v && true) (byte true (m || false)) (cond (not v && true) (byte false (m || false)) (cond (m || false) 6 4))

twice : (v m : Bool)
    → cond (v && (v && true)) (byte true (m || (m || false))) (cond (not v && (not v && true)) (byte false (m || (m || false))) (cond (m || (m || false)) 6 4)) ≡ code v m
twice true true = refl
twice true false = refl
twice false true = refl
twice false false = refl

thrice : (v m : Bool)
    → cond (v && (v && (v && (v && true)))) (byte true (m || (m || (m || (m || false)))))
    (cond (not v && (not v && (not v && (not v && true)))) (byte false (m || (m || (m || (m || false))))) (cond (m || (m || (m || (m || false)))) 6 4)) ≡ code v m
thrice true true = refl
thrice true false = refl
thrice false true = refl
thrice false false = refl

once : (x : ℕ) {ys zs : List ℕ} → Few ys → Few zs → code_of (often x ys zs) ≡ code_of (x ∷ [])
unfolding code_of flat_map
once x one one = refl
once x one two = twice (value x) (mark x)
once x two one = twice (value x) (mark x)
once x two two = thrice (value x) (mark x)

-- both values of an unknown bit
both_values : {ys zs : List ℕ} → Few ys → Few zs
    → (code_of (flat_map (λ x. often x ys zs) (0 ∷ 1 ∷ [])) ≡ code_of (0 ∷ 1 ∷ [])) × (code_of (flat_map (λ x. often x ys zs) (2 ∷ 3 ∷ [])) ≡ code_of (2 ∷ 3 ∷ []))
unfolding code_of flat_map value mark byte
both_values one one = (refl, refl)
both_values one two = (refl, refl)
both_values two one = (refl, refl)
both_values two two = (refl, refl)

out_code : (a b c : ℕ) → static_byte OUT a b c ≡ code_of (fillings a)
unfolding static_byte filled gate_byte fillings flat_map
out_code a b c = by (eqb a 4) (eqb a 6)
  where
    by : (p q : Bool) → let xs = cond p (0 ∷ 1 ∷ []) (cond q (2 ∷ 3 ∷ []) (a ∷ [])) in code_of (flat_map (λ x. often x (fillings b) (fillings c)) xs) ≡ code_of xs
    by true q = (both_values (few b) (few c)).0
    by false true = (both_values (few b) (few c)).1
    by false false = rw append-nil (once a (few b) (few c))

pub out_unread : (a b b' c : ℕ) → static_byte OUT a b c ≡ static_byte OUT a b' c
out_unread a b b' c = out_code a b c ∙ sym (out_code a b' c)
