-- The codes that there are, one by one.
use Prim.Native.Nat.{ℕ, zero, suc, ◌≤◌, ◌<◌}
use native.Mathlib.Omega.{arith}
use mathlib.Core.Path.{◌≡◌, refl}
use mathlib.Core.Bool.{Bool, true, false, ◌&&◌, ◌||◌}
use lib.Dec.{eqb, ltb, lit≤, lit<}
use borrow.Author.Tests.{not-true, eqb-false, ltb-false, ne_eqb, le-ltb}
use Rattle.gates.proofs.EachCode.{both, all4, each}
use Rattle.unknowns.specs.Filling.{no_code, is_code}

or_false : (p q : Bool) → (p || q) ≡ false → (p ≡ false) × (q ≡ false)
or_false true q h = (h, cc)
or_false false q h = (refl, h)

-- the codes that there are
pub data IsCode : ℕ → Type 0 where
  a_byte : {x : ℕ} → x ≤ 3 → IsCode x
  unknown : IsCode 4
  untrusted : IsCode 6

pub by_number : (x : ℕ) → (x ≡ 5 → ⊥) → x ≤ 6 → IsCode x
by_number zero f h = a_byte (lit≤ tt)
by_number (suc zero) f h = a_byte (lit≤ tt)
by_number (suc (suc zero)) f h = a_byte (lit≤ tt)
by_number (suc (suc (suc zero))) f h = a_byte (lit≤ tt)
by_number (suc (suc (suc (suc zero)))) f h = unknown
by_number (suc (suc (suc (suc (suc zero))))) f h = absurd (f refl)
by_number (suc (suc (suc (suc (suc (suc zero)))))) f h = untrusted
by_number (suc (suc (suc (suc (suc (suc (suc x))))))) f h = absurd (omega arith)

pub is_code_lem : (x : ℕ) → is_code x ≡ true → IsCode x
is_code_lem x h = let t = or_false (eqb x 5) (ltb 6 x) (not-true (no_code x) h) in by_number x (eqb-false x 5 t.0) (ltb-false 6 x t.1)

pub byte_code : (x : ℕ) → x ≤ 3 → is_code x ≡ true
byte_code x h = rw (ne_eqb x 5 (λ e. omega arith), le-ltb 6 x (omega arith))

pub code_small : {x : ℕ} → IsCode x → x < 8
code_small (a_byte h) = omega arith
code_small unknown = lit< tt
code_small untrusted = lit< tt

-- a test of all six, computed once and used at each
abbrev pub all6 : (ℕ → Bool) → Bool
all6 Q = all4 Q && (Q 4 && Q 6)

pub each6 : (Q : ℕ → Bool) → all6 Q ≡ true → {x : ℕ} → IsCode x → Q x ≡ true
each6 Q h {x} (a_byte l) = each Q (both (all4 Q) (Q 4 && Q 6) h).0 x l
each6 Q h unknown = (both (Q 4) (Q 6) (both (all4 Q) (Q 4 && Q 6) h).1).0
each6 Q h untrusted = (both (Q 4) (Q 6) (both (all4 Q) (Q 4 && Q 6) h).1).1
