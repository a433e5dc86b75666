-- The table of signs has the sign of each byte, and the bytes of one output stand o places apart.
use Prim.Native.Nat.{ℕ, zero, suc, ◌+◌, ◌*◌, ◌/◌, ◌%◌, ◌<◌}
use native.Mathlib.Omega.{arith}
use native.Mathlib.Nat.{zero-mul, zero-add, add-mul, one-mul, mul-add-mod_self_left}
use mathlib.Core.Path.{◌≡◌, refl, ap, ◌∙◌}
use mathlib.Core.List.{List, [], ◌∷◌}
use mathlib.Core.Bool.{cond}
use lib.Dec.{eqb}
use lib.ListN.{length, get_or, drop}
use lib.Seq.{get_or-drop}
use Rattle.gates.specs.Rules.{value, mark}
use Rattle.page_text.specs.Pages.{sign, output_bytes}

-- the value and the mark of a byte are those of its last two bits
value_rest : (b : ℕ) → b % 2 ≡ b % 4 % 2
value_rest b = let e : b ≡ 2 * (2 * (b / 4)) + b % 4 = omega arith in ap (λ m. m % 2) e ∙ mul-add-mod_self_left 2 (2 * (b / 4)) (b % 4)

mark_rest : (b : ℕ) → b / 2 % 2 ≡ b % 4 / 2 % 2
mark_rest b = let e : b / 2 ≡ 2 * (b / 4) + b % 4 / 2 = omega arith in ap (λ m. m % 2) e ∙ mul-add-mod_self_left 2 (b / 4) (b % 4 / 2)

pub sign_of : (b : ℕ) → get_or (48 ∷ 49 ∷ 108 ∷ 104 ∷ []) (b % 4) 0 ≡ sign b
unfolding sign value mark
sign_of b = rw (value_rest b, mark_rest b) (by (b % 4) (omega arith))
  where
    by : (r : ℕ) → r < 4
        → ◌≡◌ {A = ℕ} (get_or (48 ∷ 49 ∷ 108 ∷ 104 ∷ []) r 0) (cond (eqb (r / 2 % 2) 1) (cond (eqb (r % 2) 1) 104 108) (cond (eqb (r % 2) 1) 49 48))
    by zero h = refl
    by (suc zero) h = refl
    by (suc (suc zero)) h = refl
    by (suc (suc (suc zero))) h = refl
    by (suc (suc (suc (suc r)))) h = absurd (omega arith)

pub output_length : (o j n : ℕ) (bytes : List ℕ) → length (output_bytes o j n bytes) ≡ n
unfolding output_bytes
output_length o j zero bytes = refl
output_length o j (suc n) bytes = ap suc (output_length o j n (drop o bytes))

-- the byte of output j in cycle c
pub output_at : (o j n : ℕ) (bytes : List ℕ) (c : ℕ) → c < n → get_or (output_bytes o j n bytes) c 0 ≡ get_or bytes (c * o + j) 0
unfolding output_bytes
output_at o j zero bytes c h = absurd (omega arith)
output_at o j (suc n) bytes zero h = rw (zero-mul, zero-add)
output_at o j (suc n) bytes (suc c) h =
    let e : o + (c * o + j) ≡ suc c * o + j = omega (arith, add-mul 1 c o, one-mul o) in
    output_at o j n (drop o bytes) c (omega arith) ∙ get_or-drop o bytes (c * o + j) 0 ∙ ap (λ m. get_or bytes m 0) e
