-- The rule by filling on bytes 0 to 3, which have one filling each: it is the plain rule. And on any codes it gives codes.
use Prim.Native.Nat.{ℕ, ◌≤◌}
use mathlib.Core.Path.{◌≡◌, refl}
use mathlib.Core.List.{List, [], ◌∷◌, flat_map}
use mathlib.Core.Bool.{Bool, true, false, cond}
use lib.Dec.{eqb}
use borrow.Author.Tests.{eqb-true}
use Rattle.gates.specs.Rules.{value, mark, byte, gate_byte}
use Rattle.gates.proofs.EachCode.{each}
use Rattle.gates.proofs.Laws.{gates_code}
use Rattle.unknowns.specs.Filling.{is_code, filled, all_value, any_mark, code_of, static_byte}
use Rattle.unknowns.proofs.Covered.{fillings_known}

-- THE RULE on bytes
one_byte : (x : ℕ) → x ≤ 3 → code_of (x ∷ []) ≡ x
unfolding code_of value mark byte
one_byte x h = eqb-true _ _ (each (λ x. eqb (code_of (x ∷ [])) x) refl x h)

pub static_known : (kind a b c : ℕ) → a ≤ 3 → b ≤ 3 → c ≤ 3 → static_byte kind a b c ≡ gate_byte kind a b c
unfolding static_byte filled flat_map
static_known kind a b c h k l =
    rw (fillings_known a h, fillings_known b k, fillings_known c l) (one_byte (gate_byte kind a b c) (gates_code kind a a b b c c h k l))

-- CODES
is_code_lem : (p q m : Bool) → is_code (cond p (byte true m) (cond q (byte false m) (cond m 6 4))) ≡ true
unfolding byte
is_code_lem true q true = refl
is_code_lem true q false = refl
is_code_lem false true true = refl
is_code_lem false true false = refl
is_code_lem false false true = refl
is_code_lem false false false = refl

code_is_code : (xs : List ℕ) → is_code (code_of xs) ≡ true
unfolding code_of
code_is_code xs = is_code_lem (all_value true xs) (all_value false xs) (any_mark xs)

pub static_code : (kind a b c : ℕ) → is_code (static_byte kind a b c) ≡ true
unfolding static_byte
static_code kind a b c = code_is_code (filled kind a b c)
