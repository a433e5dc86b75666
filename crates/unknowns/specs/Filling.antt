-- The codes of a static run and the rule of its gates (document 02, L4): "At each gate, every unknown pin is filled both ways: the value is known if all
-- fillings agree, and the mark is 1 if any filling marks."
use Rattle.std.specs.Prelude.{ℕ, Bool, true, false, ◌&&◌, ◌||◌, not, cond, eqb, ltb}
use mathlib.Core.List.{List, [], ◌∷◌, map, flat_map}
use Rattle.gates.specs.Rules.{value, mark, byte, gate_byte}

-- "codes 0 to 3 as before, 4 for an unknown trusted bit and 6 for an unknown untrusted one". Of any code, `mark` is its mark
abbrev pub UNKNOWN_TRUSTED : ℕ
UNKNOWN_TRUSTED = 4

abbrev pub UNKNOWN_UNTRUSTED : ℕ
UNKNOWN_UNTRUSTED = 6

-- there is no code 5, and none above 6
abbrev pub no_code : ℕ → Bool
no_code x = eqb x 5 || ltb 6 x

abbrev pub is_code : ℕ → Bool
is_code x = not (no_code x)

-- a code with a known value
abbrev pub known : ℕ → Bool
known x = ltb x UNKNOWN_TRUSTED

-- the bytes that a code is filled with: an unknown bit both ways, with its mark; a known one only as it is
unfoldable pub fillings : ℕ → List ℕ
fillings x = cond (eqb x UNKNOWN_TRUSTED) (0 ∷ 1 ∷ []) (cond (eqb x UNKNOWN_UNTRUSTED) (2 ∷ 3 ∷ []) (x ∷ []))

-- the byte of a gate or OUT for every filling of its pins
unfoldable pub filled : (kind a b c : ℕ) → List ℕ
filled kind a b c = flat_map (λ x. flat_map (λ y. map (λ z. gate_byte kind x y z) (fillings c)) (fillings b)) (fillings a)

-- every byte has the value v: it is 1 where v is true, and 0 where v is false
abbrev pub all_value : (v : Bool) → List ℕ → Bool
all_value v [] = true
all_value v (x ∷ xs) = cond v (value x) (not (value x)) && all_value v xs

-- some byte is marked
abbrev pub any_mark : List ℕ → Bool
any_mark [] = false
any_mark (x ∷ xs) = mark x || any_mark xs

-- one code for some bytes, of which there is always one: the value and the mark where the value is known; where it is not, 6 if one is marked, and else 4
unfoldable pub code_of : List ℕ → ℕ
code_of xs =
    cond (all_value true xs) (byte true (any_mark xs))
    (cond (all_value false xs) (byte false (any_mark xs))
    (cond (any_mark xs) UNKNOWN_UNTRUSTED UNKNOWN_TRUSTED))

-- the code of a gate or OUT (kinds 3 to 8) from the codes of its pins
unfoldable pub static_byte : (kind a b c : ℕ) → ℕ
static_byte kind a b c = code_of (filled kind a b c)
