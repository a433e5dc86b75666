-- Which operands each kind of net lists, and which of them are pins (document 01, the table of "The image").
use Rattle.std.specs.Prelude.{ℕ, Bool, ◌&&◌, ◌||◌, not, eqb, leb}
use Rattle.gates.specs.Kinds.{CONST, INPUT, NOT, AND, MUX, OUT}

-- whether a kind, 0 to 8, lists operand a, b, c
abbrev pub lists_a : ℕ → Bool
lists_a k = not (eqb k INPUT)

abbrev pub lists_b : ℕ → Bool
lists_b k = not (eqb k CONST || eqb k INPUT || eqb k NOT)

abbrev pub lists_c : ℕ → Bool
lists_c k = eqb k MUX

-- whether operand a, b, c of a kind is a pin that names a net below its own
abbrev pub pin_a : ℕ → Bool
pin_a k = leb NOT k && leb k OUT

abbrev pub pin_b : ℕ → Bool
pin_b k = leb AND k && leb k MUX

abbrev pub pin_c : ℕ → Bool
pin_c k = eqb k MUX
