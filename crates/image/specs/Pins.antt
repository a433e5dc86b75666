-- Pins (document 01, "The image", and document 02, L3): an operand that names a net, by its number; with the top bit of its 16 set, it reads the net inverted.
use Rattle.std.specs.Prelude.{ℕ, ◌+◌, ◌-◌, Bool, cond, leb}

-- whether the top bit of a pin is set, which is worth 32,768; a pin is a number below 65,536
abbrev pub inverted : (p : ℕ) → Bool
inverted p = leb 32768 p

-- the net that a pin names: the number in its other bits
unfoldable pub pin_net : (p : ℕ) → ℕ
pin_net p = cond (inverted p) (p - 32768) p

-- a pin that names net j, with the top bit as pin p has it
unfoldable pub like_pin : (p j : ℕ) → ℕ
like_pin p j = cond (inverted p) (32768 + j) j
