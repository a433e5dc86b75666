-- The parts of a line, one behind the other, and its length.
use Prim.Native.Nat.{ℕ, ◌-◌, ◌≤◌, ◌<◌}
use native.Mathlib.Omega.{arith}
use mathlib.Core.Path.{◌≡◌, refl}
use mathlib.Core.List.{List, [], ◌∷◌, map, append_assoc}
use lib.Dec.{lit≤}
use lib.ListN.{length, length-append, length-map, length-replicate}
use Rattle.text.specs.Ascii.{ascii, space, newline}
use Rattle.text.specs.Decimal.{decimal}
use Rattle.text.proofs.Decimal.{decimal_most, decimal_few}
use Rattle.text.proofs.Putting.{joined}
use Rattle.page_text.specs.Pages.{blanks, set_left, set_right, line, heading, sign, output_bytes, output_line}
use Rattle.page_text.proofs.Blanks.{left_length, right_length}
use Rattle.page_text.proofs.Signs.{output_length}

abbrev pub heading_parts : (first : ℕ) → List (List ℕ)
heading_parts first = ascii "cycle " ∷ decimal first ∷ blanks (64 - length (decimal first)) ∷ newline ∷ []

pub heading_parts_lem : (first : ℕ) → heading first ≡ joined (heading_parts first)
unfolding heading line set_left
heading_parts_lem first = simp append_assoc

abbrev pub output_parts : (net : ℕ) (bytes : List ℕ) → List (List ℕ)
output_parts net bytes = blanks (5 - length (decimal net)) ∷ decimal net ∷ space ∷ map sign bytes ∷ blanks (64 - length bytes) ∷ newline ∷ []

pub output_parts_lem : (net : ℕ) (bytes : List ℕ) → output_line net bytes ≡ joined (output_parts net bytes)
unfolding output_line line set_left set_right
output_parts_lem net bytes = rw (length-map bytes sign) (simp append_assoc)

-- the same of output j of o, in n cycles
abbrev pub column_parts : (net o j n : ℕ) (bytes : List ℕ) → List (List ℕ)
column_parts net o j n bytes =
    blanks (5 - length (decimal net)) ∷ decimal net ∷ space ∷ map sign (output_bytes o j n bytes) ∷ blanks (64 - n) ∷ newline ∷ []

pub column_parts_lem : (net o j n : ℕ) (bytes : List ℕ) → output_line net (output_bytes o j n bytes) ≡ joined (column_parts net o j n bytes)
column_parts_lem net o j n bytes = rw (output_length o j n bytes) at (output_parts_lem net (output_bytes o j n bytes))

-- a line of 5 and 64 columns
line_length : (label rest : List ℕ) → length label ≡ 5 → length rest ≡ 64 → length (line label rest) ≡ 71
unfolding line
line_length label rest h l = simp length-append (omega (arith, h, l))

pub heading_length : (first : ℕ) → length (heading first) ≡ 71
unfolding heading
heading_length first = line_length (ascii "cycle") (set_left 64 (decimal first)) refl (left_length 64 (decimal first) (omega (arith, decimal_most first)))

pub output_line_length : (net : ℕ) (bytes : List ℕ) → net < 100000 → length bytes ≤ 64 → length (output_line net bytes) ≡ 71
unfolding output_line
output_line_length net bytes h l =
    line_length (set_right 5 (decimal net)) (set_left 64 (map sign bytes))
    (right_length 5 (decimal net) (decimal_few 5 net (lit≤ tt) h))
    (left_length 64 (map sign bytes) (omega (arith, length-map bytes sign)))

-- the same of the line of a net, in a page of at most 64 cycles
pub net_digits : (net : ℕ) → net < 65536 → length (decimal net) ≤ 5
net_digits net h = decimal_few 5 net (lit≤ tt) (omega arith)

pub net_line_length : (net o j n : ℕ) (bytes : List ℕ) → net < 65536 → n ≤ 64 → length (output_line net (output_bytes o j n bytes)) ≡ 71
net_line_length net o j n bytes h l = output_line_length net (output_bytes o j n bytes) (omega arith) (omega (arith, output_length o j n bytes))

-- how long lines and their parts are
pub ruleset line_lengths = (heading_length, decimal_most, net_line_length, net_digits, output_length, length-map, length-replicate)
