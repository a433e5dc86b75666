-- A page for the folder (document 02, L6): a heading line and one line per output, each 70 characters and a newline.
use Rattle.std.specs.Prelude.{ℕ, zero, suc, ◌+◌, ◌-◌, ◌*◌, ◌/◌, min, List, [], ◌∷◌, ◌++◌, map, cond, length, get_or, drop, replicate}
use Prim.Native.Char.{code}
use Rattle.gates.specs.Kinds.{OUT}
use Rattle.gates.specs.Rules.{value, mark}
use Rattle.image.specs.Image.{nets_of}
use Rattle.image.specs.Places.{places_from}
use Rattle.text.specs.Ascii.{ascii, space, newline}
use Rattle.text.specs.Decimal.{decimal}

-- unused columns are blank
abbrev pub blanks : (columns : ℕ) → List ℕ
blanks columns = replicate columns (code " ")

-- a text set left, or set right, in so many columns
unfoldable pub set_left : (columns : ℕ) (text : List ℕ) → List ℕ
set_left columns text = text ++ blanks (columns - length text)

unfoldable pub set_right : (columns : ℕ) (text : List ℕ) → List ℕ
set_right columns text = blanks (columns - length text) ++ text

-- a line: columns 1 to 5, column 6, which is blank, the other 64, and a newline
unfoldable pub line : (label rest : List ℕ) → List ℕ
line label rest = label ++ space ++ rest ++ newline

-- the heading: the word cycle, and the page's first cycle number set left
unfoldable pub heading : (first : ℕ) → List ℕ
heading first = line (ascii "cycle") (set_left 64 (decimal first))

-- the sign of an output byte: 0, 1, and l, h for untrusted 0, 1
unfoldable pub sign : ℕ → ℕ
sign b = cond (mark b) (cond (value b) (code "h") (code "l")) (cond (value b) (code "1") (code "0"))

-- of the bytes of cycles, o for each cycle, those of output j in the first n cycles
unfoldable pub output_bytes : (o j n : ℕ) (bytes : List ℕ) → List ℕ
output_bytes o j zero bytes = []
output_bytes o j (suc n) bytes = get_or bytes j 0 ∷ output_bytes o j n (drop o bytes)

-- the line of an output: its net number set right, and one sign per cycle
unfoldable pub output_line : (net : ℕ) (bytes : List ℕ) → List ℕ
output_line net bytes = line (set_right 5 (decimal net)) (set_left 64 (map sign bytes))

-- a line for each output, the first of which is output j of o, by their net numbers
unfoldable pub output_lines : (o j n : ℕ) (nets bytes : List ℕ) → List ℕ
output_lines o j n [] bytes = []
output_lines o j n (net ∷ nets) bytes = output_line net (output_bytes o j n bytes) ++ output_lines o (suc j) n nets bytes

-- the net numbers of the outputs of an image s, in net order
abbrev pub outs_of : (s : List ℕ) → List ℕ
outs_of s = places_from OUT 0 (nets_of s)

-- one page: the heading, and a line per output, of n cycles, the first of which is cycle `first`; outs has the net numbers of the outputs, and bytes the outputs' bytes,
-- cycle after cycle and each cycle in output order
unfoldable pub page_text : (first n : ℕ) (outs bytes : List ℕ) → List ℕ
page_text first n outs bytes = heading first ++ output_lines (length outs) 0 n outs bytes

-- so many pages of 64 cycles, of k cycles in all: on the last there may be fewer
unfoldable pub pages_text : (pages first k : ℕ) (outs bytes : List ℕ) → List ℕ
pages_text zero first k outs bytes = []
pages_text (suc pages) first k outs bytes =
    page_text first (min 64 k) outs bytes ++ pages_text pages (first + 64) (k - 64) outs (drop (64 * length outs) bytes)

-- how many pages k cycles take: as many as hold 64 each, and one more for a rest
unfoldable pub page_count : (k : ℕ) → ℕ
page_count k = (k + 63) / 64

-- the length of the pages of k cycles and o outputs: 1 + o lines a page, of 71 bytes each
unfoldable pub pages_length : (k o : ℕ) → ℕ
pages_length k o = page_count k * ((1 + o) * 71)
