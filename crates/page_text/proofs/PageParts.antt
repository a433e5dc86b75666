-- The lines of a page, one behind the other, and how long they are together.
use Prim.Native.Nat.{ℕ, suc, ◌+◌, ◌*◌, ◌≤◌, ◌<◌}
use native.Mathlib.Numerals.{add-one}
use native.Mathlib.Omega.{arith}
use mathlib.Core.Path.{◌≡◌, refl}
use mathlib.Core.List.{List, [], ◌∷◌, ◌++◌, append_assoc, append-nil}
use lib.ListN.{length, get_or, drop, length-append, drop_of_length-le}
use lib.Seq.{sets, drop-cons}
use Rattle.text.proofs.Putting.{Left, left_as, left_none, joined}
use Rattle.page_text.specs.Pages.{heading, output_bytes, output_line, output_lines, page_text}
use Rattle.page_text.proofs.Signs.{output_length}
use Rattle.page_text.proofs.LineParts.{heading_length, output_line_length}

-- numbers of at most five digits
abbrev pub Numbers : List ℕ → Type 0
Numbers nets = (i : ℕ) → get_or nets i 0 < 100000

-- the line of output j, and those after it
pub lines_next : (o n : ℕ) (nets bytes : List ℕ) (j : ℕ) → j < length nets
    → output_lines o j n (drop j nets) bytes ≡ output_line (get_or nets j 0) (output_bytes o j n bytes) ++ output_lines o (j + 1) n (drop (j + 1) nets) bytes
unfolding output_lines
lines_next o n nets bytes j h = rw (drop-cons nets j 0 h, add-one, output_lines)

pub lines_none : (o n : ℕ) (nets bytes : List ℕ) (j : ℕ) → length nets ≤ j → output_lines o j n (drop j nets) bytes ≡ []
unfolding output_lines
lines_none o n nets bytes j h = rw (drop_of_length-le nets h, output_lines)

pub lines_length : (o j n : ℕ) (nets bytes : List ℕ) → Numbers nets → n ≤ 64 → length (output_lines o j n nets bytes) ≡ length nets * 71
unfolding output_lines
lines_length o j n [] bytes few h = refl
lines_length o j n (net ∷ nets) bytes few h =
    let line = output_line_length net (output_bytes o j n bytes) (few 0) (omega (arith, output_length o j n bytes)) in
    omega (
      arith,
      length-append (output_line net (output_bytes o j n bytes)) (output_lines o (suc j) n nets bytes),
      line,
      lines_length o (suc j) n nets bytes (λ i. few (suc i)) h,
    )

pub page_length : (first n : ℕ) (outs bytes : List ℕ) → Numbers outs → n ≤ 64 → length (page_text first n outs bytes) ≡ (1 + length outs) * 71
unfolding page_text
page_length first n outs bytes few h =
    omega (arith, length-append (heading first) (output_lines (length outs) 0 n outs bytes), heading_length first, lines_length (length outs) 0 n outs bytes few h)

-- a page is its heading and its lines, and of the lines that are left the first is one part
pub page_parts : (first n : ℕ) (outs bytes : List ℕ) → page_text first n outs bytes ≡ joined (heading first ∷ output_lines (length outs) 0 n outs bytes ∷ [])
unfolding page_text
page_parts first n outs bytes = rw append-nil

pub line_left : {begin text buffer : List ℕ} {at place : ℕ} (o n : ℕ) (outs bytes : List ℕ) (j : ℕ) → j < length outs
    → Left begin at text buffer place (output_lines o j n (drop j outs) bytes ∷ [])
    → Left begin at text buffer place (output_line (get_or outs j 0) (output_bytes o j n bytes) ∷ output_lines o (j + 1) n (drop (j + 1) outs) bytes ∷ [])
line_left o n outs bytes j h l = left_as (rw (lines_next o n outs bytes j h) (simp append_assoc)) l

-- no line is left
pub lines_put : {begin text buffer : List ℕ} {at place : ℕ} (o n : ℕ) (outs bytes : List ℕ) (j : ℕ) → length outs ≤ j
    → Left begin at text buffer place (output_lines o j n (drop j outs) bytes ∷ [])
    → (buffer ≡ sets begin at text) × (place ≡ at + length text)
lines_put o n outs bytes j h l = left_none (left_as {others = []} (rw (lines_none o n outs bytes j h)) l)
