-- Where each line of each page stands.
use Prim.Native.Nat.{ℕ, zero, suc, ◌+◌, ◌-◌, ◌*◌, ◌≤◌, ◌<◌, min}
use native.Mathlib.Omega.{arith}
use native.Mathlib.Nat.{add-mul, one-mul, min-le_left, zero-mul, add-zero, zero-add}
use mathlib.Core.Path.{◌≡◌, ap, ◌∙◌}
use mathlib.Core.List.{List, [], ◌∷◌, ◌++◌}
use lib.ListN.{length, get_or, drop, get_or-append}
use lib.Seq.{drop-drop}
use Rattle.page_text.specs.Pages.{heading, output_bytes, output_line, output_lines, page_text, pages_text}
use Rattle.page_text.proofs.Chars.{behind}
use Rattle.page_text.proofs.Signs.{output_length}
use Rattle.page_text.proofs.LineParts.{heading_length, output_line_length}
use Rattle.page_text.proofs.PageParts.{Numbers, page_length}

-- line l of a page: the heading, and then the lines of the outputs
abbrev pub page_line : (first n : ℕ) (outs bytes : List ℕ) (l : ℕ) → List ℕ
page_line first n outs bytes zero = heading first
page_line first n outs bytes (suc j) = output_line (get_or outs j 0) (output_bytes (length outs) j n bytes)

-- character c of the line of output j, among lines the first of which is that of output i
out_at : (o i n : ℕ) (nets bytes : List ℕ) (j c : ℕ) → Numbers nets → n ≤ 64 → j < length nets → c < 71
    → get_or (output_lines o i n nets bytes) (j * 71 + c) 0 ≡ get_or (output_line (get_or nets j 0) (output_bytes o (i + j) n bytes)) c 0
unfolding output_lines
out_at o i n [] bytes j c few h l m = absurd (omega arith)
out_at o i n (net ∷ nets) bytes zero c few h l m =
    let size = output_line_length net (output_bytes o i n bytes) (few 0) (omega (arith, output_length o i n bytes)) in
    rw (add-zero, zero-add) (get_or-append (output_line net (output_bytes o i n bytes)) (output_lines o (suc i) n nets bytes) 0 c (omega (arith, size)))
out_at o i n (net ∷ nets) bytes (suc j) c few h l m =
    let size = output_line_length net (output_bytes o i n bytes) (few 0) (omega (arith, output_length o i n bytes)) in
    let e : suc j * 71 + c ≡ 71 + (j * 71 + c) = omega arith in
    let f : i + suc j ≡ suc i + j = omega arith in
    ap (λ q. get_or (output_line net (output_bytes o i n bytes) ++ output_lines o (suc i) n nets bytes) q 0) e
    ∙ behind (output_line net (output_bytes o i n bytes)) (output_lines o (suc i) n nets bytes) 71 (j * 71 + c) size
    ∙ rw f (out_at o (suc i) n nets bytes j c (λ q. few (suc q)) h (omega arith) m)

-- character c of line l of a page
page_at : (first n : ℕ) (outs bytes : List ℕ) (l c : ℕ) → Numbers outs → n ≤ 64 → l ≤ length outs → c < 71
    → get_or (page_text first n outs bytes) (l * 71 + c) 0 ≡ get_or (page_line first n outs bytes l) c 0
unfolding page_text
page_at first n outs bytes zero c few h l m =
    rw zero-add (get_or-append (heading first) (output_lines (length outs) 0 n outs bytes) 0 c (omega (arith, heading_length first)))
page_at first n outs bytes (suc j) c few h l m =
    let e : suc j * 71 + c ≡ 71 + (j * 71 + c) = omega arith in
    ap (λ q. get_or (heading first ++ output_lines (length outs) 0 n outs bytes) q 0) e
    ∙ behind (heading first) (output_lines (length outs) 0 n outs bytes) 71 (j * 71 + c) (heading_length first)
    ∙ rw zero-add at (out_at (length outs) 0 n outs bytes j c few h (omega arith) m)

-- character c of line l of page p
pub pages_at : (m first k : ℕ) (outs bytes : List ℕ) (p l c : ℕ) → Numbers outs → p < m → l ≤ length outs → c < 71
    → get_or (pages_text m first k outs bytes) ((p * (1 + length outs) + l) * 71 + c) 0
    ≡ get_or (page_line (first + 64 * p) (min 64 (k - 64 * p)) outs (drop (64 * p * length outs) bytes) l) c 0
unfolding pages_text
pages_at zero first k outs bytes p l c few h i j = absurd (omega arith)
pages_at (suc m) first k outs bytes zero l c few h i j =
    let page = page_text first (min 64 k) outs bytes in
    let size = page_length first (min 64 k) outs bytes few (min-le_left 64 k) in
    let inside : l * 71 + c < length page = omega (arith, size) in
    let e : (0 * (1 + length outs) + l) * 71 + c ≡ l * 71 + c = omega (arith, zero-mul (1 + length outs)) in
    let f : first + 64 * 0 ≡ first = omega arith in
    let g : k - 64 * 0 ≡ k = omega arith in
    let n : 64 * 0 * length outs ≡ 0 = omega (arith, zero-mul (length outs)) in
    rw (e, f, g, n)
    (get_or-append page (pages_text m (first + 64) (k - 64) outs (drop (64 * length outs) bytes)) 0 (l * 71 + c) inside
    ∙ page_at first (min 64 k) outs bytes l c few (min-le_left 64 k) i j)
pages_at (suc m) first k outs bytes (suc p) l c few h i j =
    let page = page_text first (min 64 k) outs bytes in
    let rest = pages_text m (first + 64) (k - 64) outs (drop (64 * length outs) bytes) in
    let size = page_length first (min 64 k) outs bytes few (min-le_left 64 k) in
    let o = length outs in
    let e : (suc p * (1 + o) + l) * 71 + c ≡ (1 + o) * 71 + ((p * (1 + o) + l) * 71 + c) = omega (arith, add-mul 1 p (1 + o), one-mul (1 + o)) in
    let f : first + 64 * suc p ≡ first + 64 + 64 * p = omega arith in
    let g : k - 64 * suc p ≡ k - 64 - 64 * p = omega arith in
    let n : 64 * suc p * o ≡ 64 * o + 64 * p * o = omega (arith, add-mul 64 (64 * p) o, ap (λ q. q * o) (times p)) in
    rw (e, f, g, n, ← drop-drop (64 * p * o) (64 * o) bytes)
    (behind page rest ((1 + o) * 71) ((p * (1 + o) + l) * 71 + c) size
    ∙ pages_at m (first + 64) (k - 64) outs (drop (64 * o) bytes) p l c few (omega arith) i j)
  where
    times : (p : ℕ) → 64 * suc p ≡ 64 + 64 * p
    times p = omega arith
