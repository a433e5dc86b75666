-- Page by page: what is printed for bytes that begin with 64 good rows is the page of these, and then what is printed for the others.
use Prim.Native.Nat.{ℕ, zero, suc, ◌+◌, ◌-◌, ◌*◌, ◌/◌, ◌%◌, ◌≤◌, ◌<◌, min}
use native.Mathlib.Nat.{add-zero, zero-mul, add-mul, suc-mul, min-eq_left, mul-add-div_right, mul-add-mod_self_right}
use native.Mathlib.Omega.{arith}
use mathlib.Core.Path.{◌≡◌, refl, sym, ap, ◌∙◌}
use mathlib.Core.List.{List, [], ◌∷◌, ◌++◌, append_assoc}
use lib.ListN.{length, drop, get_or-append, length-drop, length-append}
use lib.Seq.{drop-append-le, drop_at, take-append-le}
use Rattle.gates.specs.Kinds.{OUT}
use Rattle.image.specs.Image.{nets_of}
use Rattle.cycle.specs.Cycle.{plain, cycles_of, outputs_of, state_after}
use Rattle.cycle.proofs.Runs.{outputs_of_length}
use Rattle.cycle.proofs.Selections.{selection_length}
use Rattle.lists.proofs.Placing.{places_selected}
use Rattle.row_runs.specs.Rows.{good_rows}
use Rattle.row_runs.specs.Taking.{cycles_on}
use Rattle.row_runs.proofs.Parting.{good_take, good_split, good_first, cycles_split, cycles_front, outputs_append, state_append}
use Rattle.page_text.specs.Pages.{outs_of, output_bytes, output_lines, page_text, pages_text}
use Rattle.page_text.proofs.Pagewise.{pages_next}
use Rattle.page_turns.specs.PagesOf.{rows_taken, rows_refusal, cycle_pages, pages_from}

-- A PAGE of n cycles does not depend on the bytes after theirs
output_front : (o j n : ℕ) (xs ys : List ℕ) → j < o → n * o ≤ length xs → output_bytes o j n (xs ++ ys) ≡ output_bytes o j n xs
unfolding output_bytes
output_front o j zero xs ys h l = refl
output_front o j (suc n) xs ys h l =
    let m = suc-mul n o in
    rw (get_or-append xs ys 0 j (omega arith), drop-append-le o xs ys (omega arith), output_front o j n (drop o xs) ys h (omega (arith, length-drop o xs)))

lines_front : (o j n : ℕ) (nets xs ys : List ℕ) → j + length nets ≤ o → n * o ≤ length xs → output_lines o j n nets (xs ++ ys) ≡ output_lines o j n nets xs
unfolding output_lines
lines_front o j n [] xs ys h l = refl
lines_front o j n (net ∷ nets) xs ys h l = rw (output_front o j n xs ys (omega arith) l, lines_front o (suc j) n nets xs ys (omega arith) l)

page_front : (first n : ℕ) (outs xs ys : List ℕ) → n * length outs ≤ length xs → page_text first n outs (xs ++ ys) ≡ page_text first n outs xs
unfolding page_text
page_front first n outs xs ys l = rw (lines_front (length outs) 0 n outs xs ys (omega arith) l)

module _ (s : List ℕ) (i : ℕ) (pos : 0 < i) where
  abbrev o : ℕ
  o = length (outs_of s)

  outputs_size : (k : ℕ) (bytes rs : List ℕ) → length (outputs_of (cycles_on s i k bytes rs)) ≡ k * o
  outputs_size k bytes rs = outputs_of_length plain (nets_of s) i k bytes rs ∙ ap (λ m. k * m) (sym (selection_length (places_selected OUT) 0 (nets_of s)))

  -- the outputs of some rows, and of others after them
  outputs_split : (a b : ℕ) (bytes rs : List ℕ)
      → outputs_of (cycles_on s i (a + b) bytes rs)
      ≡ outputs_of (cycles_on s i a bytes rs) ++ outputs_of (cycles_on s i b (drop (a * i) bytes) (state_after rs (cycles_on s i a bytes rs)))
  outputs_split a b bytes rs = rw (cycles_split plain (nets_of s) i a b bytes rs, outputs_append)

  -- ONE PAGE, and those after it
  module _ (first : ℕ) (bytes rs : List ℕ) (long : 64 * i ≤ length bytes) (good : good_rows i 64 bytes ≡ 64) where
    abbrev rest : List ℕ
    rest = drop (64 * i) bytes

    abbrev after : List ℕ
    after = state_after rs (cycles_on s i 64 bytes rs)

    size : length bytes ≡ 64 * i + length rest
    size = omega (arith, length-drop (64 * i) bytes)

    rows_are : length bytes / i ≡ 64 + length rest / i
    rows_are = ap (λ m. m / i) size ∙ mul-add-div_right pos 64 (length rest)

    taken_are : rows_taken i bytes ≡ 64 + rows_taken i rest
    unfolding rows_taken
    taken_are = ap (λ k. good_rows i k bytes) rows_are ∙ (good_split i 64 (length rest / i) bytes good).0

    refusal_is : rows_refusal i bytes ≡ rows_refusal i rest
    unfolding rows_refusal
    refusal_is =
        let m : length bytes % i ≡ length rest % i = ap (λ m. m % i) size ∙ mul-add-mod_self_right 64 i (length rest) in
        rw (m, rows_are, (good_split i 64 (length rest / i) bytes good).1)

    pages_are : cycle_pages s i first (rows_taken i bytes) bytes rs
        ≡ page_text first 64 (outs_of s) (outputs_of (cycles_on s i 64 bytes rs)) ++ cycle_pages s i (first + 64) (rows_taken i rest) rest after
    unfolding cycle_pages
    pages_are =
        let k = rows_taken i rest in
        let xs = outputs_of (cycles_on s i 64 bytes rs) in
        let ys = outputs_of (cycles_on s i k rest after) in
        let m : min 64 (64 + k) ≡ 64 = min-eq_left (omega arith) in
        let n : 64 + k - 64 ≡ k = omega arith in
        rw (taken_are, outputs_split 64 k bytes rs)
        (pages_next first (64 + k) (outs_of s) (xs ++ ys) (omega arith)
        ∙ rw (m, n, page_front first 64 (outs_of s) xs ys (omega (arith, outputs_size 64 bytes rs)), drop_at xs ys (64 * o) (outputs_size 64 bytes rs)))

    pub page_first : pages_from s i first bytes rs ≡ page_text first 64 (outs_of s) (outputs_of (cycles_on s i 64 bytes rs)) ++ pages_from s i (first + 64) rest after
    unfolding pages_from
    page_first = rw (pages_are, refusal_is, append_assoc)

  -- ROWS BEFORE OTHER BYTES
  pub good_append : (a : ℕ) (bytes more : List ℕ) → a * i ≤ length bytes → good_rows i a (bytes ++ more) ≡ good_rows i a bytes
  good_append a bytes more h = sym (good_take i a (bytes ++ more)).0 ∙ rw (take-append-le (a * i) bytes more h) (good_take i a bytes).0

  pub cycles_append : (a : ℕ) (bytes more rs : List ℕ) → a * i ≤ length bytes → cycles_on s i a (bytes ++ more) rs ≡ cycles_on s i a bytes rs
  cycles_append a bytes more rs h =
      sym (cycles_front plain (nets_of s) i a a (bytes ++ more) rs (omega arith))
      ∙ rw (take-append-le (a * i) bytes more h) (cycles_front plain (nets_of s) i a a bytes rs (omega arith))

  -- no page, and one page more
  pages_zero : (first : ℕ) (more rs : List ℕ) → pages_from s i first more rs
      ≡ pages_text 0 first (0 * 64) (outs_of s) (outputs_of (cycles_on s i (0 * 64) [] rs)) ++ pages_from s i (first + 0 * 64) more (state_after rs (cycles_on s i (0 * 64) [] rs))
  unfolding pages_text cycles_of state_after
  pages_zero first more rs = let none : 0 * 64 ≡ 0 = omega arith in rw (none, add-zero)

  pages_suc : (n first : ℕ) (xs ys : List ℕ) → length xs ≡ 64 * o
      → pages_text (suc n) first (64 + n * 64) (outs_of s) (xs ++ ys) ≡ page_text first 64 (outs_of s) xs ++ pages_text n (first + 64) (n * 64) (outs_of s) ys
  unfolding pages_text
  pages_suc n first xs ys h =
      let least : min 64 (64 + n * 64) ≡ 64 = min-eq_left (omega arith) in
      let left : 64 + n * 64 - 64 ≡ n * 64 = omega arith in
      rw (least, left, page_front first 64 (outs_of s) xs ys (omega arith), drop_at xs ys (64 * o) h)

  -- SOME PAGES, and what is printed for the bytes after theirs
  pub pages_after : (n first : ℕ) (bytes more rs : List ℕ) → length bytes ≡ n * 64 * i → good_rows i (n * 64) bytes ≡ n * 64
      → pages_from s i first (bytes ++ more) rs
      ≡ pages_text n first (n * 64) (outs_of s) (outputs_of (cycles_on s i (n * 64) bytes rs)) ++ pages_from s i (first + n * 64) more (state_after rs (cycles_on s i (n * 64) bytes rs))
  pages_after zero first [] more rs l good = pages_zero first more rs
  pages_after zero first (b ∷ bytes) more rs l good = absurd (omega (arith, l, zero-mul i))
  pages_after (suc n) first bytes more rs l good =
      let m : suc n * 64 ≡ 64 + n * 64 = omega arith in
      let size : length bytes ≡ 64 * i + n * 64 * i = l ∙ ap (λ k. k * i) m ∙ add-mul 64 (n * 64) i in
      let all : good_rows i (64 + n * 64) bytes ≡ 64 + n * 64 = ap (λ k. good_rows i k bytes) (sym m) ∙ good ∙ m in
      let front = good_first i 64 (n * 64) bytes all in
      let long : 64 * i ≤ length bytes = omega arith in
      let rest = drop (64 * i) bytes in
      let after = state_after rs (cycles_on s i 64 bytes rs) in
      let xs = outputs_of (cycles_on s i 64 bytes rs) in
      let ys = outputs_of (cycles_on s i (n * 64) rest after) in
      let others : good_rows i (n * 64) rest ≡ n * 64 = omega (arith, all, (good_split i 64 (n * 64) bytes front).0) in
      let page = page_first first (bytes ++ more) rs (omega (arith, length-append bytes more)) (good_append 64 bytes more long ∙ front) in
      let cycles = cycles_append 64 bytes more rs long in
      let later = pages_after n (first + 64) rest more after (omega (arith, length-drop (64 * i) bytes)) others in
      let number : first + 64 + n * 64 ≡ first + (64 + n * 64) = omega arith in
      let ends : state_after rs (cycles_on s i (64 + n * 64) bytes rs) ≡ state_after after (cycles_on s i (n * 64) rest after) =
      rw (cycles_split plain (nets_of s) i 64 (n * 64) bytes rs, state_append) in
      let pages : pages_text (suc n) first (64 + n * 64) (outs_of s) (outputs_of (cycles_on s i (64 + n * 64) bytes rs)) ≡ page_text first 64 (outs_of s) xs ++ pages_text n (first + 64) (n * 64) (outs_of s) ys =
      rw (outputs_split 64 (n * 64) bytes rs) (pages_suc n first xs ys (outputs_size 64 bytes rs)) in
      rw (m, pages, ends, ← number)
      (page ∙ rw (cycles, drop-append-le (64 * i) bytes more long, later) (sym (append_assoc (page_text first 64 (outs_of s) xs) (pages_text n (first + 64) (n * 64) (outs_of s) ys) _)))
