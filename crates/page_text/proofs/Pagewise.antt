-- Pages, one behind the other: how long they are together, and the page of the next cycles.
use Prim.Native.Nat.{ℕ, zero, suc, ◌+◌, ◌-◌, ◌*◌, ◌/◌, ◌≤◌, ◌<◌, min}
use native.Mathlib.Omega.{arith}
use native.Mathlib.Nat.{min-eq_left, min-eq_right, min-le_left, min-le_right, zero-mul, add-mul, one-mul, mul-le-mul}
use mathlib.Core.Path.{◌≡◌, refl, ap}
use mathlib.Core.Bool.{Bool, true, false}
use mathlib.Core.List.{List, [], ◌∷◌, ◌++◌, append_assoc}
use lib.Dec.{ltb}
use lib.ListN.{length, drop, length-append}
use lib.Seq.{sets, drop-drop}
use borrow.Author.Tests.{ltb-true, ltb-false}
use Rattle.std.specs.Int.{div_ceil}
use Rattle.text.proofs.Putting.{Left, left_as, left_none}
use Rattle.page_text.specs.Pages.{page_text, pages_text, page_count, pages_length}
use Rattle.page_text.proofs.PageParts.{Numbers, page_length}

pub pages_length_lem : (m first k : ℕ) (outs bytes : List ℕ) → Numbers outs → length (pages_text m first k outs bytes) ≡ m * ((1 + length outs) * 71)
unfolding pages_text
pages_length_lem zero first k outs bytes few = omega (arith, zero-mul ((1 + length outs) * 71))
pages_length_lem (suc m) first k outs bytes few =
    let rest = pages_text m (first + 64) (k - 64) outs (drop (64 * length outs) bytes) in
    omega (
      arith,
      length-append (page_text first (min 64 k) outs bytes) rest,
      page_length first (min 64 k) outs bytes few (min-le_left 64 k),
      pages_length_lem m (first + 64) (k - 64) outs (drop (64 * length outs) bytes) few,
      add-mul 1 m ((1 + length outs) * 71),
      one-mul ((1 + length outs) * 71),
    )

-- the page of the next cycles, and those after it
pub pages_next : (first r : ℕ) (outs bytes : List ℕ) → 0 < r
    → pages_text (page_count r) first r outs bytes
    ≡ page_text first (min 64 r) outs bytes ++ pages_text (page_count (r - min 64 r)) (first + min 64 r) (r - min 64 r) outs (drop (min 64 r * length outs) bytes)
unfolding pages_text page_count
pages_next first r outs bytes some = by (ltb r 64) refl
  where
    by : (b : Bool) → ltb r 64 ≡ b
        → pages_text (page_count r) first r outs bytes
        ≡ page_text first (min 64 r) outs bytes ++ pages_text (page_count (r - min 64 r)) (first + min 64 r) (r - min 64 r) outs (drop (min 64 r * length outs) bytes)
    by true e =
        let l = ltb-true r 64 e in
        let m : min 64 r ≡ r = min-eq_right (omega arith) in
        let one : (r + 63) / 64 ≡ 1 = omega arith in
        let none : (r - r + 63) / 64 ≡ 0 = omega arith in
        rw (one, m, none)
    by false e =
        let l = ltb-false r 64 e in
        let m : min 64 r ≡ 64 = min-eq_left l in
        let more : (r + 63) / 64 ≡ suc ((r - 64 + 63) / 64) = omega arith in
        rw (more, m)

-- page by page: page i is the next of those that are left
pub page_left : {begin text buffer : List ℕ} {at place : ℕ} (pages i k : ℕ) (outs bytes : List ℕ) → i < pages
    → Left begin at text buffer place (pages_text (pages - i) (64 * i) (k - 64 * i) outs (drop (64 * i * length outs) bytes) ∷ [])
    → Left begin at text buffer place
    (page_text (64 * i) (min 64 (k - 64 * i)) outs (drop (64 * i * length outs) bytes)
    ∷ pages_text (pages - (i + 1)) (64 * (i + 1)) (k - 64 * (i + 1)) outs (drop (64 * (i + 1) * length outs) bytes)
    ∷ [])
unfolding pages_text
page_left pages i k outs bytes h l =
    let more : pages - i ≡ suc (pages - (i + 1)) = omega arith in
    let first : 64 * i + 64 ≡ 64 * (i + 1) = omega arith in
    let left : k - 64 * i - 64 ≡ k - 64 * (i + 1) = omega arith in
    let taken : 64 * i * length outs + 64 * length outs ≡ 64 * (i + 1) * length outs = omega (arith, add-mul (64 * i) 64 (length outs), ap (λ n. n * length outs) first) in
    left_as (rw (more, first, left, drop-drop, taken) (simp append_assoc)) l

-- as many pages as the code counts
pub pages_counted : (k : ℕ) → div_ceil k 64 ≡ page_count k
unfolding page_count
pages_counted k = grind arith

-- the bytes of page i's cycles are there
pub page_bytes : (i k o : ℕ) → 64 * i ≤ k → 64 * i * o + min 64 (k - 64 * i) * o ≤ k * o
page_bytes i k o h =
    let m : (64 * i + min 64 (k - 64 * i)) * o ≤ k * o = mul-le-mul (omega (arith, min-le_right 64 (k - 64 * i))) (omega arith) in
    omega (arith, add-mul (64 * i) (min 64 (k - 64 * i)) o)

-- the pages are as long as their buffer
pub pages_fill : (k : ℕ) (outs bytes : List ℕ) {size : ℕ} → Numbers outs → size ≡ pages_length k (length outs) → size ≡ length (pages_text (page_count k) 0 k outs bytes)
unfolding pages_length
pages_fill k outs bytes few h = omega (arith, h, pages_length_lem (page_count k) 0 k outs bytes few)

-- no page is left
pub pages_put : {begin text buffer : List ℕ} {at place : ℕ} (pages i k : ℕ) (outs bytes : List ℕ) → pages ≤ i
    → Left begin at text buffer place (pages_text (pages - i) (64 * i) (k - 64 * i) outs (drop (64 * i * length outs) bytes) ∷ [])
    → buffer ≡ sets begin at text
unfolding pages_text
pages_put pages i k outs bytes h l = let none : pages - i ≡ 0 = omega arith in (left_none (left_as {others = []} (rw none) l)).0
