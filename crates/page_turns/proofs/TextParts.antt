-- What a turn puts into the text: at most one page, and a refusal behind it.
use Prim.Native.Nat.{ℕ, ◌+◌, ◌-◌, ◌*◌, ◌≤◌, ◌<◌, min}
use native.Mathlib.Nat.{min-eq_right}
use native.Mathlib.Omega.{arith}
use mathlib.Core.Path.{◌≡◌, refl, ap, ◌∙◌}
use mathlib.Core.List.{List, [], ◌++◌, append-nil}
use lib.ListN.{length, take, drop, length-append}
use lib.Seq.{sets, length-sets, sets-eq, take_at}
use Rattle.refusals.specs.declared.answer.Refusal.{Refusal}
use Rattle.text.specs.Put.{Put, put, did}
use Rattle.text.proofs.Decimal.{decimal_most}
use Rattle.text.proofs.Putting.{put_fits, sets_append}
use Rattle.listing_text.specs.Lines.{refused_line}
use Rattle.listing_text.proofs.Lengths.{refused_length}
use Rattle.page_text.specs.Pages.{page_text, pages_text, page_count}
use Rattle.page_text.proofs.Pagewise.{pages_next}

-- NO CYCLE gives no page, and at most 64 give one
pub no_page : (first n : ℕ) (outs bytes : List ℕ) → n ≡ 0 → pages_text (page_count n) first n outs bytes ≡ []
unfolding pages_text page_count
no_page first n outs bytes e = rw e

pub one_page : (first n : ℕ) (outs bytes : List ℕ) → 0 < n → n ≤ 64 → pages_text (page_count n) first n outs bytes ≡ page_text first n outs bytes
one_page first n outs bytes some few =
    let m : min 64 n ≡ n = min-eq_right few in
    let none : n - n ≡ 0 = omega arith in
    pages_next first n outs bytes some ∙ rw (m, none, no_page (first + n) 0 outs (drop (n * length outs) bytes) refl, append-nil)

-- A REFUSAL has a line of at most 50 bytes
pub refusal_put : (d : List ℕ) (at : ℕ) (r : Refusal) {d' : List ℕ} {at' : ℕ} → at + 71 ≤ length d → did d' at' ≡ put d at (refused_line r)
    → (d' ≡ sets d at (refused_line r)) × ((at' ≡ at + length (refused_line r)) × (at' ≤ length d'))
refusal_put d at r room e =
    let size : length (refused_line r) ≤ 50 = omega (arith, refused_length r, decimal_most r.number, decimal_most r.place) in
    let f = e ∙ put_fits d at (refused_line r) (omega arith) in
    let buffer = ap (λ (x : Put). x.buffer) f in
    let place = ap (λ (x : Put). x.place) f in
    (buffer, (place, omega (arith, place, size, room, ap length buffer, length-sets d at (refused_line r))))

-- ONE TEXT at the start of a buffer, and two
pub one_put : (d xs : List ℕ) {d' : List ℕ} {p : ℕ} → d' ≡ sets d 0 xs → p ≡ 0 + length xs → p ≤ length d' → take p d' ≡ xs
one_put d xs {p = p} e f room =
    let few : 0 + length xs ≤ length d = omega (arith, room, f, ap length e, length-sets d 0 xs) in
    rw (e, sets-eq xs d 0 few) (take_at xs (drop (0 + length xs) d) p (omega (arith, f)))

pub both_put : (d xs ys : List ℕ) {d' d'' : List ℕ} {p q : ℕ} → d' ≡ sets d 0 xs → p ≡ length xs → d'' ≡ sets d' p ys → q ≡ p + length ys → q ≤ length d''
    → take q d'' ≡ xs ++ ys
both_put d xs ys {d'' = d''} e f g h room =
    let n : 0 + length xs ≡ length xs = omega arith in
    let all : d'' ≡ sets d 0 (xs ++ ys) = g ∙ rw (e, f, ← n) (sets_append d 0 xs ys) in
    one_put d (xs ++ ys) all (omega (arith, h, f, length-append xs ys)) room
