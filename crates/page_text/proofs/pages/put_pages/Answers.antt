-- Page after page is put.
use Rattle.std.proofs.Common.{◌≡◌, ◌*◌, ◌-◌, ◌<◌, min, length, drop, ◌∙◌, append-nil, arith, length-drop}
use Rattle.std.proofs.lemmas.List.{take_rest}
use native.Mathlib.Nat.{zero-mul}
use Rattle.text.proofs.Putting.{left_all, left_room, left_then, sets_whole}
use Rattle.page_text.specs.Pages.{pages_text, page_count}
use Rattle.page_text.proofs.PageParts.{page_length}
use Rattle.page_text.proofs.Pagewise.{page_left, page_bytes, pages_fill, pages_put, pages_counted}
use Rattle.page_text.proofs.pages.put_pages.Goals as goal

pub loop-i-init : goal.loop-i-init
loop-i-init c =
    let whole : c.args.k - 0 ≡ c.args.k = omega arith in
    let all : page_count c.args.k - 0 ≡ page_count c.args.k = omega arith in
    left_all (rw (whole, all, append-nil, zero-mul))

pub put_page-at-requires-clause-outs_len_bound : goal.put_page-at-requires-clause-outs_len_bound
put_page-at-requires-clause-outs_len_bound c =
    let o = length c.args.outs.now in
    let i = c.loop-i.i in (
      c.requires.outs_len_bound.0,
      omega (arith, c.min-n.ensures),
      rw (c.min-n.ensures, take_rest)
          (omega (
            arith,
            length-drop (64 * i * o) c.args.bytes.now,
            page_bytes i c.args.k o (omega (arith, c.loop-i-test.true, c.div_ceil-i-end.ensures)),
            c.requires.outs_len_bound.2,
          )),
    )

pub put_page-at-requires-clause-outs_in_bounds : goal.put_page-at-requires-clause-outs_in_bounds
put_page-at-requires-clause-outs_in_bounds c =
    let k = c.args.k in
    let outs = c.args.outs.now in
    let bytes = c.args.bytes.now in
    let i = c.loop-i.i in
    let below : i < page_count k = omega (arith, c.loop-i-test.true, c.div_ceil-i-end.ensures, pages_counted k) in
    let room =
    left_room (page_left (page_count k) i k outs bytes below c.loop-i.invariant)
    (omega (arith, pages_fill k outs bytes (λ i. omega (arith, c.type_inv.outs i)) c.requires.page_len)) in
    omega (
      arith,
      room,
      page_length (64 * i) (min 64 (k - 64 * i)) outs (drop (64 * i * length outs) bytes) (λ i. omega (arith, c.type_inv.outs i)) (omega arith),
    )

pub loop-i-preserved : goal.loop-i-preserved
loop-i-preserved c =
    let k = c.args.k in
    let outs = c.args.outs.now in
    let bytes = c.args.bytes.now in
    let i = c.loop-i.i in
    let below : i < page_count k = omega (arith, c.loop-i-test.true, c.div_ceil-i-end.ensures, pages_counted k) in
    let size =
    page_length (64 * i) (min 64 (k - 64 * i)) outs (drop (64 * i * length outs) bytes) (λ i. omega (arith, c.type_inv.outs i)) (omega arith) in
    left_then (page_left (page_count k) i k outs bytes below c.loop-i.invariant)
    (rw (c.min-n.ensures, take_rest) at c.put_page-at.ensures.page_after)
    (omega (arith, size, c.put_page-at.ensures.value))

pub returns : goal.returns
returns c =
    let k = c.args.k in
    let outs = c.args.outs.now in
    let bytes = c.args.bytes.now in
    let all = pages_put (page_count k) c.loop-i.i k outs bytes (omega (arith, c.loop-i-test.false, c.div_ceil-i-end.ensures, pages_counted k)) c.loop-i.invariant in
    all ∙ sets_whole c.args.page.now (pages_text (page_count k) 0 k outs bytes) (pages_fill k outs bytes (λ i. omega (arith, c.type_inv.outs i)) c.requires.page_len)
