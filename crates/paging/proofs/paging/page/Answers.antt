-- A refusal leaves the page buffer; else it has the pages.
use Rattle.std.proofs.Common.{arith, ◌≤◌}
use mathlib.Core.Path.{sym, ap, ◌∙◌}
use Rattle.image.specs.declared.image.Sizes.{Sizes}
use Rattle.refusals.proofs.Refusals.{passed, turned}
use Rattle.checking.proofs.Checked.{check_none}
use Rattle.text.proofs.Buffers.{front_length}
use Rattle.paging.proofs.PageCalls.{page_none, page_accepted, page_refused, outs_few}
use Rattle.paging.proofs.paging.page.Goals as goal

pub returns-in_err-page_refusal : goal.returns-in_err-page_refusal
returns-in_err-page_refusal c =
    let back = page_refused c.args.image.now c.args.k c.args.outputs.now c.args.page.now _ (turned c.page_refusal.result c.page_refusal.ensures c.in_err-page_refusal.was) in
    grind (arith, c.from_residual.ensures, back)

pub sizes_of-n-requires : goal.sizes_of-n-requires
sizes_of-n-requires c = omega (arith, ((check_none _).0 ((page_none c.args.image.now c.args.k c.args.outputs.now c.args.page.now).0 (passed c.page_refusal.result c.page_refusal.ensures c.in_ok-page_refusal.was)).0).exact)

pub slice_bounds-list-end : goal.slice_bounds-list-end
slice_bounds-list-end c = rw c.sizes_of-n.ensures (outs_few ((check_none _).0 ((page_none c.args.image.now c.args.k c.args.outputs.now c.args.page.now).0 (passed c.page_refusal.result c.page_refusal.ensures c.in_ok-page_refusal.was)).0))

pub slice_bounds-put_listed-end : goal.slice_bounds-put_listed-end
slice_bounds-put_listed-end c =
    let few : c.sizes_of-n.result.outputs ≤ 8192 = rw c.sizes_of-n.ensures (outs_few ((check_none _).0 ((page_none c.args.image.now c.args.k c.args.outputs.now c.args.page.now).0 (passed c.page_refusal.result c.page_refusal.ensures c.in_ok-page_refusal.was)).0)) in
    sym (front_length 8192 c.sizes_of-n.result.outputs few)

pub put_listed-requires : goal.put_listed-requires
put_listed-requires c =
    let few : c.sizes_of-n.result.outputs ≤ 8192 = rw c.sizes_of-n.ensures (outs_few ((check_none _).0 ((page_none c.args.image.now c.args.k c.args.outputs.now c.args.page.now).0 (passed c.page_refusal.result c.page_refusal.ensures c.in_ok-page_refusal.was)).0)) in
    (passed c.page_refusal.result c.page_refusal.ensures c.in_ok-page_refusal.was, front_length 8192 c.sizes_of-n.result.outputs few ∙ ap (λ (z : Sizes). z.outputs) c.sizes_of-n.ensures)

pub returns : goal.returns
returns c =
    rw c.put_listed.ensures (sym (page_accepted c.args.image.now c.args.k c.args.outputs.now c.args.page.now (passed c.page_refusal.result c.page_refusal.ensures c.in_ok-page_refusal.was)))
