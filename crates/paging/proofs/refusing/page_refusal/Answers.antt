-- There are at most 8,192 outputs, so no product wraps.
use Rattle.std.proofs.Common.{rules, ◌≤◌}
use Rattle.refusals.proofs.Refusals.{passed}
use Rattle.checking.proofs.Checked.{check_none}
use Rattle.cycle.proofs.Runs.{product_fits}
use Rattle.paging.proofs.PageCalls.{outs_few}
use Rattle.paging.proofs.refusing.page_refusal.Goals as goal

pub overflow_mul-k : goal.overflow_mul-k
overflow_mul-k c =
    let image = (check_none _).0 (passed c.check.result c.check.ensures c.in_ok-check.was) in
    let few : c.args.k ≤ 4096 = search rules in
    rw c.sizes_of-z.ensures (record { fits = product_fits few (outs_few image) })

pub pages_length-requires : goal.pages_length-requires
pages_length-requires c =
    let image = (check_none _).0 (passed c.check.result c.check.ensures c.in_ok-check.was) in
    let few : c.args.k ≤ 4096 = search rules in
    (few, rw c.sizes_of-z.ensures (outs_few image))
