-- Of an image that is checked, R fits a u16, and no product wraps.
use Rattle.std.proofs.Common.{rules, ◌≤◌, arith}
use Rattle.gates.specs.Kinds.{INPUT, REG, OUT}
use Rattle.refusals.proofs.Refusals.{passed}
use Rattle.checking.proofs.Checked.{check_none, few_of}
use Rattle.cycle.proofs.Runs.{product_fits}
use Rattle.tracker.proofs.refusing.run_refusal.Goals as goal

pub overflow_mul-k : goal.overflow_mul-k
overflow_mul-k c =
    let image = (check_none _).0 (passed c.check.result c.check.ensures c.in_ok-check.was) in
    let few : c.args.k ≤ 4096 = search rules in
    rw c.sizes_of-z.ensures (record { fits = product_fits few (omega (arith, image.inputs, few_of image INPUT)) })

pub overflow_mul-k-2 : goal.overflow_mul-k-2
overflow_mul-k-2 c =
    let image = (check_none _).0 (passed c.check.result c.check.ensures c.in_ok-check.was) in
    let few : c.args.k ≤ 4096 = search rules in
    rw c.sizes_of-z.ensures (record { fits = product_fits few (omega (arith, image.outputs, few_of image OUT)) })

pub lent_refusal-requires : goal.lent_refusal-requires
lent_refusal-requires c =
    let image = (check_none _).0 (passed c.check.result c.check.ensures c.in_ok-check.was) in
    rw c.sizes_of-z.ensures (omega (arith, image.registers, few_of image REG))
