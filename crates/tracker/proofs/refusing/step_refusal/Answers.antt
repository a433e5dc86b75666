-- Of an image that is checked, R fits a u16.
use Rattle.std.proofs.Common.{arith}
use Rattle.gates.specs.Kinds.{REG}
use Rattle.refusals.proofs.Refusals.{passed}
use Rattle.checking.proofs.Checked.{check_none, few_of}
use Rattle.tracker.proofs.refusing.step_refusal.Goals as goal

pub lent_refusal-requires : goal.lent_refusal-requires
lent_refusal-requires c =
    let image = (check_none _).0 (passed c.check.result c.check.ensures c.in_ok-check.was) in
    rw c.sizes_of-z.ensures (omega (arith, image.registers, few_of image REG))
