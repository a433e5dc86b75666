-- Of an image that is checked, R fits a u16.
use Rattle.std.proofs.Common.{arith}
use Rattle.gates.specs.Kinds.{REG}
use Rattle.refusals.proofs.Refusals.{passed}
use Rattle.checking.proofs.Checked.{check_none, few_of}
use Rattle.tracker.proofs.refusing.power_up_refusal.Goals as goal

pub state_length-requires : goal.state_length-requires
state_length-requires c =
    let image = (check_none _).0 (passed c.check.result c.check.ensures c.in_ok-check.was) in
    rw c.sizes_of-z.ensures (omega (arith, image.registers, few_of image REG))
