-- `lists::lists::list_protected` meets its contract: there is room for one more OUT, which counts if it is protected.
use Rattle.std.proofs.Common.{◌==◌, refl, arith}
use Rattle.gates.specs.Kinds.{OUT}
use Rattle.checking.proofs.Checked.{check_none}
use Rattle.lists.specs.Lists.{protected_of}
use Rattle.lists.proofs.Placing.{listed_places, one_if, protected_next}
use Rattle.lists.proofs.lists.list_protected.Goals as goal

pub loop-i-init : goal.loop-i-init
unfolding protected_of
loop-i-init c = record { few = omega arith; are = refl }

pub operand_of-requires : goal.operand_of-requires
operand_of-requires c =
    let pre = c.requires.image_value in
    let below = (listed_places c.args.image.now refl OUT pre.1).within.below c.loop-i.i-index c.loop-i-test.true in
    (rw c.from.ensures below, omega arith, ((check_none _).0 pre.0).exact)

pub loop-i-preserved : goal.loop-i-preserved
loop-i-preserved c =
    let step = c.loop-i.invariant in
    let one = one_if (c.operand_of.result == 1) in
    record {
      few = omega (arith, one.1);
      are = rw (c.from-found.ensures, one.0, c.operand_of.ensures.0, c.from.ensures) (protected_next c.args.image.now c.args.outs.now c.loop-i.list c.loop-i-test.true (omega arith) step.are);
    }
