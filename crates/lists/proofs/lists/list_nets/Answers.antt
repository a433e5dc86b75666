-- `lists::lists::list_nets`: at net i, the numbers of the nets of the kind below it stand, and those of the others are left.
use Rattle.std.proofs.Common.{arith}
use mathlib.Core.Path.{refl}
use Rattle.checking.proofs.Checked.{check_none}
use Rattle.cycle.proofs.Filling.{pass_begins, pass_below, pass_full}
use Rattle.lists.proofs.Placing.{one_if, list_goes_on}
use Rattle.lists.proofs.lists.list_nets.Goals as goal

pub loop-found-init : goal.loop-found-init
loop-found-init c = pass_begins _ ((check_none _).0 c.requires.image_value) refl c.requires.list_len

pub overflow_cast-list : goal.overflow_cast-list
overflow_cast-list c =
    record { fits = omega (arith, pass_below c.loop-found.invariant (omega (arith, c.loop-found-test.true)), ((check_none _).0 c.requires.image_value).few_nets) }

pub kind_of-requires : goal.kind_of-requires
kind_of-requires c = omega (arith, pass_below c.loop-found.invariant (omega (arith, c.loop-found-test.true)), c.loop-found.invariant.exact)

pub loop-found-smaller : goal.loop-found-smaller
loop-found-smaller c = omega (arith, pass_below c.loop-found.invariant (omega (arith, c.loop-found-test.true)))

pub loop-found-preserved : goal.loop-found-preserved
loop-found-preserved c =
    rw (c.from-found.ensures, (one_if _).0, c.kind_of.ensures) (list_goes_on c.loop-found.invariant (pass_below c.loop-found.invariant (omega (arith, c.loop-found-test.true))))

pub returns : goal.returns
returns c = pass_full c.loop-found.invariant c.loop-found-test.false
