-- The group lengths are summed net by net.
use Rattle.std.proofs.Common.{◌≡◌, ◌+◌, ◌∙◌, sym, arith}
use Rattle.image.specs.Image.{nets_of}
use Rattle.image.proofs.Nets.{length_nets}
use Rattle.checking.proofs.Checked.{check_none}
use Rattle.groups.specs.Groups.{group_length}
use Rattle.doubled.specs.Doubled.{value_net}
use Rattle.doubled.proofs.Positions.{value_end}
use Rattle.doubled.proofs.Sums.{start_zero, next_start, accepted_fits}
use Rattle.figures.proofs.size.sum_lengths.Goals as goal
use Rattle.figures.proofs.size.sum_lengths.Goals.{After-from-size}

pub loop-i-init : goal.loop-i-init
loop-i-init c = sym (start_zero _)

-- one net further
next : (c : After-from-size) → c.loop-i.size + c.from-size.result ≡ value_net (nets_of c.args.image.now) (c.loop-i.i + 1)
unfolding group_length
next c =
    let e = next_start ((check_none _).0 c.requires.0) c.loop-i.i c.requires.1 c.loop-i-test.true in
    rw (c.loop-i.invariant, c.from-size.ensures, c.group_lengths-lengths.ensures, c.from.ensures, c.kind_of.ensures) (sym e)

pub overflow_add-size : goal.overflow_add-size
overflow_add-size c = omega (arith, next c, accepted_fits c.args.image.now c.requires.0 (c.loop-i.i + 1))

pub loop-i-preserved : goal.loop-i-preserved
loop-i-preserved c = next c

pub returns : goal.returns
returns c = c.loop-i.invariant ∙ value_end _ c.loop-i.i (omega (arith, c.loop-i-test.false, c.requires.1, length_nets c.args.image.now))
