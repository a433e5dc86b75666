-- Group after group is written.
use Rattle.std.proofs.Common.{◌∙◌, sym, arith}
use Rattle.image.specs.Image.{nets_of}
use Rattle.image.specs.Writing.{put_nets}
use Rattle.image.proofs.Nets.{nets_left_lem, nets_done}
use Rattle.checking.proofs.Checked.{check_none}
use Rattle.doubled.specs.Doubled.{groups_from, doubled_nets}
use Rattle.doubled.proofs.Sums.{start_zero}
use Rattle.doubling.proofs.Laying.{one_group, group_ends}
use Rattle.doubling.proofs.writing.put_groups.Goals as goal

pub loop-i-init : goal.loop-i-init
unfolding doubled_nets
loop-i-init c = rw (nets_left_lem c.args.image.now c.args.n c.requires.n_value.0, start_zero (nets_of c.args.image.now))

pub put_group_at-requires-clause-room : goal.put_group_at-requires-clause-room
put_group_at-requires-clause-room c =
    let end = group_ends ((check_none _).0 c.requires.image_value) c.requires.n_value.0 c.loop-i.i c.loop-i-test.true in
    record { long = omega arith; within = omega (arith, end, c.requires.size_value.0); few = c.requires.size_value.1 }

pub loop-i-preserved : goal.loop-i-preserved
loop-i-preserved c =
    let n = c.requires.n_value.0 in
    rw (rw (← n) at c.put_group_at.ensures)
    (c.loop-i.invariant ∙ one_group ((check_none _).0 c.requires.image_value) n c.loop-i.i c.loop-i-test.true c.loop-i.d c.args.size)

pub returns : goal.returns
unfolding groups_from put_nets
returns c = sym (c.loop-i.invariant ∙ rw (nets_done c.args.image.now c.args.n c.loop-i.i (omega (arith, c.loop-i-test.false))))
