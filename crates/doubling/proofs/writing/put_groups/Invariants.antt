-- At net i, the groups of the nets below it are written, and the others are left.
use Rattle.std.proofs.Common.{◌≡◌}
use Rattle.image.specs.Image.{nets_of}
use Rattle.image.specs.Writing.{put_nets}
use Rattle.image.proofs.Nets.{nets_left}
use Rattle.doubled.specs.Doubled.{groups_from, value_net, doubled_nets}
use Rattle.doubling.proofs.writing.put_groups.Given as goal

abbrev pub invariant-loop-i : goal.invariant-loop-i
invariant-loop-i l =
    let xs = nets_of l.image in
    put_nets l.initial.d l.size 0 (doubled_nets xs) ≡ put_nets l.d l.size (value_net xs l.i) (groups_from xs l.i (nets_left l.image l.n l.i))
