-- At net i the groups of the nets before it are summed.
use Rattle.std.proofs.Common.{◌≡◌}
use Rattle.image.specs.Image.{nets_of}
use Rattle.doubled.specs.Doubled.{value_net}
use Rattle.figures.proofs.size.sum_lengths.Given as goal

abbrev pub invariant-loop-i : goal.invariant-loop-i
invariant-loop-i l = l.size ≡ value_net (nets_of l.image) l.i
