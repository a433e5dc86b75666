-- At net i the nets of the groups before it are counted.
use Rattle.std.proofs.Common.{◌≡◌}
use Rattle.image.specs.Image.{nets_of}
use Rattle.figures.proofs.Raising.{counts_to}
use Rattle.figures.proofs.counting.count_kinds.Given as goal

abbrev pub invariant-loop-i : goal.invariant-loop-i
invariant-loop-i l = l.counts ≡ counts_to (nets_of l.image) l.i
