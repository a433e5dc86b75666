-- At net i the starts to net i stand in the array.
use Rattle.std.proofs.Common.{◌≡◌, length}
use Rattle.image.specs.Image.{nets_of}
use Rattle.doubled.specs.Doubled.{value_net}
use Rattle.doubled.proofs.Sums.{Summed}
use Rattle.doubled.proofs.lengths.starts_of.Given as goal

abbrev pub invariant-loop-i : goal.invariant-loop-i
invariant-loop-i l = (length l.starts ≡ 8193) × (l.size ≡ value_net (nets_of l.image) l.i) × Summed l.starts (nets_of l.image) l.i
