-- The table is the definition's list.
use Rattle.std.proofs.Common.{refl}
use Rattle.groups.specs.Groups.{group_lengths}
use Rattle.doubled.proofs.lengths.group_lengths.Goals as goal

pub returns : goal.returns
unfolding group_lengths
returns c = refl
