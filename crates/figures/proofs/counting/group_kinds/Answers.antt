-- The table is the definition's list.
use Rattle.std.proofs.Common.{refl}
use Rattle.figures.specs.Tables.{group_kinds}
use Rattle.figures.proofs.counting.group_kinds.Goals as goal

pub returns : goal.returns
unfolding group_kinds
returns c = refl
