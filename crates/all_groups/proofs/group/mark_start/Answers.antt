-- Where b is 2 the start is 1, and else it is 0.
use Rattle.std.proofs.Common.{refl}
use borrow.Author.Tests.{ne_eqb}
use Rattle.groups.specs.Groups.{mark_start}
use Rattle.all_groups.proofs.group.mark_start.Goals as goal

pub returns-then-b-eq2 : goal.returns-then-b-eq2
unfolding mark_start
returns-then-b-eq2 c = rw c.if-b-eq2.true refl

pub returns-else-b-eq2 : goal.returns-else-b-eq2
unfolding mark_start
returns-else-b-eq2 c = rw (ne_eqb _ 2 c.if-b-eq2.false) refl
