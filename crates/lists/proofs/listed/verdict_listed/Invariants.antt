-- `lists::listed::verdict_listed`: the verdict is that of the listed nets that are left, and none before them is marked.
use Rattle.std.proofs.Common.{◌≡◌, drop}
use Rattle.cycle.specs.Answers.{verdict_in}
use Rattle.cycle.specs.Cycle.{clear}
use Rattle.lists.specs.Lists.{first_marked}
use Rattle.lists.proofs.listed.verdict_listed.Given as goal

abbrev pub invariant-loop-net : goal.invariant-loop-net
invariant-loop-net l = (first_marked l.list l.nets ≡ first_marked (drop l.net-index l.list) l.nets) × (verdict_in l.verdict ≡ clear)
