-- `settling::settling::settle_from`: the gates and OUTs below the net that settling has come to are settled.
use Rattle.std.proofs.Common.{◌+◌, ◌*◌}
use Rattle.settling.specs.Settling.{Settled}
use Rattle.settling.proofs.settling.settle_from.Given as goal

abbrev pub invariant-loop-four : goal.invariant-loop-four
invariant-loop-four g l = Settled g.row.W l.image l.fn.nets l.nets (l.from + 4 * l.four)

abbrev pub invariant-loop-j : goal.invariant-loop-j
invariant-loop-j g l = Settled g.row.W l.image l.fn.nets l.nets l.j

abbrev pub invariant-loop-j-2 : goal.invariant-loop-j-2
invariant-loop-j-2 g l = Settled g.row.W l.image l.fn.nets l.nets l.j
