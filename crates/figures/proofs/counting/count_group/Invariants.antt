-- At a place of the row, the places before it are counted, and raising those that are left gives the whole.
use Rattle.std.proofs.Common.{◌+◌, ◌*◌}
use Rattle.figures.specs.Tables.{group_kinds, places, raised_by}
use Rattle.figures.proofs.Raising.{Turn}
use Rattle.figures.proofs.counting.count_group.Given as goal

abbrev pub invariant-loop-pair : goal.invariant-loop-pair
invariant-loop-pair l = Turn (raised_by l.initial.counts (places group_kinds l.first l.end)) l.end (l.first + 2 * l.pair) l.counts
