-- At net i, what is left of the walk gives the bytes of all nets.
use Rattle.std.proofs.Common.{◌≡◌}
use Rattle.cycle_parts.proofs.Walking.{Walked}
use Rattle.cycle_parts.proofs.nets.work_out.Given as goal

abbrev pub invariant-loop-i : goal.invariant-loop-i
invariant-loop-i l =
    (l.taken.row ≡ l.initial.taken.row) × (l.taken.state ≡ l.initial.taken.state)
    × Walked l.image l.n l.taken.row.now l.taken.state.now l.nets l.i l.taken.inputs l.taken.registers
