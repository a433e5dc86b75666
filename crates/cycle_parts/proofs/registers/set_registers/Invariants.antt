-- At net i, the bytes of the registers below it stand in the state, and those of the others are left.
use Rattle.cycle_parts.proofs.Counting.{Counting}
use Rattle.cycle_parts.proofs.registers.set_registers.Given as goal

abbrev pub invariant-loop-i : goal.invariant-loop-i
invariant-loop-i g l = Counting g.byte l.image l.n l.initial.state l.state l.marked l.j l.i
