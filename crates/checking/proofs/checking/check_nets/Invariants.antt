-- At net i, what refuses the nets is what refuses those that are left, and the nets before it are counted.
use Rattle.checking.proofs.Turns.{Turn}
use Rattle.checking.proofs.checking.check_nets.Given as goal

abbrev pub invariant-loop-i : goal.invariant-loop-i
invariant-loop-i l = Turn l.s l.n l.limits l.counts l.i
