-- `lists::lists::lowest_gate`: no net that was passed is a gate or OUT.
use Rattle.std.proofs.Common.{ℕ, ◌<◌}
use Rattle.gates.specs.Kinds.{NOT}
use Rattle.image.specs.Image.{kind_at}
use Rattle.lists.proofs.lists.lowest_gate.Given as goal

abbrev pub invariant-loop-i : goal.invariant-loop-i
invariant-loop-i l = (j : ℕ) → j < l.i → kind_at l.image j < NOT
