-- `settling::settling::set_constants`: at net i, the nets below it have their first bytes.
use Rattle.std.proofs.Common.{ℕ}
use Rattle.settling.specs.Settling.{Prepared}
use Rattle.settling.proofs.settling.set_constants.Given as goal

abbrev pub invariant-loop-i : goal.invariant-loop-i
invariant-loop-i l = (width : ℕ) → Prepared width l.image l.nets l.i
