-- At net i, the verdict is that of the nets that are left, and no net before it flows.
use Rattle.std.proofs.Common.{◌≡◌}
use Rattle.gates.specs.Rules.{mark}
use Rattle.image.specs.Image.{nets_of}
use Rattle.image.proofs.Nets.{nets_left}
use Rattle.cycle.specs.Answers.{verdict_in}
use Rattle.cycle.specs.Cycle.{clear, verdict_from}
use Rattle.cycle_parts.proofs.verdict.verdict_of.Given as goal

abbrev pub invariant-loop-i : goal.invariant-loop-i
invariant-loop-i l =
    (verdict_from mark 0 (nets_of l.image) l.nets ≡ verdict_from mark l.i (nets_left l.image l.n l.i) l.nets) × (verdict_in l.verdict ≡ clear)
