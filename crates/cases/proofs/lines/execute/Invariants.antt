-- Each line leaves less of the text.
use Rattle.std.proofs.Common.{◌-◌, length}
use Rattle.cases.proofs.lines.execute.Given as goal

abbrev pub decreases-loop-p : goal.decreases-loop-p
decreases-loop-p g l = length l.t - l.p
