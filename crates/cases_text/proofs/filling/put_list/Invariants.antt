-- Each number leaves less of the text.
use Rattle.std.proofs.Common.{◌-◌, length}
use Rattle.cases_text.proofs.filling.put_list.Given as goal

abbrev pub decreases-loop-n : goal.decreases-loop-n
decreases-loop-n l = length l.t - l.next
