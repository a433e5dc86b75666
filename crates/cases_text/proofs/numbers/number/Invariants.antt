-- Behind a digit that was found, the next place is behind the first one, and within the text.
use Rattle.std.proofs.Common.{◌≡◌, true, ◌<◌, ◌≤◌, length}
use Rattle.cases_text.proofs.numbers.number.Given as goal

abbrev pub invariant-loop-i : goal.invariant-loop-i
invariant-loop-i l = l.found ≡ true → (l.p < l.n.next) × (l.n.next ≤ length l.t)
