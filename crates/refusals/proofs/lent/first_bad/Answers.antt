-- Where no byte is bad there is no first one.
use Rattle.std.proofs.Common.{rules}
use Rattle.refusals.specs.Refusals.{bad_above}
use Rattle.refusals.proofs.BadBytes.{no_position}
use Rattle.refusals.proofs.lent.first_bad.Goals as goal

pub returns-then-not-any_bad : goal.returns-then-not-any_bad
returns-then-not-any_bad c = search (rules, no_position (bad_above c.args.top) c.args.s.now)
