-- The first bad byte decides.
use Rattle.std.proofs.Common.{arith}
use Rattle.refusals.specs.Refusals.{bad_above}
use Rattle.refusals.proofs.BadBytes.{bad_position}
use Rattle.refusals.proofs.lent.byte_refusal.Goals as goal

pub returns-in-Some : goal.returns-in-Some
returns-in-Some c = grind (arith, bad_position (bad_above c.args.top) c.args.number c.args.s.now, c.in-Some.ensures, c.refused.ensures)

pub returns-in-None : goal.returns-in-None
returns-in-None c = grind (arith, bad_position (bad_above c.args.top) c.args.number c.args.s.now, c.in-None.ensures)
