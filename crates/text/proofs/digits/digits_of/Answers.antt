-- The fewest digits that hold a number are its decimal digits.
use Rattle.std.proofs.Common.{◌∙◌}
use Rattle.text.proofs.Decimal.{decimal_is}
use Rattle.text.proofs.digits.digits_of.Goals as goal

pub returns-clause-digits_after : goal.returns-clause-digits_after
returns-clause-digits_after c = c.decimal.ensures.digits ∙ decimal_is _ _ c.ranges.n.fits c.decimal.ensures.len
