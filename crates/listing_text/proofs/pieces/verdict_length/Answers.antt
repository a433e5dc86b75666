-- A net has few digits.
use Rattle.std.proofs.Common.{arith}
use Rattle.text.proofs.Decimal.{decimal_most}
use Rattle.listing_text.proofs.pieces.verdict_length.Goals as goal

pub overflow_add-result : goal.overflow_add-result
overflow_add-result c = record { fits = omega (arith, c.digit_count.ensures, decimal_most c.in-Flow.net) }
