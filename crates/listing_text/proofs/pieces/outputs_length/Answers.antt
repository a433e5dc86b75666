-- A digit for each output, and a - where there is none.
use Rattle.std.proofs.Common.{sym, ◌∙◌}
use Rattle.listing_text.proofs.Outputs.{length_digits}
use Rattle.listing_text.proofs.pieces.outputs_length.Goals as goal

pub returns : goal.returns
returns c = c.max.ensures ∙ sym (length_digits _)
