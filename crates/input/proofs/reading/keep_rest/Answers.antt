-- The bytes of the unfinished row stand in front.
use Rattle.std.proofs.Common.{refl, sym, ◌∙◌}
use Rattle.input.proofs.Keeping.{moved, rest_is}
use Rattle.input.proofs.reading.keep_rest.Goals as goal

pub returns : goal.returns
returns c = (refl, rw c.copy_within.ensures.after (moved _ c.args.inputs _ c.requires.1) ∙ sym (rest_is _ _ _ c.requires.1))
