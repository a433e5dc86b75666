-- The first of 64 blanks are as many blanks.
use Rattle.page_text.proofs.Blanks.{take_blanks}
use Rattle.page_text.proofs.pieces.put_blanks.Goals as goal

pub returns-clause-page_after : goal.returns-clause-page_after
returns-clause-page_after c = rw (take_blanks c.args.columns 64 c.requires.0) at c.put_text.ensures.buffer_after
