-- The table has the sign of each byte.
use Rattle.page_text.proofs.Signs.{sign_of}
use Rattle.page_text.proofs.pieces.signs.Goals as goal

pub returns : goal.returns
returns c = sign_of
