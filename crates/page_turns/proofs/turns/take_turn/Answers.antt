-- The turn is made on the bytes that were read.
use Rattle.page_turns.proofs.Turning.{turn_made}
use Rattle.page_turns.proofs.turns.take_turn.Goals as goal

pub returns : goal.returns
returns g c h = turn_made c.fill-got.new.buffer c.args.p c.put_rows-did.result c.put_rows-did.ensures c.fill-got.ensures.prefix_len.0
