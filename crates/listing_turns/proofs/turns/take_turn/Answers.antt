-- What is there is the unfinished row, and what was read behind it.
use Rattle.listing_turns.proofs.Reading.{turned}
use Rattle.listing_turns.proofs.turns.take_turn.Goals as goal

pub returns-clause-turned : goal.returns-clause-turned
returns-clause-turned g c ok =
    let read = c.in-Ok.ensures in
    turned _ _ _ _ read.bytes_in_bounds read.rows_unchanged (c.take_read-progress.ensures.took ok) c.keep_rest-rest.ensures.1
