-- No byte came, and the last line is that of the bytes that are there.
use Rattle.listing_turns.proofs.Reading.{took_end}
use Rattle.listing_turns.proofs.turns.take_read.Goals as goal

pub returns-then-got-eq0-clause-took : goal.returns-then-got-eq0-clause-took
returns-then-got-eq0-clause-took g c ok =
    let pre = c.requires in
    let read = c.if-got-eq0.true in
    took_end _ _ c.args.netlist.known.some pre.there_in_bounds.0 (pre.there_in_bounds.1 read) pre.room.1 read c.take_end.ensures.result_after
