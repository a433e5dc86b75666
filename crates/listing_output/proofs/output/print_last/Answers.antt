-- The line has room at the next place, and is written out.
use Rattle.listing_output.proofs.Printing.{put_within, last_put}
use Rattle.listing_output.proofs.output.print_last.Goals as goal

pub empty-requires : goal.empty-requires
empty-requires g c =
    let q = c.make_room-q.ensures.used_value in
    let line = c.requires.puts in
    put_within _ _ line.0 c.requires.room q.0 line.1.0 (line.1.1 _ _ _ _ c.put_line-used.ensures) q.1

pub returns-clause-result_after : goal.returns-clause-result_after
returns-clause-result_after g c line puts =
    let q = c.make_room-q.ensures.used_value in
    let out = c.empty.ensures.used_value in
    last_put _ _ _ c.requires.room q.0 puts.0 (puts.1 _ _ _ _ c.put_line-used.ensures) q.2 (rw (out.0, out.2, out.3))
