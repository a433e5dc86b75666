-- The longest line has room at the next place.
use Rattle.std.proofs.Common.{refl, ap}
use Rattle.cycle.specs.Answers.{verdict_in}
use Rattle.listing_text.specs.Lines.{cycle_line}
use Rattle.listing_text.proofs.Lengths.{cycle_most}
use Rattle.listing_output.proofs.Printing.{cycle_put, put_room}
use Rattle.listing_output.proofs.output.print_cycle.Goals as goal

pub returns-clause-result_after : goal.returns-clause-result_after
returns-clause-result_after g c =
    let q = c.make_room-q.ensures.used_value in
    let outputs = c.args.outputs.now in
    let v = verdict_in c.args.verdict in
    let few = cycle_most c.make_room-q.result.cycles outputs v c.requires.1 in
    cycle_put _ _ _ c.requires.0 q.0 few c.cycle_line-used.ensures outputs v (ap (λ n. cycle_line n outputs v) q.2) q.2 q.3

pub returns-clause-room : goal.returns-clause-room
returns-clause-room g c =
    let q = c.make_room-q.ensures.used_value in
    let few = cycle_most c.make_room-q.result.cycles c.args.outputs.now (verdict_in c.args.verdict) c.requires.1 in
    put_room _ _ _ c.requires.0 q.0 few c.cycle_line-used.ensures q.1 refl
