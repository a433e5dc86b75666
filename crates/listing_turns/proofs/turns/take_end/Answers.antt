-- By whether a row is unfinished.
use Rattle.std.proofs.Common.{arith}
use Rattle.listing_turns.proofs.Reading.{unfinished_line, finished_line, last_as, last_grown}
use Rattle.listing_turns.proofs.turns.take_end.Goals as goal

pub returns-then-have-gt0-clause-result_after : goal.returns-then-have-gt0-clause-result_after
returns-then-have-gt0-clause-result_after g c = last_as _ (unfinished_line _ _ c.if-have-gt0.true) (rw c.at.ensures at c.print_refusal.ensures.result_after)

pub returns-then-have-gt0-clause-grown : goal.returns-then-have-gt0-clause-grown
returns-then-have-gt0-clause-grown g c =
    let line = c.print_refusal in
    last_grown _ _ c.args.p line.result c.requires line.auto.text line.ensures.result_after line.ensures.failed_value.1 line.ensures.failed_value.0

pub returns-clause-result_after : goal.returns-clause-result_after
returns-clause-result_after g c = last_as _ (finished_line _ _ (omega (arith, c.if-have-gt0.false))) c.print_end.ensures.result_after

pub returns-clause-grown : goal.returns-clause-grown
returns-clause-grown g c =
    let line = c.print_end in
    last_grown _ _ c.args.p line.result c.requires line.auto.text line.ensures.result_after line.ensures.failed_value.1 line.ensures.failed_value.0
