-- The rows that were run have their lines, and the row after them draws its refusal, if it does.
use Rattle.std.proofs.Common.{sym, ap, ◌∙◌}
use Rattle.refusals.specs.Refusals.{refusal_in}
use Rattle.listing_rows.proofs.Many.{lent_of, many_done, many_bad}
use Rattle.listing_rows.proofs.rows.take_many.Goals as goal

pub run_rows-ran-requires : goal.run_rows-ran-requires
run_rows-ran-requires g c = lent_of c.requires

pub returns-in-Ok-clause-taken : goal.returns-in-Ok-clause-taken
returns-in-Ok-clause-taken g c =
    let lines = c.print_cycles-q.ensures in
    let did = c.run_rows-ran.ensures in
    (many_done c.requires did lines.result_after lines.grown (sym did.refusal ∙ ap refusal_in c.in-Ok.is)).0

pub returns-in-Err-clause-taken : goal.returns-in-Err-clause-taken
returns-in-Err-clause-taken g c =
    let lines = c.print_cycles-q.ensures in
    let did = c.run_rows-ran.ensures in
    let last = c.print_refusal in
    (many_bad c.requires did lines.result_after lines.grown (sym did.refusal ∙ ap refusal_in c.in-Err.is) last.result
    last.ensures.result_after last.ensures.failed_value.1 last.ensures.failed_value.0 last.auto.text).0

pub returns-in-Err-clause-leaves : goal.returns-in-Err-clause-leaves
returns-in-Err-clause-leaves g c =
    let lines = c.print_cycles-q.ensures in
    let did = c.run_rows-ran.ensures in
    let last = c.print_refusal in
    (many_bad c.requires did lines.result_after lines.grown (sym did.refusal ∙ ap refusal_in c.in-Err.is) last.result
    last.ensures.result_after last.ensures.failed_value.1 last.ensures.failed_value.0 last.auto.text).1
