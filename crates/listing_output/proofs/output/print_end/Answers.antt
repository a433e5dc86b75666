-- The line is short, and it is what the closure puts.
use Rattle.std.proofs.Common.{rules}
use Rattle.listing_text.specs.Lines.{end_line}
use Rattle.listing_output.proofs.Printing.{end_most}
use Rattle.listing_output.proofs.output.print_end.Goals as goal

pub print_last-requires-clause-puts : goal.print_last-requires-clause-puts
print_last-requires-clause-puts g c = (end_line c.args.p.cycles, (end_most c.args.p.cycles, λ before after at used call. search rules))

pub returns-clause-result_after : goal.returns-clause-result_after
returns-clause-result_after g c = c.print_last.ensures.result_after (end_line c.args.p.cycles) (end_most c.args.p.cycles, λ before after at used call. search rules)
