-- The line is short, and it is what the closure puts.
use Rattle.std.proofs.Common.{rules}
use Rattle.listing_text.specs.Lines.{refused_line}
use Rattle.listing_output.proofs.Printing.{refused_most}
use Rattle.listing_output.proofs.output.print_refusal.Goals as goal

pub print_last-requires-clause-puts : goal.print_last-requires-clause-puts
print_last-requires-clause-puts g c = (refused_line c.args.refusal, (refused_most c.args.refusal, λ before after at used call. search rules))

pub returns-clause-result_after : goal.returns-clause-result_after
returns-clause-result_after g c = c.print_last.ensures.result_after (refused_line c.args.refusal) (refused_most c.args.refusal, λ before after at used call. search rules)
