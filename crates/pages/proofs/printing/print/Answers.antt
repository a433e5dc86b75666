-- An image that is accepted has sizes, and any other is refused.
use Rattle.std.proofs.Common.{[], arith, sym, ap, ◌∙◌}
use Rattle.refusals.specs.Refusals.{refusal_in}
use Rattle.checking.proofs.Checked.{check_none}
use Rattle.pages.proofs.AllTurns.{printed_refused, at_once}
use Rattle.pages.proofs.printing.print.Goals as goal

pub sizes_of-requires : goal.sizes_of-requires
sizes_of-requires g c = omega (arith, ((check_none _).0 (sym c.check.ensures ∙ ap refusal_in c.in-Ok.is)).exact)

pub returns-in-Err : goal.returns-in-Err
returns-in-Err g c h =
    let drawn = sym c.check.ensures ∙ ap refusal_in c.in-Err.is in
    at_once c.args.image.now c.print_refused.new.text c.print_refused.result.used (c.print_refused.ensures ∙ sym (printed_refused c.args.image.now [] drawn))
