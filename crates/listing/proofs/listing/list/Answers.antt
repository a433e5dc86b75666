-- An image that is accepted has sizes, and any other is refused.
use Rattle.std.proofs.Common.{arith, sym, ap, ◌∙◌}
use Rattle.image.specs.declared.image.Sizes.{Sizes}
use Rattle.refusals.specs.Refusals.{refusal_in}
use Rattle.checking.proofs.Checked.{check_none}
use Rattle.listing_text.specs.Lines.{refused_line}
use Rattle.listing_output.specs.Printed.{with_last}
use Rattle.listing.proofs.Listings.{blank_is, listing_refused, refused_only, reads_none_lem, listing_end}
use Rattle.listing.proofs.listing.list.Goals as goal

pub sizes_of-requires : goal.sizes_of-requires
sizes_of-requires g c = omega (arith, ((check_none _).0 (sym c.check.ensures ∙ ap refusal_in c.in-Ok.is)).exact)

pub returns-in-Ok-clause-result_after : goal.returns-in-Ok-clause-result_after
returns-in-Ok-clause-result_after g c h =
    let image = c.args.image.now in
    let text = c.args.text.now in
    let accepted = sym c.check.ensures ∙ ap refusal_in c.in-Ok.is in
    let e = reads_none_lem image text accepted h in
    c.list_accepted.ensures.result_after (ap (λ (z : Sizes). z.inputs) c.sizes_of.ensures ∙ e) ∙ listing_end image text accepted e

pub returns-in-Err-clause-result_after : goal.returns-in-Err-clause-result_after
returns-in-Err-clause-result_after g c h =
    let first = c.begun.ensures in
    let drawn = sym c.check.ensures ∙ ap refusal_in c.in-Err.is in
    let e = c.print_refusal.ensures.result_after ∙ ap (with_last (refused_line _)) (blank_is _ c.begun.result first.0 first.1 first.3) in
    e ∙ listing_refused c.args.image.now c.args.text.now drawn

pub returns-in-Err-clause-listing : goal.returns-in-Err-clause-listing
returns-in-Err-clause-listing g c h =
    let first = c.begun.ensures in
    let drawn = sym c.check.ensures ∙ ap refusal_in c.in-Err.is in
    let e = c.print_refusal.ensures.result_after ∙ ap (with_last (refused_line _)) (blank_is _ c.begun.result first.0 first.1 first.3) in
    refused_only c.args.image.now c.args.text.now drawn e
