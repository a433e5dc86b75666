-- The line of a refusal has room.
use Rattle.std.proofs.Common.{rules, arith}
use Rattle.page_turns.proofs.TextParts.{refusal_put, one_put}
use Rattle.pages.proofs.printing.print_refused.Goals as goal

pub shared_ref_as_front-write_text : goal.shared_ref_as_front-write_text
shared_ref_as_front-write_text g c = omega (arith, (refusal_put c.args.text.now 0 c.args.refusal (search rules) c.refused_line-used.ensures).1.1)

pub returns : goal.returns
returns g c =
    let put = refusal_put c.args.text.now 0 c.args.refusal (search rules) c.refused_line-used.ensures in
    one_put c.args.text.now _ put.0 put.1.0 put.1.1
