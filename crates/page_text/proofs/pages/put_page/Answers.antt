-- The heading is put, and then line after line.
use Rattle.std.proofs.Common.{arith}
use Rattle.text.proofs.Putting.{left_all, left_room, left_then}
use Rattle.page_text.proofs.LineParts.{heading_length}
use Rattle.page_text.proofs.PageParts.{page_parts, page_length, line_left, lines_put}
use Rattle.page_text.proofs.pages.put_page.Goals as goal

pub put_heading-p-requires : goal.put_heading-p-requires
put_heading-p-requires c = omega (arith, heading_length c.args.first)

pub loop-j-init : goal.loop-j-init
loop-j-init c =
    left_then (left_all (page_parts c.args.first c.args.n c.args.outs.now c.args.bytes.now)) c.put_heading-p.ensures.page_after c.put_heading-p.ensures.value

pub put_output-p-requires : goal.put_output-p-requires
put_output-p-requires c = left_room (line_left _ _ _ _ _ c.loop-j-test.true c.loop-j.invariant) (omega (arith, page_length c.args.first c.args.n c.args.outs.now c.args.bytes.now (λ i. omega (arith, c.type_inv.outs i)) c.requires.outs_len_bound.1))

pub loop-j-preserved : goal.loop-j-preserved
loop-j-preserved c =
    left_then (line_left _ _ _ _ _ c.loop-j-test.true c.loop-j.invariant) c.put_output-p.ensures.page_after c.put_output-p.ensures.value

pub returns-clause-page_after : goal.returns-clause-page_after
returns-clause-page_after c = (lines_put _ _ _ _ _ c.loop-j-test.false c.loop-j.invariant).0

pub returns-clause-value : goal.returns-clause-value
returns-clause-value c = omega (arith, (lines_put _ _ _ _ _ c.loop-j-test.false c.loop-j.invariant).1, page_length c.args.first c.args.n c.args.outs.now c.args.bytes.now (λ i. omega (arith, c.type_inv.outs i)) c.requires.outs_len_bound.1)
