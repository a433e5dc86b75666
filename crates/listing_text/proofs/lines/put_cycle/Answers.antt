-- The cycle, the outputs and the verdict, one space between, and the end of the line.
use Rattle.std.proofs.Common.{◌++◌}
use Rattle.cycle.specs.Answers.{verdict_in}
use Rattle.text.specs.Ascii.{space, newline}
use Rattle.text.specs.Decimal.{decimal}
use Rattle.text.proofs.Putting.{Puts, whole, but, puts_none, puts_then, puts_room}
use Rattle.listing_text.specs.Lines.{output_digits, verdict_text, cycle_line}
use Rattle.listing_text.proofs.lines.put_cycle.Goals as goal
use Rattle.listing_text.proofs.lines.put_cycle.Goals.{After-put_verdict-t}

pub put_number-p-requires : goal.put_number-p-requires
unfolding cycle_line
put_number-p-requires c =
    puts_room
    (puts_none c.args.buffer.now c.args.at)
    (decimal c.args.cycle) (but space (but (output_digits c.args.outputs.now) (but space (but (verdict_text (verdict_in c.args.verdict)) (but newline whole))))) c.requires

pub put_text-q-requires : goal.put_text-q-requires
unfolding cycle_line
put_text-q-requires c =
    puts_room
    (puts_then (puts_none c.args.buffer.now c.args.at) (decimal c.args.cycle) (c.put_number-p.ensures.buffer_after, c.put_number-p.ensures.value))
    space (but (output_digits c.args.outputs.now) (but space (but (verdict_text (verdict_in c.args.verdict)) (but newline whole)))) c.requires

pub put_outputs-r-requires : goal.put_outputs-r-requires
unfolding cycle_line
put_outputs-r-requires c =
    puts_room
    (puts_then (puts_then (puts_none c.args.buffer.now c.args.at) (decimal c.args.cycle) (c.put_number-p.ensures.buffer_after, c.put_number-p.ensures.value)) space (c.put_text-q.ensures.buffer_after, c.put_text-q.ensures.value))
    (output_digits c.args.outputs.now) (but space (but (verdict_text (verdict_in c.args.verdict)) (but newline whole))) c.requires

pub put_text-s-requires : goal.put_text-s-requires
unfolding cycle_line
put_text-s-requires c =
    puts_room
    (puts_then (puts_then (puts_then (puts_none c.args.buffer.now c.args.at) (decimal c.args.cycle) (c.put_number-p.ensures.buffer_after, c.put_number-p.ensures.value)) space (c.put_text-q.ensures.buffer_after, c.put_text-q.ensures.value)) (output_digits c.args.outputs.now) (c.put_outputs-r.ensures.buffer_after, c.put_outputs-r.ensures.value))
    space (but (verdict_text (verdict_in c.args.verdict)) (but newline whole)) c.requires

pub put_verdict-t-requires : goal.put_verdict-t-requires
unfolding cycle_line
put_verdict-t-requires c =
    puts_room
    (puts_then (puts_then (puts_then (puts_then (puts_none c.args.buffer.now c.args.at) (decimal c.args.cycle) (c.put_number-p.ensures.buffer_after, c.put_number-p.ensures.value)) space (c.put_text-q.ensures.buffer_after, c.put_text-q.ensures.value)) (output_digits c.args.outputs.now) (c.put_outputs-r.ensures.buffer_after, c.put_outputs-r.ensures.value)) space (c.put_text-s.ensures.buffer_after, c.put_text-s.ensures.value))
    (verdict_text (verdict_in c.args.verdict)) (but newline whole) c.requires

-- all but the end of the line
after-verdict : (c : After-put_verdict-t)
    → Puts c.args.buffer.now c.args.at (decimal c.args.cycle ++ space ++ output_digits c.args.outputs.now ++ space ++ verdict_text (verdict_in c.args.verdict)) c.put_verdict-t.new.buffer c.put_verdict-t.result
after-verdict c =
    puts_then (puts_then (puts_then (puts_then (puts_then (puts_none c.args.buffer.now c.args.at) (decimal c.args.cycle) (c.put_number-p.ensures.buffer_after, c.put_number-p.ensures.value)) space (c.put_text-q.ensures.buffer_after, c.put_text-q.ensures.value)) (output_digits c.args.outputs.now) (c.put_outputs-r.ensures.buffer_after, c.put_outputs-r.ensures.value)) space (c.put_text-s.ensures.buffer_after, c.put_text-s.ensures.value)) (verdict_text (verdict_in c.args.verdict)) (c.put_verdict-t.ensures.buffer_after, c.put_verdict-t.ensures.value)

pub put_text-requires : goal.put_text-requires
unfolding cycle_line
put_text-requires c = puts_room (after-verdict (goal.at.put_text-requires c).After-put_verdict-t) newline whole c.requires

pub returns-clause-buffer_after : goal.returns-clause-buffer_after
unfolding cycle_line
returns-clause-buffer_after c =
    (puts_then (after-verdict (goal.at.returns-clause-buffer_after c).After-put_verdict-t) newline (c.put_text.ensures.buffer_after, c.put_text.ensures.value)).buffer

pub returns-clause-value : goal.returns-clause-value
unfolding cycle_line
returns-clause-value c =
    (puts_then (after-verdict (goal.at.returns-clause-value c).After-put_verdict-t) newline (c.put_text.ensures.buffer_after, c.put_text.ensures.value)).place
