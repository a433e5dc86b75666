-- The word with its number, the place, and the end of the line.
use Rattle.std.proofs.Common.{◌++◌}
use Rattle.text.specs.Ascii.{space, newline}
use Rattle.text.specs.Decimal.{decimal, numbered}
use Rattle.text.proofs.Putting.{Puts, whole, but, puts_none, puts_then, puts_room}
use Rattle.listing_text.specs.Lines.{refused_word, refused_line}
use Rattle.listing_text.proofs.lines.put_refused.Goals as goal
use Rattle.listing_text.proofs.lines.put_refused.Goals.{After-put_numbered-q}

after-place : (c : After-put_numbered-q)
    → Puts c.args.buffer.now c.args.at (numbered refused_word c.args.refusal.number ++ (space ++ decimal c.args.refusal.place)) c.put_numbered-q.new.buffer c.put_numbered-q.result
after-place c =
    puts_then (puts_then (puts_none _ _) (numbered refused_word c.args.refusal.number) (c.put_numbered-p.ensures.buffer_after, c.put_numbered-p.ensures.value)) _
    (c.put_numbered-q.ensures.buffer_after, c.put_numbered-q.ensures.value)

pub put_numbered-p-requires : goal.put_numbered-p-requires
unfolding refused_line
put_numbered-p-requires c =
    puts_room (puts_none c.args.buffer.now c.args.at) (numbered refused_word c.args.refusal.number) (but (space ++ decimal c.args.refusal.place) (but newline whole)) c.requires

pub put_numbered-q-requires : goal.put_numbered-q-requires
unfolding refused_line
put_numbered-q-requires c =
    puts_room (puts_then (puts_none _ _) (numbered refused_word c.args.refusal.number) (c.put_numbered-p.ensures.buffer_after, c.put_numbered-p.ensures.value)) (space ++ decimal c.args.refusal.place) (but newline whole) c.requires

pub put_text-requires : goal.put_text-requires
unfolding refused_line
put_text-requires c = puts_room (after-place (goal.at.put_text-requires c).After-put_numbered-q) newline whole c.requires

pub returns-clause-buffer_after : goal.returns-clause-buffer_after
unfolding refused_line
returns-clause-buffer_after c =
    (puts_then (after-place (goal.at.returns-clause-buffer_after c).After-put_numbered-q) newline (c.put_text.ensures.buffer_after, c.put_text.ensures.value)).buffer

pub returns-clause-value : goal.returns-clause-value
unfolding refused_line
returns-clause-value c =
    (puts_then (after-place (goal.at.returns-clause-value c).After-put_numbered-q) newline (c.put_text.ensures.buffer_after, c.put_text.ensures.value)).place
