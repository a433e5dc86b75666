-- The word with its number, and the end of the line.
use Rattle.text.specs.Ascii.{newline}
use Rattle.text.specs.Decimal.{numbered}
use Rattle.text.proofs.Putting.{Puts, whole, but, puts_none, puts_then, puts_room}
use Rattle.listing_text.specs.Lines.{end_word, end_line}
use Rattle.listing_text.proofs.lines.put_end.Goals as goal
use Rattle.listing_text.proofs.lines.put_end.Goals.{After-put_numbered-p}

after-word : (c : After-put_numbered-p) → Puts c.args.buffer.now c.args.at (numbered end_word c.args.cycles) c.put_numbered-p.new.buffer c.put_numbered-p.result
after-word c = puts_then (puts_none _ _) _ (c.put_numbered-p.ensures.buffer_after, c.put_numbered-p.ensures.value)

pub put_numbered-p-requires : goal.put_numbered-p-requires
unfolding end_line
put_numbered-p-requires c = puts_room (puts_none c.args.buffer.now c.args.at) (numbered end_word c.args.cycles) (but newline whole) c.requires

pub put_text-requires : goal.put_text-requires
unfolding end_line
put_text-requires c = puts_room (after-word (goal.at.put_text-requires c).After-put_numbered-p) newline whole c.requires

pub returns-clause-buffer_after : goal.returns-clause-buffer_after
unfolding end_line
returns-clause-buffer_after c =
    (puts_then (after-word (goal.at.returns-clause-buffer_after c).After-put_numbered-p) newline (c.put_text.ensures.buffer_after, c.put_text.ensures.value)).buffer

pub returns-clause-value : goal.returns-clause-value
unfolding end_line
returns-clause-value c =
    (puts_then (after-word (goal.at.returns-clause-value c).After-put_numbered-p) newline (c.put_text.ensures.buffer_after, c.put_text.ensures.value)).place
