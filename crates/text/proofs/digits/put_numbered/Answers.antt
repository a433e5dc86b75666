-- Three texts, one behind the other.
use Rattle.text.specs.Ascii.{space}
use Rattle.text.proofs.Putting.{puts_none, puts_then}
use Rattle.text.proofs.digits.put_numbered.Goals as goal

pub returns-clause-buffer_after : goal.returns-clause-buffer_after
returns-clause-buffer_after c =
    let first = c.put_text-p.ensures in
    let second = c.put_text-q.ensures in
    let third = c.put_number.ensures in
    (puts_then
    (puts_then (puts_then (puts_none c.args.buffer.now c.args.at) c.args.word.now (first.buffer_after, first.value)) space (second.buffer_after, second.value))
    _
    (third.buffer_after, third.value)).buffer
