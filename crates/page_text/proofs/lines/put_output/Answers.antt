-- Six parts, one behind the other.
use Rattle.text.specs.Ascii.{space, newline}
use Rattle.text.proofs.Putting.{left_all, left_then, left_none}
use Rattle.page_text.proofs.LineParts.{column_parts_lem}
use Rattle.page_text.proofs.lines.put_output.Goals as goal

pub returns-clause-page_after : goal.returns-clause-page_after
returns-clause-page_after c =
    let p = c.args.column in
    let same = c.from-n.ensures in
    let count = rw same at c.digit_count.ensures in
    let before = c.put_blanks-p.ensures in
    let number = c.put_number-q.ensures in
    let blank = c.put_text-r.ensures in
    let signs = c.put_signs-s.ensures in
    let unused = c.put_blanks-t.ensures in
    let end = c.put_text.ensures in
    (left_none
    (left_then {xs = newline}
    (left_then
    (left_then
    (left_then {xs = space}
    (left_then (left_then (left_all (column_parts_lem c.args.net p.outputs p.output p.cycles p.bytes.now)) (rw count at before.page_after) (rw count at before.value)) (rw same at number.buffer_after) (rw same at number.value))
    blank.buffer_after
    blank.value)
    signs.page_after
    signs.value)
    unused.page_after
    unused.value)
    end.buffer_after
    end.value)).0
