-- Four parts, one behind the other.
use Rattle.text.specs.Ascii.{ascii, newline}
use Rattle.text.proofs.Putting.{left_all, left_then, left_none}
use Rattle.page_text.proofs.LineParts.{heading_parts_lem}
use Rattle.page_text.proofs.lines.put_heading.Goals as goal

pub returns-clause-page_after : goal.returns-clause-page_after
returns-clause-page_after c =
    let word = c.put_text-p.ensures in
    let number = c.put_number-q.ensures in
    let count = c.digit_count.ensures in
    let blank = c.put_blanks-r.ensures in
    let end = c.put_text.ensures in
    (left_none
    (left_then {xs = newline}
    (left_then
    (left_then
    (left_then {xs = ascii "cycle "} (left_all (heading_parts_lem c.args.first)) word.buffer_after word.value)
    number.buffer_after
    number.value)
    (rw count at blank.page_after)
    (rw count at blank.value))
    end.buffer_after
    end.value)).0
