-- The front of the buffer, the text and the rest are what `sets` leaves.
use Rattle.std.proofs.Common.{◌≡◌, ◌+◌, ◌-◌, length, arith, append_assoc}
use Rattle.std.proofs.lemmas.List.Edits.{sets-eq}
use lib.Seq.{drop-drop}
use Rattle.text.proofs.texts.put_text.Goals as goal

pub returns-clause-buffer_after : goal.returns-clause-buffer_after
returns-clause-buffer_after c =
    let e : c.args.at + length c.args.text.now - c.args.at ≡ length c.args.text.now = omega arith in
    rw (sets-eq c.args.text.now c.args.buffer.now c.args.at c.requires, append_assoc, c.copy_from_slice.ensures.after, drop-drop, e)
