-- A - where there is no output, and else the digits.
use Rattle.std.proofs.Common.{sym}
use Rattle.std.proofs.Math.ListN.{length-map}
use Rattle.listing_text.proofs.Outputs.{no_outputs, some_outputs}
use Rattle.listing_text.proofs.pieces.put_outputs.Goals as goal

pub put_text-requires : goal.put_text-requires
put_text-requires c = rw (no_outputs _ (sym c.if-is_empty.ensures)) at c.requires

pub put_digits-requires : goal.put_digits-requires
put_digits-requires c = rw (some_outputs _ (sym c.if-is_empty.ensures), length-map) at c.requires

pub returns-then-is_empty-clause-buffer_after : goal.returns-then-is_empty-clause-buffer_after
returns-then-is_empty-clause-buffer_after c = rw (no_outputs _ (sym c.if-is_empty.ensures)) c.put_text.ensures.buffer_after

pub returns-then-is_empty-clause-value : goal.returns-then-is_empty-clause-value
returns-then-is_empty-clause-value c = rw (no_outputs _ (sym c.if-is_empty.ensures)) c.put_text.ensures.value

pub returns-else-is_empty-clause-buffer_after : goal.returns-else-is_empty-clause-buffer_after
returns-else-is_empty-clause-buffer_after c = rw (some_outputs _ (sym c.if-is_empty.ensures)) c.put_digits.ensures.buffer_after

pub returns-else-is_empty-clause-value : goal.returns-else-is_empty-clause-value
returns-else-is_empty-clause-value c = rw (some_outputs _ (sym c.if-is_empty.ensures), length-map) c.put_digits.ensures.value
