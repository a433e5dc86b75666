-- The bytes of one output stand as many places apart as there are outputs.
use Rattle.std.proofs.Common.{sym}
use Rattle.page_text.proofs.Signs.{output_at}
use Rattle.page_text.proofs.columns.Column.byte.Goals as goal

pub returns : goal.returns
returns c = sym (output_at _ _ _ _ _ c.requires)
