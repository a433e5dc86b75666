-- At cycle c the signs of the cycles before it stand.
use Rattle.text.proofs.Putting.{Putting}
use Rattle.page_text.specs.Pages.{sign}
use Rattle.page_text.specs.Columns.{column_bytes}
use Rattle.page_text.proofs.pieces.put_signs.Given as goal

abbrev pub invariant-loop-c : goal.invariant-loop-c
invariant-loop-c l = Putting sign (column_bytes l.column) l.initial.page l.at l.page l.c
