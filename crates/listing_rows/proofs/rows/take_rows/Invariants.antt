-- The rows before those that are left are taken.
use Rattle.std.proofs.Common.{◌≡◌, ◌-◌, ◌*◌, length}
use Rattle.listing_rows.specs.Taken.{held, Leaves}
use Rattle.listing_rows.proofs.Piecewise.{Partly}
use Rattle.listing_rows.proofs.rows.take_rows.Given as goal

abbrev pub invariant-loop-piece : goal.invariant-loop-piece
invariant-loop-piece g l =
    record {
      size : l.piece-iterator.size ≡ l.most * l.inputs;
      leaves : Leaves l.image l.state l.text (length l.rows - length l.piece-iterator.rest.now) l.fn.begin l.p;
      partly : Partly l.image l.inputs l.rows (held l.initial.state l.initial.text l.fn.begin) (held l.state l.text l.p) l.p.failed l.piece-iterator.rest.now;
    }
