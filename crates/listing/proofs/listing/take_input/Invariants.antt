-- Each turn takes what one read gave, at most 65,536 bytes with the unfinished row.
use Rattle.std.proofs.Common.{◌≡◌, ◌*◌, ◌≤◌, ◌<◌, false, take}
use Rattle.row_runs.specs.Taking.{AcceptedState}
use Rattle.listing_output.specs.Printed.{Room}
use Rattle.listing_rows.specs.Taken.{held}
use Rattle.listing.proofs.Turns.{Came}
use Rattle.listing.proofs.listing.take_input.Given as goal

abbrev pub invariant-loop-read : goal.invariant-loop-read
invariant-loop-read g l =
    record {
      state : AcceptedState l.image l.state;
      room : Room l.text l.p;
      cycles : l.p.cycles ≤ 65536 * l._read;
      have : l.have < l.inputs;
      written : l.p.failed ≡ false → l.p.written ≡ l.p.used;
      came : l.p.failed ≡ false → Came l.image l.inputs (held l.initial.state l.initial.text l.initial.p) (held l.state l.text l.p) (take l.have l.rows);
    }
