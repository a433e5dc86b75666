-- One more line is printed, and at the end none is left.
use Rattle.std.proofs.Common.{arith, sym, ◌∙◌}
use Rattle.listing_output.specs.Printed.{printed}
use Rattle.listing_cycles.proofs.Lines.{cycle_lines, lines_done}
use Rattle.listing_cycles.proofs.cycles.print_cycles.Goals as goal

pub loop-c-preserved : goal.loop-c-preserved
loop-c-preserved g c =
    let inv = c.loop-c.invariant in
    let did = c.print_outputs-p.ensures in
    record {
      grown = record { room = did.grown.room; cycles = omega (arith, did.grown.cycles, inv.grown.cycles); failed = λ h. did.grown.failed (inv.grown.failed h) };
      left = rw did.result_after (cycle_lines _ _ _ _ _ (printed c.loop-c.text c.loop-c.p) c.loop-c-test.true ∙ inv.left);
    }

pub returns-clause-result_after : goal.returns-clause-result_after
returns-clause-result_after g c = sym (lines_done _ _ _ _ _ _ c.loop-c-test.false) ∙ c.loop-c.invariant.left
