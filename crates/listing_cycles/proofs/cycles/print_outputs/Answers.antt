-- The verdict is that of the output bytes.
use Rattle.std.proofs.Common.{arith}
use Rattle.listing_cycles.proofs.Lines.{outs_few, one_cycle}
use Rattle.listing_cycles.proofs.cycles.print_outputs.Goals as goal

pub print_cycle-requires : goal.print_cycle-requires
print_cycle-requires g c = let pre = c.requires in (pre.room.0, omega (arith, pre.outs, outs_few c.args.netlist.known.outs), pre.room.1)

pub returns-clause-grown : goal.returns-clause-grown
returns-clause-grown g c =
    let did = c.print_cycle.ensures in
    record { room = did.room; cycles = one_cycle _ _ _ did.result_after; failed = did.failed_value.1 }
