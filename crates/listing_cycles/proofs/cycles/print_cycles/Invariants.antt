-- At cycle c, the lines that are left, behind those that are printed, give the whole.
use Rattle.std.proofs.Common.{◌≡◌, ◌-◌, ◌*◌, length, drop}
use Rattle.listing_output.specs.Printed.{printed, Grown}
use Rattle.listing_cycles.specs.ByOutputs.{with_lines}
use Rattle.listing_cycles.proofs.cycles.print_cycles.Given as goal

abbrev pub invariant-loop-c : goal.invariant-loop-c
invariant-loop-c g l = record {
  grown : Grown l.text l.c l.initial.p l.p;
  left : with_lines l.netlist.image.now l.netlist.outs.now (l.k - l.c) (drop (l.c * length l.netlist.outs.now) l.outputs) (printed l.text l.p)
      ≡ with_lines l.netlist.image.now l.netlist.outs.now l.k l.outputs (printed l.initial.text l.initial.p);
}
