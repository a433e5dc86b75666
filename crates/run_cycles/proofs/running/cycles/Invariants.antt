-- `run_cycles::running::cycles`: at cycle c, what is left of the run gives the whole answer, the last state and all outputs.
use Rattle.std.proofs.Common.{◌*◌, ◌-◌}
use Rattle.image.specs.Image.{sizes_of}
use Rattle.cycle.specs.Answers.{first_flow_in}
use Rattle.cycle.proofs.Runs.{Running}
use Rattle.settling.specs.Settling.{Prepared}
use Rattle.run_cycles.specs.Taking.{rules_by}
use Rattle.run_cycles.proofs.Cycling.{IsCodeBy}
use Rattle.run_cycles.proofs.running.cycles.Given as goal

abbrev pub invariant-loop-c : goal.invariant-loop-c
invariant-loop-c l =
    record {
      running : Running (rules_by l.width) (IsCodeBy l.width) l.image l.k l.rows l.fn.state l.c (l.k - l.c) l.state l.outputs (first_flow_in l.first)
          (l.c * (sizes_of l.image).inputs) (l.c * (sizes_of l.image).outputs);
      prepared : Prepared l.width l.image l.nets (sizes_of l.image).nets;
    }
