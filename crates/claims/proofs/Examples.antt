-- Document 01's examples C1 to C12, a run of two rows, and a step with inverted pins, hold by computation.
use mathlib.Core.Path.{refl}
use Rattle.gates.specs.Rules.{value, mark, byte, and_mark, or_mark, xor_mark, mux_mark, not_byte, and_byte, or_byte, xor_byte, mux_byte, gate_byte}
use Rattle.image.specs.Image.{sizes_of, net_at, nets_from, nets_of, count, encode}
use Rattle.image.specs.Pins.{pin_net}
use Rattle.image.specs.Examples.{counter, crossed}
use Rattle.refusals.specs.Refusals.{bad_byte, bad_length}
use Rattle.net_checking.specs.NetCheck.{net_refusal}
use Rattle.checking.specs.Check.{nets_refusal, check_refusal}
use Rattle.cycle.specs.Cycle.{pin_byte, net_byte, past, walk, bytes_of, verdict_from, outputs_from, registers, clocked, cycle_of, cycles_of, outputs_of, state_after, first_of, first_flow}
use Rattle.cycle.specs.State.{marked_count, with_count, miscounted}
use Rattle.cycle.specs.Calls.{start, starts, state_refusal, power_up_refusal, power_up_of, as_step, step_refusal, step_of, as_run, counting, run_refusal, run_of}
use Rattle.claims.specs.Examples.{counted, two_rows, inverted_pins, inverted_step, Examples}

-- what is computed with
unfoldable pub gating : Unit {0}
unfolding value mark byte and_mark or_mark xor_mark mux_mark not_byte and_byte or_byte xor_byte mux_byte gate_byte
gating = tt

unfoldable pub checking : Unit {0}
unfolding sizes_of net_at nets_from nets_of pin_net count net_refusal nets_refusal check_refusal bad_byte bad_length marked_count with_count miscounted state_refusal power_up_refusal step_refusal run_refusal
checking = tt

unfoldable pub running : Unit {0}
unfolding pin_byte net_byte past walk bytes_of verdict_from outputs_from registers clocked cycle_of cycles_of outputs_of state_after first_of first_flow start starts power_up_of as_step step_of as_run counting run_of
running = tt

pub examples : Examples
unfolding gating checking running counter counted crossed two_rows encode inverted_pins inverted_step
examples =
    record {
      c1 = refl;
      c2 = refl;
      c3 = refl;
      c4 = refl;
      c5 = refl;
      c6 = refl;
      c7 = refl;
      c8 = refl;
      c9 = refl;
      c10 = refl;
      c11 = refl;
      c12 = refl;
      c12_flow = refl;
      two_rows_lem = refl;
      inverted = refl;
    }
