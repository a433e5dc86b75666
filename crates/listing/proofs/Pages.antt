-- The pages are what is listed, by computation.
use mathlib.Core.Path.{refl}
use Rattle.gates.specs.Rules.{value, mark, byte, and_mark, not_byte, and_byte, gate_byte}
use Rattle.image.specs.Image.{sizes_of, net_at, nets_from, nets_of, count}
use Rattle.image.specs.Pins.{pin_net}
use Rattle.image.specs.Examples.{counter, crossed, one_input, one_const}
use Rattle.refusals.specs.Refusals.{bad_byte, bad_length}
use Rattle.net_checking.specs.NetCheck.{net_refusal}
use Rattle.checking.specs.Check.{nets_refusal, check_refusal}
use Rattle.cycle.specs.Cycle.{pin_byte, net_byte, past, walk, bytes_of, verdict_from, outputs_from, registers, clocked, cycle_of, cycles_of, outputs_of, state_after, first_of, first_flow}
use Rattle.cycle.specs.State.{marked_count, with_count, miscounted}
use Rattle.cycle.specs.Calls.{start, starts, state_refusal, as_run, counting, run_refusal, run_of}
use Rattle.text.specs.Decimal.{digits_up_to, decimal}
use Rattle.listing_text.specs.Lines.{output_digits, cycle_line, end_line, refused_line}
use Rattle.listing_rows.specs.Rows.{rows_up_to}
use Rattle.listing.specs.Listing.{lines_of, listing_text}
use Rattle.listing.specs.Pages.{bad_net, delay, Pages}

-- what is computed with
checking : Unit {0}
unfolding sizes_of net_at nets_from nets_of pin_net count net_refusal nets_refusal check_refusal bad_byte bad_length miscounted state_refusal run_refusal
checking = tt

running : Unit {0}
unfolding value mark byte and_mark not_byte and_byte gate_byte pin_byte net_byte past walk bytes_of verdict_from outputs_from registers clocked cycle_of cycles_of outputs_of state_after first_of first_flow start starts marked_count with_count as_run counting run_of
running = tt

listing : Unit {0}
unfolding digits_up_to decimal output_digits cycle_line end_line refused_line rows_up_to lines_of listing_text
listing = tt

images : Unit {0}
unfolding counter bad_net one_input one_const crossed delay
images = tt

pub pages : Pages
unfolding checking running listing images
pages =
    record {
      counter_page = refl;
      delay_page = refl;
      no_rows = refl;
      refused_image = refl;
      refused_net = refl;
      no_outputs = refl;
      no_inputs = refl;
      short_row = refl;
      bad_byte_lem = refl;
    }
