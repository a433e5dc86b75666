-- The examples are what is printed, by computation.
use mathlib.Core.Path.{refl}
use Rattle.gates.specs.Rules.{value, mark, byte, and_mark, not_byte, and_byte, gate_byte}
use Rattle.image.specs.Image.{sizes_of, net_at, nets_from, nets_of, count}
use Rattle.image.specs.Pins.{pin_net}
use Rattle.image.specs.Places.{places_from}
use Rattle.image.specs.Examples.{counter, crossed, one_input, one_const}
use Rattle.refusals.specs.Refusals.{bad_byte, bad_length}
use Rattle.net_checking.specs.NetCheck.{net_refusal}
use Rattle.checking.specs.Check.{nets_refusal, check_refusal}
use Rattle.cycle.specs.Cycle.{pin_byte, net_byte, past, walk, bytes_of, verdict_from, outputs_from, registers, clocked, cycle_of, cycles_of, outputs_of}
use Rattle.cycle.specs.Calls.{start, starts}
use Rattle.row_runs.specs.Rows.{row_refusal, good_rows}
use Rattle.text.specs.Decimal.{digits_up_to, decimal}
use Rattle.listing_text.specs.Lines.{refused_line}
use Rattle.page_text.specs.Pages.{set_left, set_right, line, heading, sign, output_bytes, output_line, output_lines, page_text, pages_text, page_count}
use Rattle.page_turns.specs.PagesOf.{rows_taken, rows_refusal, cycle_pages, pages_from}
use Rattle.pages.specs.Printed.{pages_printed}
use Rattle.pages.specs.Examples.{Examples}

-- what is computed with
checking : Unit {0}
unfolding sizes_of net_at nets_from nets_of pin_net count places_from net_refusal nets_refusal check_refusal bad_byte bad_length
checking = tt

running : Unit {0}
unfolding value mark byte and_mark not_byte and_byte gate_byte pin_byte net_byte past walk bytes_of verdict_from outputs_from registers clocked cycle_of cycles_of outputs_of start starts row_refusal good_rows
running = tt

printing : Unit {0}
unfolding digits_up_to decimal refused_line set_left set_right line heading sign output_bytes output_line output_lines page_text pages_text page_count rows_taken rows_refusal cycle_pages pages_from pages_printed
printing = tt

images : Unit {0}
unfolding counter crossed one_input one_const
images = tt

pub examples : Examples
unfolding checking running printing images
examples =
    record {
      counter_page = refl;
      no_rows = refl;
      refused_image = refl;
      no_inputs = refl;
      two_pages = refl;
      two_outputs = refl;
      short_row = refl;
      bad_byte_lem = refl;
    }
