-- The examples of lines hold, by computation.
use mathlib.Core.Path.{refl}
use Rattle.text.specs.Decimal.{digits_up_to, decimal}
use Rattle.listing_text.specs.Lines.{output_digits, cycle_line, end_line, refused_line}
use Rattle.listing_text.specs.Examples.{LineExamples}

pub line_examples : LineExamples
unfolding digits_up_to decimal output_digits cycle_line end_line refused_line
line_examples =
    record {
      bytes = refl;
      clear_line = refl;
      flow_line = refl;
      no_outputs = refl;
      end_line_lem = refl;
      longest_number = refl;
      refused_line_lem = refl;
    }
