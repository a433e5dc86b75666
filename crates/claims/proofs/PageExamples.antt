-- The examples of pages hold by computation.
use mathlib.Core.Path.{refl}
use Rattle.gates.specs.Rules.{value, mark}
use Rattle.image.specs.Places.{places_from}
use Rattle.image.specs.Examples.{counter, crossed, one_input}
use Rattle.text.specs.Decimal.{digits_up_to, decimal}
use Rattle.page_text.specs.Pages.{set_left, set_right, line, heading, sign, output_bytes, output_line, output_lines, page_text, pages_text, page_count, pages_length}
use Rattle.paging.specs.Paging.{pages_of, page_refusal, page_of}
use Rattle.claims.specs.PageExamples.{PageExamples}
use Rattle.claims.proofs.Examples.{checking}

pub page_examples : PageExamples
unfolding checking value mark places_from counter crossed one_input digits_up_to decimal set_left set_right line heading sign output_bytes output_line output_lines page_text pages_text page_count pages_length pages_of page_refusal page_of
page_examples = record { counter_page = refl; two_outputs = refl; two_pages = refl; no_outputs = refl; no_cycles = refl; bad_byte_lem = refl }
