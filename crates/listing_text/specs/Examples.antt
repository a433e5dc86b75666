-- Lines of the listing, as the text that a reader sees.
use Rattle.std.specs.Prelude.{◌≡◌, [], ◌∷◌}
use Rattle.refusals.specs.Refusals.{refusal}
use Rattle.cycle.specs.Cycle.{clear, flow}
use Rattle.text.specs.Ascii.{ascii}
use Rattle.listing_text.specs.Lines.{cycle_line, end_line, refused_line}

-- proved as `line_examples`
pub record LineExamples : Type 0 where
  -- the text of these examples is read as ASCII bytes
  pub bytes : ascii "refused 5 3\n" ≡ 114 ∷ 101 ∷ 102 ∷ 117 ∷ 115 ∷ 101 ∷ 100 ∷ 32 ∷ 53 ∷ 32 ∷ 51 ∷ 10 ∷ []
  -- cycle 9 is clear, and its four outputs have the bytes 0, 1, 2 and 3
  pub clear_line : cycle_line 9 (0 ∷ 1 ∷ 2 ∷ 3 ∷ []) clear ≡ ascii "9 0123 clear\n"
  -- cycle 0 has a flow at net 5, and its two outputs have the bytes 3 and 0
  pub flow_line : cycle_line 0 (3 ∷ 0 ∷ []) (flow 5) ≡ ascii "0 30 flow 5\n"
  -- cycle 10 of a netlist without outputs is clear
  pub no_outputs : cycle_line 10 [] clear ≡ ascii "10 - clear\n"
  -- the listing ends after 120 cycles
  pub end_line_lem : end_line 120 ≡ ascii "end 120\n"
  -- the largest number that can be printed has 20 digits
  pub longest_number : end_line 18446744073709551615 ≡ ascii "end 18446744073709551615\n"
  -- the number of a refusal comes first, and then its place
  pub refused_line_lem : refused_line (refusal 5 3) ≡ ascii "refused 5 3\n"
