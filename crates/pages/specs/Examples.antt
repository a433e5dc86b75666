-- What is printed, as the text that a reader sees: document 01's counter, and images that are refused, have no outputs or have no inputs.
use Rattle.std.specs.Prelude.{◌≡◌, [], ◌∷◌, ◌++◌, replicate}
use Rattle.image.specs.Examples.{counter, crossed, one_input, one_const}
use Rattle.text.specs.Ascii.{ascii}
use Rattle.pages.specs.Printed.{pages_printed}

-- proved as `examples`
pub record Examples : Type 0 where
  -- the counter with rows 2, 0, 1, 0, whose output bytes are 0, 3, 2, 0
  pub counter_page : pages_printed counter (2 ∷ 0 ∷ 1 ∷ 0 ∷ [])
      ≡ ascii "cycle 0                                                               \n"
      ++ ascii "    5 0hl0                                                            \n"
  -- with no row there is no page
  pub no_rows : pages_printed counter [] ≡ []
  -- an image of 0 bytes is refused, and no row is taken
  pub refused_image : pages_printed [] (2 ∷ 0 ∷ []) ≡ ascii "refused 1 0\n"
  -- with I = 0 nothing is printed, though the input has two bytes
  pub no_inputs : pages_printed one_const (1 ∷ 2 ∷ []) ≡ []
  -- 65 cycles of a netlist without outputs: the second page has the number of its first cycle
  pub two_pages : pages_printed one_input (replicate 65 1)
      ≡ ascii "cycle 0                                                               \n"
      ++ ascii "cycle 64                                                              \n"
  -- two cycles of two outputs: a line has one output in all cycles
  pub two_outputs : pages_printed crossed (1 ∷ 2 ∷ 3 ∷ 0 ∷ [])
      ≡ ascii "cycle 0                                                               \n"
      ++ ascii "    2 l0                                                              \n"
      ++ ascii "    3 1h                                                              \n"
  -- the second row is short, with one byte for two inputs: the first is on the page, and 12 is the last line
  pub short_row : pages_printed crossed (1 ∷ 2 ∷ 0 ∷ [])
      ≡ ascii "cycle 0                                                               \n"
      ++ ascii "    2 l                                                               \n"
      ++ ascii "    3 1                                                               \n"
      ++ ascii "refused 12 0\n"
  -- the second of three rows has a 4 at its place 1: the first is on the page, and 13 with that place is the last line
  pub bad_byte_lem : pages_printed crossed (1 ∷ 2 ∷ 3 ∷ 4 ∷ 0 ∷ 0 ∷ [])
      ≡ ascii "cycle 0                                                               \n"
      ++ ascii "    2 l                                                               \n"
      ++ ascii "    3 1                                                               \n"
      ++ ascii "refused 13 1\n"
