-- Listings as the text that a reader sees: document 01's page of the counter, and pages of listings that are refused, have no outputs or have no inputs.
use Rattle.std.specs.Prelude.{ℕ, ◌≡◌, List, [], ◌∷◌, ◌++◌}
use Rattle.image.specs.Examples.{counter, crossed, one_input, one_const}
use Rattle.text.specs.Ascii.{ascii}
use Rattle.listing.specs.Listing.{listing_text}

-- 0 CONST 0; 1 CONST 0; 2 CONST 0; 3 NOT 3, whose pin is not below its net
unfoldable pub bad_net : List ℕ
bad_net =
    (4 ∷ 0 ∷ 0 ∷ 0 ∷ 0 ∷ 0 ∷ 0 ∷ 0 ∷ [])
    ++ (0 ∷ 0 ∷ 0 ∷ 3 ∷ [])
    ++ (0 ∷ 0 ∷ 0 ∷ 0 ∷ 0 ∷ 0 ∷ [])
    ++ (0 ∷ 0 ∷ 0 ∷ 0 ∷ 0 ∷ 0 ∷ [])
    ++ (0 ∷ 0 ∷ 0 ∷ 0 ∷ 0 ∷ 0 ∷ [])
    ++ (3 ∷ 0 ∷ 0 ∷ 0 ∷ 0 ∷ 0 ∷ [])

-- 0 INPUT; 1 REG(0, start 1); 2 OUT 1, protected
unfoldable pub delay : List ℕ
delay =
    (3 ∷ 0 ∷ 1 ∷ 0 ∷ 1 ∷ 0 ∷ 1 ∷ 0 ∷ [])
    ++ (1 ∷ 2 ∷ 8 ∷ [])
    ++ (0 ∷ 0 ∷ 0 ∷ 0 ∷ 0 ∷ 0 ∷ [])
    ++ (0 ∷ 0 ∷ 1 ∷ 0 ∷ 0 ∷ 0 ∷ [])
    ++ (1 ∷ 0 ∷ 1 ∷ 0 ∷ 0 ∷ 0 ∷ [])

-- proved as `pages`
pub record Pages : Type 0 where
  -- document 01's example: the counter, with rows 2, 0, 1, 0
  pub counter_page : listing_text counter (2 ∷ 0 ∷ 1 ∷ 0 ∷ []) ≡ ascii "0 0 clear\n1 3 flow 5\n2 2 flow 5\n3 0 clear\nend 4\n"
  -- a register begins with its start, and a protected OUT that is 1 and unmarked is clear
  pub delay_page : listing_text delay (2 ∷ 1 ∷ []) ≡ ascii "0 1 clear\n1 2 flow 2\nend 2\n"
  -- with no row there is no cycle
  pub no_rows : listing_text delay [] ≡ ascii "end 0\n"
  -- an image of 0 bytes is refused, and no row is taken
  pub refused_image : listing_text [] (2 ∷ 0 ∷ []) ≡ ascii "refused 1 0\n"
  -- an image with a bad net 3 is refused: the number comes first, and then the net
  pub refused_net : listing_text bad_net (2 ∷ 0 ∷ []) ≡ ascii "refused 5 3\n"
  -- with O = 0 each line has a - for the outputs
  pub no_outputs : listing_text one_input (1 ∷ 2 ∷ []) ≡ ascii "0 - clear\n1 - clear\nend 2\n"
  -- with I = 0 the end is printed and nothing else, though the input has two bytes
  pub no_inputs : listing_text one_const (1 ∷ 2 ∷ []) ≡ ascii "end 0\n"
  -- the second row is short, with one byte for two inputs: the first has its line, and 12 is the last one
  pub short_row : listing_text crossed (1 ∷ 2 ∷ 0 ∷ []) ≡ ascii "0 21 clear\nrefused 12 0\n"
  -- the second of three rows has a 4 at its place 1: the first has its line, and 13 with that place is the last one
  pub bad_byte_lem : listing_text crossed (1 ∷ 2 ∷ 3 ∷ 4 ∷ 0 ∷ 0 ∷ []) ≡ ascii "0 21 clear\nrefused 13 1\n"
