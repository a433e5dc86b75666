-- What the pages program prints for an image and its input, and how the turns print it.
use Rattle.std.specs.Prelude.{ℕ, ◌*◌, ◌≤◌, ◌≡◌, List, [], ◌++◌, cond, eqb, length, take}
use Rattle.std.proofs.Math.Option.{none, some}
use Rattle.image.specs.Image.{sizes_of, nets_of}
use Rattle.checking.specs.Check.{check_refusal}
use Rattle.cycle.specs.Cycle.{outputs_of}
use Rattle.cycle.specs.Calls.{starts}
use Rattle.row_runs.specs.Taking.{cycles_on}
use Rattle.listing_text.specs.Lines.{refused_line}
use Rattle.page_text.specs.Pages.{outs_of, pages_text}
use Rattle.page_turns.specs.PagesOf.{pages_from}

-- the refusal that an image s draws; nothing with I = 0; or from power-up the pages of the rows of I bytes before the first that is short or has a byte above 3, and the refusal of that one
unfoldable pub pages_printed : (s input : List ℕ) → List ℕ
pages_printed s input =
    elim (check_refusal s) [
      | some r ↦ refused_line r
      | none ↦ cond (eqb (sizes_of s).inputs 0)
          []
          (pages_from s (sizes_of s).inputs 0 input (starts (nets_of s)))
    ]

-- the pages of the first turns, each of 64 cycles
abbrev pub full_pages : (s : List ℕ) (turns : ℕ) (input : List ℕ) → List ℕ
full_pages s turns input =
    pages_text turns 0 (turns * 64) (outs_of s) (outputs_of (cycles_on s (sizes_of s).inputs (turns * 64) input (starts (nets_of s))))

-- some input was printed: earlier turns took 64 rows each and printed a page each, and of the text, which the last turn left, so many bytes are what was printed after these pages
pub record PagesPrinted (s text : List ℕ) (used : ℕ) : Type 0 where
  pub turns : ℕ
  pub earlier : List ℕ
  pub last : List ℕ
  pub full : length earlier ≡ turns * 64 * (sizes_of s).inputs
  pub upto : length last ≤ 64 * (sizes_of s).inputs
  pub is : full_pages s turns earlier ++ take used text ≡ pages_printed s (earlier ++ last)
