-- The whole listing of an image and its input.
use Rattle.std.specs.Prelude.{ℕ, ◌+◌, ◌≤◌, ◌≡◌, List, [], ◌∷◌, ◌++◌, Bool, true, cond, eqb, ltb, length, replicate}
use Rattle.std.proofs.Math.Option.{none, some}
use Rattle.std.proofs.lemmas.List.Edits.{sets}
use Rattle.image.specs.Image.{sizes_of, nets_of}
use Rattle.refusals.specs.Refusals.{refusal}
use Rattle.checking.specs.Check.{check_refusal}
use Rattle.cycle.specs.State.{with_count}
use Rattle.cycle.specs.Calls.{done, refused, starts, run_of}
use Rattle.listing_text.specs.Lines.{cycle_line, end_line, refused_line}
use Rattle.listing_output.specs.Printed.{Printed, blank, with_last}
use Rattle.listing_rows.specs.Rows.{Listed, rows_of, with_rows, with_end}

-- where the rows begin: the state at power-up, a buffer for O output bytes, and nothing printed
abbrev pub at_power_up : (s text : List ℕ) → Listed
at_power_up s text = record { state = with_count (starts (nets_of s)); outputs = replicate (sizes_of s).outputs 0; printed = blank text }

-- whether no row is read: the image is refused, or I is 0
unfoldable pub reads_none : (s : List ℕ) → Bool
reads_none s =
    elim (check_refusal s) [
      | some r ↦ true
      | none ↦ eqb (sizes_of s).inputs 0
    ]

-- what is printed for an image s: the refusal that it draws; or with I = 0 end 0 only; or rows of I bytes of the input, one step each, and the end
unfoldable pub listing_of : (s input text : List ℕ) → Printed
listing_of s input text =
    elim (check_refusal s) [
      | some r ↦ with_last (refused_line r) (blank text)
      | none ↦ cond (eqb (sizes_of s).inputs 0)
          (with_last (end_line 0) (blank text))
          (with_end (with_rows s (sizes_of s).inputs (rows_of (sizes_of s).inputs input) (at_power_up s text))).printed
    ]

-- the same as one text. The lines of rows of i bytes each, one step each, from a state and a buffer of output bytes, the first being cycle n: a line for each, and end with the count of cycles behind them; or a refusal as the last line
unfoldable pub lines_of : (s : List ℕ) (i n : ℕ) (st outs : List ℕ) → List (List ℕ) → List ℕ
lines_of s i n st outs [] = end_line n
lines_of s i n st outs (row ∷ rows) =
    let ran = run_of s st 1 row outs in
    cond (ltb (length row) i) (refused_line (refusal 12 0))
    (elim ran.answer [
      | done first ↦ cycle_line n ran.outputs first.verdict ++ lines_of s i (n + 1) ran.state ran.outputs rows
      | refused r ↦ refused_line r
    ])

-- the listing of an image s and its input
unfoldable pub listing_text : (s input : List ℕ) → List ℕ
listing_text s input =
    elim (check_refusal s) [
      | some r ↦ refused_line r
      | none ↦ cond (eqb (sizes_of s).inputs 0)
          (end_line 0)
          (lines_of s (sizes_of s).inputs 0 (with_count (starts (nets_of s))) (replicate (sizes_of s).outputs 0) (rows_of (sizes_of s).inputs input))
    ]

-- what was printed is the listing of some input; where it fits into the text with the longest line to spare, so that nothing is written out before its end, the text begins with it
pub record Listing (s text : List ℕ) (after : Printed) : Type 0 where
  pub input : List ℕ
  pub is : after ≡ listing_of s input text
  pub fits : length (listing_text s input) + 8240 ≤ length text → after.text ≡ sets text 0 (listing_text s input)
