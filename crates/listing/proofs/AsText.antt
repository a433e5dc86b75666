-- The listing as one text: where it fits behind what is there, its lines stand one behind the other.
use Prim.Native.Nat.{ℕ, ◌+◌, ◌≤◌}
use native.Mathlib.Omega.{arith}
use mathlib.Core.Path.{◌≡◌, refl, ap, ◌∙◌}
use mathlib.Core.Bool.{Bool, true, false}
use mathlib.Core.List.{List, [], ◌∷◌, ◌++◌}
use lib.Dec.{ltb}
use lib.ListN.{length, length-append}
use lib.Seq.{sets, length-sets}
use Rattle.refusals.specs.Refusals.{refusal}
use Rattle.refusals.specs.declared.answer.Refusal.{Refusal}
use Rattle.cycle.specs.Cycle.{FirstFlow}
use Rattle.cycle.specs.Calls.{Answer, done, refused, run_of}
use Rattle.text.proofs.Putting.{sets_append}
use Rattle.listing_text.specs.Lines.{cycle_line, end_line, refused_line}
use Rattle.listing_output.specs.Printed.{with_cycle, with_last}
use Rattle.listing_output.proofs.Printing.{next_behind}
use Rattle.listing_rows.specs.Rows.{Listed, with_answer, with_row, with_short, with_rows, with_end}
use Rattle.listing_rows.proofs.Taking.{rows_closed, end_closed}
use Rattle.listing.specs.Listing.{lines_of}

-- a listing that goes on
abbrev going_on : (st outs text : List ℕ) (used n : ℕ) → Listed
going_on st outs text used n = record { state = st; outputs = outs; printed = record { text = text; used = used; cycles = n; goes_on = true } }

-- a last line, where it fits
pub last_there : (line text : List ℕ) (used n : ℕ) → used + length line + 8240 ≤ length text
    → (with_last line (record { text = text; used = used; cycles = n; goes_on = true })).text ≡ sets text used line
unfolding with_last
last_there line text used n h = rw (next_behind (length text) used (omega arith))

module _ (s : List ℕ) (i : ℕ) where
  -- nothing follows a listing that is closed
  closed_there : (rows : List (List ℕ)) (l : Listed) → l.printed.goes_on ≡ false → (with_end (with_rows s i rows l)).printed.text ≡ l.printed.text
  closed_there rows l h = rw (rows_closed s i rows l h) (ap (λ (x : Listed). x.printed.text) (end_closed l h))

  -- a row of which the text has room for the lines
  module _ (row : List ℕ) (rows : List (List ℕ)) (st outs text : List ℕ) (used n : ℕ) where
    abbrev there : Type 0
    there = (with_end (with_rows s i (row ∷ rows) (going_on st outs text used n))).printed.text ≡ sets text used (lines_of s i n st outs (row ∷ rows))

    short_there : ltb (length row) i ≡ true → used + length (lines_of s i n st outs (row ∷ rows)) + 8240 ≤ length text → there
    unfolding with_rows lines_of with_last
    short_there t h =
        let k : used + length (refused_line (refusal 12 0)) + 8240 ≤ length text = rw t at h in
        rw t (closed_there rows (with_short (going_on st outs text used n)) refl ∙ last_there (refused_line (refusal 12 0)) text used n k)

    refused_there : (r : Refusal) → ltb (length row) i ≡ false → (run_of s st 1 row outs).answer ≡ refused r
        → used + length (lines_of s i n st outs (row ∷ rows)) + 8240 ≤ length text → there
    unfolding with_rows lines_of with_row with_answer with_last
    refused_there r t e h =
        let k : used + length (refused_line r) + 8240 ≤ length text = rw (t, e) at h in
        rw (t, e) (closed_there rows _ refl ∙ last_there (refused_line r) text used n k)

    cycle_there : (f : FirstFlow) → ltb (length row) i ≡ false → (run_of s st 1 row outs).answer ≡ done f
        → used + length (lines_of s i n st outs (row ∷ rows)) + 8240 ≤ length text
        → ((st outs text : List ℕ) (used n : ℕ) → used + length (lines_of s i n st outs rows) + 8240 ≤ length text
        → (with_end (with_rows s i rows (going_on st outs text used n))).printed.text ≡ sets text used (lines_of s i n st outs rows))
        → there
    unfolding with_rows lines_of with_row with_answer with_cycle
    cycle_there f t e h ih =
        let ran = run_of s st 1 row outs in
        let line = cycle_line n ran.outputs f.verdict in
        let rest = lines_of s i (n + 1) ran.state ran.outputs rows in
        let k : used + length (line ++ rest) + 8240 ≤ length text = rw (t, e) at h in
        let next = ih ran.state ran.outputs (sets text used line) (used + length line) (n + 1) (omega (arith, k, length-append line rest, length-sets text used line)) in
        rw (t, e, next_behind (length text) used (omega arith)) (next ∙ sets_append text used line rest)

  pub lines_text : (rows : List (List ℕ)) (st outs text : List ℕ) (used n : ℕ) → used + length (lines_of s i n st outs rows) + 8240 ≤ length text
      → (with_end (with_rows s i rows (going_on st outs text used n))).printed.text ≡ sets text used (lines_of s i n st outs rows)
  unfolding with_rows with_end lines_of
  lines_text [] st outs text used n h = last_there (end_line n) text used n h
  lines_text (row ∷ rows) st outs text used n h = by (ltb (length row) i) (run_of s st 1 row outs).answer refl refl (lines_text rows)
    where
      by : (b : Bool) (a : Answer FirstFlow) → ltb (length row) i ≡ b → (run_of s st 1 row outs).answer ≡ a
          → ((st outs text : List ℕ) (used n : ℕ) → used + length (lines_of s i n st outs rows) + 8240 ≤ length text
          → (with_end (with_rows s i rows (going_on st outs text used n))).printed.text ≡ sets text used (lines_of s i n st outs rows))
          → there row rows st outs text used n
      by true a t e ih = short_there row rows st outs text used n t h
      by false (done f) t e ih = cycle_there row rows st outs text used n f t e h ih
      by false (refused r) t e ih = refused_there row rows st outs text used n r t e h
