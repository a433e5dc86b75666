-- The listing program: what it does with the rows that it reads, one step each.
use Rattle.std.specs.Prelude.{ℕ, zero, suc, List, [], ◌∷◌, cond, ltb, length, take, drop}
use Rattle.refusals.specs.Refusals.{refusal}
use Rattle.cycle.specs.Cycle.{FirstFlow}
use Rattle.cycle.specs.Calls.{Answer, done, refused, run_of}
use Rattle.listing_text.specs.Lines.{end_line, refused_line}
use Rattle.listing_output.specs.Printed.{Printed, with_cycle, with_last}

-- how far a listing has come: the state, the lent buffer of output bytes, and what is printed
pub record Listed : Type 0 where
  pub state : List ℕ
  pub outputs : List ℕ
  pub printed : Printed

-- the line for what a step answers: that of the cycle, or the refusal, which is the last line
unfoldable pub with_answer : (outputs : List ℕ) → Answer FirstFlow → Printed → Printed
with_answer outputs (done first) p = with_cycle outputs first.verdict p
with_answer outputs (refused r) p = with_last (refused_line r) p

-- a row: one step, as a run of one cycle since its output bytes are printed, and its line
unfoldable pub with_row : (s row : List ℕ) → Listed → Listed
with_row s row l =
    let ran = run_of s l.state 1 row l.outputs in
    record { state = ran.state; outputs = ran.outputs; printed = with_answer ran.outputs ran.answer l.printed }

-- a short last row is 12
abbrev pub with_short : Listed → Listed
with_short l = record { state = l.state; outputs = l.outputs; printed = with_last (refused_line (refusal 12 0)) l.printed }

-- bytes in rows of i bytes each, of which the last may be short; there are at most so many rows
unfoldable pub rows_up_to : (most i : ℕ) → List ℕ → List (List ℕ)
rows_up_to zero i bytes = []
rows_up_to (suc most) i [] = []
rows_up_to (suc most) i (b ∷ bytes) = take i (b ∷ bytes) ∷ rows_up_to most i (drop i (b ∷ bytes))

abbrev pub rows_of : (i : ℕ) → List ℕ → List (List ℕ)
rows_of i bytes = rows_up_to (length bytes) i bytes

-- rows of i bytes each, one after another; nothing follows a last line
unfoldable pub with_rows : (s : List ℕ) (i : ℕ) → List (List ℕ) → Listed → Listed
with_rows s i [] l = l
with_rows s i (row ∷ rows) l =
    cond l.printed.goes_on (with_rows s i rows (cond (ltb (length row) i) (with_short l) (with_row s row l))) l

-- at the end of the input: end and the count of cycles, unless a line is the last already
unfoldable pub with_end : Listed → Listed
with_end l =
    cond l.printed.goes_on
    (record { state = l.state; outputs = l.outputs; printed = with_last (end_line l.printed.cycles) l.printed })
    l
