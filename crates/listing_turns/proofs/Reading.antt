-- One turn of reading and taking: the end of the input, what a read leads to, and what is left.
use Prim.Native.Nat.{ℕ, zero, suc, ◌+◌, ◌*◌, ◌/◌, ◌≤◌, ◌<◌}
use native.Mathlib.Nat.{min-le_right, div-mul-le_self}
use native.Mathlib.Omega.{arith}
use mathlib.Core.Path.{◌≡◌, refl, sym, ap, ◌∙◌}
use mathlib.Core.Bool.{true, false}
use mathlib.Core.List.{List, ◌++◌}
use lib.ListN.{length, take, drop, length-take, length-drop}
use lib.Seq.{length-take-le, take-take, take-add}
use borrow.Author.Tests.{ne_eqb}
use Rattle.refusals.specs.Refusals.{refusal}
use Rattle.input.specs.Rest.{whole_of, rest_of}
use Rattle.listing_text.specs.Lines.{end_line, refused_line}
use Rattle.listing_output.specs.declared.output.Progress.{Progress}
use Rattle.listing_output.specs.Printed.{Printed, printed, with_last, Room, Grown}
use Rattle.listing_output.proofs.Printing.{last_leaves}
use Rattle.listing_rows.specs.Rows.{Listed, with_short, rows_of}
use Rattle.listing_rows.specs.Taken.{Held, held, Holds, Taken, Leaves}
use Rattle.listing_rows.proofs.Taking.{rows_none, rows_short, end_open, end_closed, taken_to}
use Rattle.listing_turns.specs.Reading.{last_line, Ended, Took, Turned}

-- THE END of the input, with an unfinished row of n bytes or none
abbrev last : (st : List ℕ) (p : Printed) (n : ℕ) → Held
last st p n = record { state = st; printed = with_last (last_line n p.cycles) p }

short_line : (n cycles : ℕ) → last_line (suc n) cycles ≡ refused_line (refusal 12 0)
unfolding last_line
short_line n cycles = rw (ne_eqb (suc n) 0 (λ e. omega arith))

pub unfinished_line : (have cycles : ℕ) → 0 < have → last_line have cycles ≡ refused_line (refusal 12 0)
unfinished_line zero cycles h = absurd (omega arith)
unfinished_line (suc n) cycles h = short_line n cycles

pub finished_line : (have cycles : ℕ) → have ≡ 0 → last_line have cycles ≡ end_line cycles
unfolding last_line
finished_line have cycles e = rw e

pub last_as : (p : Printed) {line line' : List ℕ} {q : Printed} → line' ≡ line → q ≡ with_last line p → q ≡ with_last line' p
last_as p e h = h ∙ rw e

-- what a last line leaves
pub last_grown : (line before : List ℕ) {text : List ℕ} (p q : Progress) → Room before p → length text ≡ length before → printed text q ≡ with_last line (printed before p)
    → q.written ≡ 0 → (p.failed ≡ true → q.failed ≡ true) → Grown text 0 p q × (q.written ≡ q.used)
last_grown line before p q room size e nothing failed =
    let l = last_leaves line before p q e in (
      record {
        room = record { written = omega (arith, nothing); used = omega (arith, l.0); longest = omega (arith, size, room.longest) };
        cycles = omega (arith, l.1);
        failed = failed;
      },
      nothing ∙ sym l.0,
    )

short_closes : (l : Listed) → (with_short l).printed.goes_on ≡ false
unfolding with_last
short_closes l = refl

module _ {s : List ℕ} {i : ℕ} (pos : 0 < i) (bytes : List ℕ) {st : List ℕ} {p : Printed} (going : p.goes_on ≡ true) where
  open_now : {l : Listed} → Holds s (record { state = st; printed = p }) l → l.printed.goes_on ≡ true
  open_now h = ap (λ (q : Printed). q.goes_on) h.printed ∙ going

  none_unfinished : length bytes ≡ 0 → Ended s i bytes (record { state = st; printed = p }) (last st p 0)
  unfolding last_line
  none_unfinished e =
      record {
        leads = λ l h.
            rw (rows_none s i bytes l e, end_open l (open_now h))
            (record { state = h.state; printed = rw h.printed; outputs = h.outputs });
      }

  one_unfinished : (n : ℕ) → length bytes ≡ suc n → suc n < i → Ended s i bytes (record { state = st; printed = p }) (last st p (suc n))
  one_unfinished n e short =
      record {
        leads = λ l h.
            rw (rows_short s i pos bytes l (open_now h) (omega arith) (omega arith), end_closed (with_short l) (short_closes l))
            (record { state = h.state; printed = rw (h.printed, short_line n p.cycles); outputs = h.outputs });
      }

  pub end_taken : length bytes < i → Ended s i bytes (record { state = st; printed = p }) (last st p (length bytes))
  end_taken short = by (length bytes) refl short
    where
      by : (n : ℕ) → length bytes ≡ n → n < i → Ended s i bytes (record { state = st; printed = p }) (last st p n)
      by zero e l = none_unfinished e
      by (suc n) e l = one_unfinished n e l

-- WHAT A READ LEADS TO: none of the bytes was read, and those that are there are an unfinished row; or some were
pub took_end : {s st : List ℕ} {i read : ℕ} (there : ℕ) (rows : List ℕ) {p q : Printed} → 0 < i → there ≤ length rows → there < i → p.goes_on ≡ true → read ≡ 0
    → q ≡ with_last (last_line there p.cycles) p → Took s i (take there rows) read (record { state = st; printed = p }) (record { state = st; printed = q })
took_end there rows pos within short going nothing e =
    let size : length (take there rows) ≡ there = length-take-le there rows within in
    record {
      rows = λ h. absurd (omega arith);
      end = λ h.
          let t = end_taken pos (take there rows) going (omega arith) in
          record { leads = λ l k. let u = t.leads l k in record { state = u.state; printed = u.printed ∙ rw (size, e); outputs = u.outputs } };
    }

pub whole_is : (i there : ℕ) (rows : List ℕ) → there ≤ length rows → whole_of i (take there rows) ≡ take (there / i * i) rows
whole_is i there rows h = rw (length-take-le there rows h) (take-take (there / i * i) there rows (div-mul-le_self there i))

pub took_rows : {s : List ℕ} {i read : ℕ} (there : ℕ) (rows : List ℕ) {before : Held} {st text : List ℕ} (q r : Progress) → there ≤ length rows → (read ≡ 0 → ⊥)
    → Taken s i (rows_of i (take (there / i * i) rows)) before (held st text q) → printed text r ≡ printed text q → Took s i (take there rows) read before (held st text r)
took_rows {i = i} there rows q r within some t e =
    record { rows = λ h. rw (whole_is i there rows within) (taken_to t refl e); end = λ h. absurd (some h) }

pub part_few : (n : ℕ) (bytes : List ℕ) → length (take n bytes) ≤ length bytes
part_few n bytes = rw length-take (min-le_right n (length bytes))

-- a turn: what was read stands behind what was there
pub turned : {s : List ℕ} {i : ℕ} (have bytes : ℕ) (rows₀ rows₁ : List ℕ) {left : List ℕ} {before after : Held} → have + bytes ≤ length rows₁ → take have rows₁ ≡ take have rows₀
    → Took s i (take (have + bytes) rows₁) bytes before after → left ≡ rest_of i (take (have + bytes) rows₁) → Turned s i (take have rows₀) left before after
turned have bytes rows₀ rows₁ within same took keeps =
    let piece = take bytes (drop have rows₁) in
    let size : length piece ≡ bytes = length-take-le bytes (drop have rows₁) (omega (arith, length-drop have rows₁)) in
    let there : take (have + bytes) rows₁ ≡ take have rows₀ ++ piece = take-add have bytes rows₁ ∙ rw same in
    record { piece = piece; took = rw (← there, size) took; keeps = rw (← there) keeps }

-- what is written out leaves the same
pub written_leaves : {s st text : List ℕ} {k n : ℕ} {p q : Progress} (r : Progress) → k ≤ n → Leaves s st text k p q → printed text r ≡ printed text q → r.written ≡ r.used
    → (q.failed ≡ true → r.failed ≡ true) → Leaves s st text n p r
written_leaves r h l e w failed =
    record {
      state = l.state;
      room = record { written = omega (arith, w); used = omega (arith, ap (λ (x : Printed). x.used) e, l.room.used); longest = l.room.longest };
      cycles = omega (arith, ap (λ (x : Printed). x.cycles) e, l.cycles);
      failed = λ f. failed (l.failed f);
    }
