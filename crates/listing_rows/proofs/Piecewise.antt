-- Whole rows that are taken piece by piece: those before the ones that are left are taken.
use Prim.Native.Nat.{ℕ, ◌+◌, ◌-◌, ◌*◌, ◌/◌, ◌≤◌, ◌<◌, min}
use native.Mathlib.Nat.{zero-mul, add-mul, mul-le-mul_right, le_of_mul-le-mul_right, div-mul-le_self, le-div_iff_mul-le}
use native.Mathlib.Omega.{arith}
use mathlib.Core.Path.{◌≡◌, refl, sym, ap, ◌∙◌}
use mathlib.Core.Bool.{Bool, true, false}
use mathlib.Core.List.{List, ◌++◌}
use lib.Dec.{leb}
use lib.ListN.{length, take, drop, take-append-drop, length-append}
use lib.Seq.{length-take-le, take_all, take-add, take_at, drop_at, drop-drop}
use borrow.Author.Tests.{leb-true, leb-false}
use Rattle.row_runs.specs.Taking.{AcceptedState}
use Rattle.listing_output.specs.declared.output.Progress.{Progress}
use Rattle.listing_output.specs.Printed.{Room}
use Rattle.listing_rows.specs.Rows.{rows_up_to, rows_of}
use Rattle.listing_rows.specs.Taken.{Held, Taken, Whole, Leaves}
use Rattle.listing_rows.proofs.Taking.{rows_append, taken_none, taken_then, taken_closed}

-- whole rows are as many as their bytes are divided by
pub whole_counted : {i : ℕ} {bytes : List ℕ} → 0 < i → Whole i bytes → length bytes / i * i ≡ length bytes
whole_counted {i} {bytes} pos w =
    let most : w.rows ≤ length bytes / i = (le-div_iff_mul-le pos).1 (omega (arith, w.is)) in
    omega (arith, mul-le-mul_right i most, div-mul-le_self (length bytes) i, w.is)

-- a piece of at most so many rows: the front of whole rows
pub record Piece (i most : ℕ) (left piece later : List ℕ) : Type 0 where
  pub is : left ≡ piece ++ later
  pub size : length piece ≡ min (most * i) (length left)

module _ {i most : ℕ} {left piece later : List ℕ} (pos : 0 < i) (p : Piece i most left piece later) where
  pub piece_whole : Whole i left → Whole i piece
  piece_whole w = by (leb (most * i) (length left)) refl
    where
      by : (b : Bool) → leb (most * i) (length left) ≡ b → Whole i piece
      by true t = let l = leb-true (most * i) (length left) t in record { rows = most; is = omega (arith, p.size) }
      by false t = let l = leb-false (most * i) (length left) t in record { rows = w.rows; is = omega (arith, p.size, w.is) }

  pub piece_few : length piece / i ≤ most
  piece_few = le_of_mul-le-mul_right {k = i} (omega (arith, div-mul-le_self (length piece) i, p.size)) pos

-- the rows before those that are left are taken
pub record Partly (s : List ℕ) (i : ℕ) (rows : List ℕ) (before after : Held) (failed : Bool) (left : List ℕ) : Type 0 where
  pub done : ℕ
  pub upto : done * i + length left ≡ length rows
  pub is : left ≡ drop (done * i) rows
  pub taken : failed ≡ false → Taken s i (rows_of i (take (done * i) rows)) before after

pub partly_begins : {s : List ℕ} {i : ℕ} {rows : List ℕ} {h : Held} {failed : Bool} {left : List ℕ} → left ≡ rows → Partly s i rows h h failed left
unfolding rows_up_to
partly_begins {i = i} e = record { done = 0; upto = omega (arith, zero-mul i, ap length e); is = rw (zero-mul i) e; taken = λ n. rw (zero-mul i) taken_none }

module _ {s : List ℕ} {i : ℕ} {rows : List ℕ} {before after : Held} {failed : Bool} {left : List ℕ} (p : Partly s i rows before after failed left) (pos : 0 < i) where
  -- those that are left are whole
  pub partly_whole : Whole i rows → Whole i left
  partly_whole w =
      let before : p.done ≤ w.rows = le_of_mul-le-mul_right {k = i} (omega (arith, p.upto, w.is)) pos in
      let all : p.done + (w.rows - p.done) ≡ w.rows = omega arith in
      record { rows = w.rows - p.done; is = omega (arith, p.upto, w.is, ap (λ n. n * i) all, add-mul p.done (w.rows - p.done) i) }

  size : length (take (p.done * i) rows) ≡ p.done * i
  size = length-take-le (p.done * i) rows (omega (arith, p.upto))

  -- a piece more
  pub partly_goes_on : {most : ℕ} {piece later : List ℕ} {then : Held} {f : Bool} → Piece i most left piece later → Whole i left → failed ≡ false
      → Taken s i (rows_of i piece) after then → Partly s i rows before then f later
  partly_goes_on {piece = piece} {later = later} q w ok t =
      let k = length piece / i in
      let counted = whole_counted pos (piece_whole pos q w) in
      let long : length left ≡ length piece + length later = ap length q.is ∙ length-append piece later in
      let first : take (k * i) left ≡ piece = rw q.is (take_at piece later (k * i) (sym counted)) in
      let others : drop (k * i) left ≡ later = rw q.is (drop_at piece later (k * i) (sym counted)) in
      let sum : (p.done + k) * i ≡ p.done * i + k * i = add-mul p.done k i in
      record {
        done = p.done + k;
        upto = omega (arith, sum, counted, long, p.upto);
        is = rw (sum, ← drop-drop (k * i) (p.done * i) rows, ← p.is) (sym others);
        taken = λ n. rw (sum, take-add (p.done * i) (k * i) rows, ← p.is, first, rows_append p.done i (take (p.done * i) rows) piece pos size) (taken_then (p.taken ok) t);
      }

  -- all rows are taken where none is left, or where the listing is closed
  pub partly_all : length left ≡ 0 → failed ≡ false → Taken s i (rows_of i rows) before after
  partly_all none ok = rw (take_all (p.done * i) rows (omega (arith, p.upto))) at (p.taken ok)

  pub partly_closed : after.printed.goes_on ≡ false → failed ≡ false → Taken s i (rows_of i rows) before after
  partly_closed e ok =
      let split : rows_of i rows ≡ rows_of i (take (p.done * i) rows) ++ rows_of i (drop (p.done * i) rows) =
      ap (rows_of i) (sym (take-append-drop (p.done * i) rows)) ∙ rows_append p.done i (take (p.done * i) rows) (drop (p.done * i) rows) pos size in
      rw split (taken_closed (rows_of i (drop (p.done * i) rows)) e (p.taken ok))

-- what several runs leave
pub leaves_begin : {s st text : List ℕ} {n : ℕ} {p : Progress} → AcceptedState s st → Room text p → Leaves s st text n p p
leaves_begin a r = record { state = a; room = r; cycles = omega arith; failed = λ f. f }

pub leaves_then : {s st text st' text' : List ℕ} {from k n : ℕ} {p q r : Progress} → from + k ≤ n → Leaves s st text from p q → Leaves s st' text' k q r → Leaves s st' text' n p r
leaves_then h a b =
    record { state = b.state; room = b.room; cycles = omega (arith, a.cycles, b.cycles); failed = λ f. b.failed (a.failed f) }
