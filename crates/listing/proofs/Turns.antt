-- All turns of a listing: what they took together.
use Prim.Native.Nat.{ℕ, zero, suc, ◌+◌, ◌*◌, ◌/◌, ◌<◌}
use native.Mathlib.Nat.{zero-mul, add-mul, div-mul-le_self}
use native.Mathlib.Omega.{arith}
use mathlib.Core.Path.{◌≡◌, refl, sym, ap, ◌∙◌}
use mathlib.Core.Bool.{Bool, true, false}
use mathlib.Core.List.{List, [], ◌++◌, append_assoc}
use mathlib.Core.Option.{none}
use lib.ListN.{length, length-append, take-append-drop, replicate, length-replicate}
use lib.Seq.{length-take-le}
use Rattle.image.specs.Image.{sizes_of}
use Rattle.checking.specs.Check.{check_refusal}
use Rattle.checking.proofs.Checked.{check_none}
use Rattle.cycle.specs.State.{state_length}
use Rattle.cycle.specs.Calls.{PoweredUp, power_up_of}
use Rattle.cycle.proofs.States.{counted_state, state_none}
use Rattle.cycle.proofs.Calls.{starts_registers, powered_up_lem}
use Rattle.input.specs.Rest.{whole_of, rest_of}
use Rattle.row_runs.specs.Taking.{AcceptedState}
use Rattle.listing_output.specs.declared.output.Progress.{Progress}
use Rattle.listing_output.specs.Printed.{Printed, blank, with_last}
use Rattle.listing_rows.specs.Rows.{Listed, rows_up_to, rows_of, with_rows, with_end}
use Rattle.listing_rows.specs.Taken.{Held, held, Taken, Whole}
use Rattle.listing_rows.proofs.Taking.{rows_append, rows_closed, with_append, end_open, end_closed, taken_none, taken_then}
use Rattle.listing_turns.specs.Reading.{Ended, Turned, Lists}

-- THE END closes a listing
end_closes : (l : Listed) → (with_end l).printed.goes_on ≡ false
unfolding with_last
end_closes l = by l.printed.goes_on refl
  where
    by : (o : Bool) → l.printed.goes_on ≡ o → (with_end l).printed.goes_on ≡ false
    by true e = ap (λ (m : Listed). m.printed.goes_on) (end_open l e)
    by false e = ap (λ (m : Listed). m.printed.goes_on) (end_closed l e) ∙ e

ended_closed : {s : List ℕ} {i : ℕ} {before after : Held} → Lists s i before after → after.printed.goes_on ≡ false
ended_closed {s} {i} {before} e =
    let l : Listed = record { state = before.state; outputs = replicate (sizes_of s).outputs 0; printed = before.printed } in
    let h = e.ended.leads l (record { state = refl; printed = refl; outputs = length-replicate (sizes_of s).outputs 0 }) in
    sym (ap (λ (p : Printed). p.goes_on) h.printed) ∙ end_closes _

-- where the turns begin
pub held_blank : {st st' : List ℕ} (text : List ℕ) (p : Progress) → st ≡ st' → p.cycles ≡ 0 → p.used ≡ 0 → p.open ≡ true
    → held st text p ≡ record { state = st'; printed = blank text }
held_blank text p e n u o = cc

pub powered_state : (s st : List ℕ) → check_refusal s ≡ none → length st ≡ state_length (sizes_of s) → AcceptedState s (power_up_of s st).state
powered_state s st accepted size =
    let image = (check_none s).0 accepted in
    rw (ap (λ (x : PoweredUp). x.state) (powered_up_lem s st image size)) ((state_none s _).1 (counted_state (starts_registers image)))

pub lists_from : {s : List ℕ} {i : ℕ} {a b c : Held} → a ≡ b → Lists s i a c → Lists s i b c
lists_from e t = rw (← e) t

-- TURNS: of the input that was read, whole rows are taken, and the rest is an unfinished row
pub record Turns (s : List ℕ) (i : ℕ) (before after : Held) (rest : List ℕ) : Type 0 where
  pub input : List ℕ
  pub rows : List ℕ
  pub parts : input ≡ rows ++ rest
  pub whole : Whole i rows
  pub taken : Taken s i (rows_of i rows) before after

-- so far, or to the end of the input
pub data Came (s : List ℕ) (i : ℕ) (before after : Held) (rest : List ℕ) : Type 0 where
  so_far : Turns s i before after rest → Came s i before after rest
  at_end : Lists s i before after → Came s i before after rest

pub came_begins : {s : List ℕ} {i : ℕ} {h : Held} → Came s i h h []
unfolding rows_up_to
came_begins {i = i} = so_far (record { input = []; rows = []; parts = refl; whole = record { rows = 0; is = sym (zero-mul i) }; taken = taken_none })

module _ {s : List ℕ} {i : ℕ} {before after : Held} {rest : List ℕ} (pos : 0 < i) (t : Turns s i before after rest) where
  -- the rows so far, then others
  rows_more : (bytes : List ℕ) → rows_of i (t.rows ++ bytes) ≡ rows_of i t.rows ++ rows_of i bytes
  rows_more bytes = rows_append t.whole.rows i t.rows bytes pos t.whole.is

  -- one more turn
  turn_goes_on : (piece : List ℕ) {later : Held} → Taken s i (rows_of i (whole_of i (rest ++ piece))) after later → Turns s i before later (rest_of i (rest ++ piece))
  turn_goes_on piece taken =
      let there = rest ++ piece in
      let n = length there / i in
      let size : length (whole_of i there) ≡ n * i = length-take-le (n * i) there (div-mul-le_self (length there) i) in
      record {
        input = t.input ++ piece;
        rows = t.rows ++ whole_of i there;
        parts = rw (t.parts, append_assoc, append_assoc, take-append-drop);
        whole = record { rows = t.whole.rows + n; is = length-append t.rows (whole_of i there) ∙ rw (t.whole.is, size) (sym (add-mul t.whole.rows n i)) };
        taken = rw (rows_more (whole_of i there)) (taken_then t.taken taken);
      }

  turn_ends : (piece : List ℕ) {later : Held} → Ended s i (rest ++ piece) after later → Lists s i before later
  turn_ends piece e =
      record {
        input = t.input ++ piece;
        ended = record { leads = λ l h. rw (t.parts, append_assoc, rows_more (rest ++ piece), with_append) (e.leads _ (t.taken.leads l h)) };
      }

  turn_closed : after.printed.goes_on ≡ false → Lists s i before after
  turn_closed closed =
      record {
        input = t.input;
        ended = record {
          leads = λ l h.
              let u = t.taken.leads l h in
              let n : (with_rows s i (rows_of i t.rows) l).printed.goes_on ≡ false = ap (λ (p : Printed). p.goes_on) u.printed ∙ closed in
              rw (t.parts, rows_more rest, with_append, rows_closed s i (rows_of i rest) (with_rows s i (rows_of i t.rows) l) n, end_closed (with_rows s i (rows_of i t.rows) l) n) u;
        };
      }

module _ {s : List ℕ} {i : ℕ} {before after : Held} {rest : List ℕ} (pos : 0 < i) where
  pub came_on : {left : List ℕ} {later : Held} → Came s i before after rest → after.printed.goes_on ≡ true → Turned s i rest left after later → Came s i before later left
  came_on (at_end e) going t = let z : ◌≡◌ {A = ℕ} 0 1 = cc (going, ended_closed e) in absurd (omega arith)
  came_on {left} {later} (so_far so) going t = by (length t.piece) refl
    where
      by : (n : ℕ) → length t.piece ≡ n → Came s i before later left
      by zero e = at_end (turn_ends pos so t.piece (t.took.end e))
      by (suc n) e = so_far (rw t.keeps (turn_goes_on pos so t.piece (t.took.rows (omega (arith, e)))))

  pub came_ends : Came s i before after rest → after.printed.goes_on ≡ false → Lists s i before after
  came_ends (at_end e) closed = e
  came_ends (so_far t) closed = turn_closed pos t closed
