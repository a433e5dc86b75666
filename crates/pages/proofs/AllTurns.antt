-- All turns of the pages program: what they print together is what is printed for the whole input.
use Prim.Native.Nat.{ℕ, ◌+◌, ◌*◌, ◌/◌, ◌≤◌, ◌<◌}
use native.Mathlib.Nat.{zero-mul, add-mul, one-mul, le-div_iff_mul-le, div-lt_iff_lt-mul}
use native.Mathlib.Omega.{arith}
use mathlib.Core.Path.{◌≡◌, refl, sym, ap, ◌∙◌}
use mathlib.Core.Bool.{true, false}
use mathlib.Core.List.{List, [], ◌++◌}
use mathlib.Core.Option.{none, some}
use lib.ListN.{length, take, drop, length-append}
use lib.Seq.{length-take-le, drop_at}
use borrow.Author.Tests.{eqb-true, ne_eqb}
use Rattle.image.specs.Image.{sizes_of, nets_of}
use Rattle.refusals.specs.declared.answer.Refusal.{Refusal}
use Rattle.std.proofs.Common.{Result}
use Rattle.checking.specs.Check.{check_refusal}
use Rattle.checking.proofs.Checked.{check_none}
use Rattle.cycle.specs.Cycle.{plain, cycles_of, state_after}
use Rattle.cycle.specs.Answers.{powered_up}
use Rattle.cycle.specs.State.{state_length, with_count, registers_in}
use Rattle.cycle.specs.Calls.{starts, PoweredUp, power_up_of}
use Rattle.cycle.proofs.States.{registers_back, counted_state, state_none}
use Rattle.cycle.proofs.Calls.{starts_registers, powered_up_lem}
use Rattle.row_runs.specs.Rows.{good_rows}
use Rattle.row_runs.specs.Taking.{AcceptedState, cycles_on}
use Rattle.row_runs.proofs.GoodRows.{good_few}
use Rattle.row_runs.proofs.Parting.{good_split, cycles_split, state_append}
use Rattle.listing_text.specs.Lines.{refused_line}
use Rattle.page_text.specs.Pages.{pages_text}
use Rattle.page_turns.specs.declared.turns.Progress.{Progress}
use Rattle.page_turns.specs.PagesOf.{rows_taken, pages_from}
use Rattle.page_turns.specs.Turns.{Turn, turn_of, Asks, Turned}
use Rattle.page_turns.proofs.PageByPage.{good_append, cycles_append, pages_after}
use Rattle.pages.specs.Printed.{pages_printed, PagesPrinted}

-- WHAT IS PRINTED, by whether the image is accepted
pub printed_refused : (s : List ℕ) {r : Refusal} (input : List ℕ) → check_refusal s ≡ some r → pages_printed s input ≡ refused_line r
unfolding pages_printed
printed_refused s input h = rw (h, pages_printed)

pub printed_none : (s input : List ℕ) → check_refusal s ≡ none → (sizes_of s).inputs ≡ 0 → pages_printed s input ≡ []
unfolding pages_printed
printed_none s input h e = rw (h, pages_printed, e)

pub printed_rows : (s input : List ℕ) → check_refusal s ≡ none → 0 < (sizes_of s).inputs → pages_printed s input ≡ pages_from s (sizes_of s).inputs 0 input (starts (nets_of s))
unfolding pages_printed
printed_rows s input h pos = rw (h, pages_printed, ne_eqb (sizes_of s).inputs 0 (λ e. omega arith))

-- in one turn, or in none
pub at_once : (s text : List ℕ) (used : ℕ) → take used text ≡ pages_printed s [] → PagesPrinted s text used
unfolding pages_text
at_once s text used e =
    let z : 0 * 64 ≡ 0 = omega arith in
    record { turns = 0; earlier = []; last = []; full = rw z (sym (zero-mul (sizes_of s).inputs)); upto = omega arith; is = e }

-- SO FAR: n turns took 64 good rows each, and left the register bytes rs
pub record Sofar (s : List ℕ) (n cycles : ℕ) (rs : List ℕ) : Type 0 where
  pub earlier : List ℕ
  pub full : length earlier ≡ n * 64 * (sizes_of s).inputs
  pub good : good_rows (sizes_of s).inputs (n * 64) earlier ≡ n * 64
  pub registers : rs ≡ state_after (starts (nets_of s)) (cycles_on s (sizes_of s).inputs (n * 64) earlier (starts (nets_of s)))
  pub cycles_are : cycles ≡ n * 64

-- or to the end
pub record Came (s : List ℕ) (n : ℕ) (st text : List ℕ) (p : Progress) : Type 0 where
  pub going : p.open ≡ true → Sofar s n p.cycles (registers_in s st)
  pub ended : p.open ≡ false → PagesPrinted s text p.used

sofar_begins : (s : List ℕ) → Sofar s 0 0 (starts (nets_of s))
unfolding good_rows cycles_of state_after
sofar_begins s =
    let z : 0 * 64 ≡ 0 = omega arith in
    record { earlier = []; full = rw z (sym (zero-mul (sizes_of s).inputs)); good = refl; registers = refl; cycles_are = omega arith }

module _ {s : List ℕ} (accepted : check_refusal s ≡ none) (pos : 0 < (sizes_of s).inputs) {n : ℕ} {before after rows text : List ℕ} {p q : Progress}
    (f : Sofar s n p.cycles (registers_in s before)) (t : Turned s (sizes_of s).inputs before after rows text p q) (size : length rows ≡ 64 * (sizes_of s).inputs) where
  abbrev i : ℕ
  i = (sizes_of s).inputs

  abbrev begin : List ℕ
  begin = starts (nets_of s)

  abbrev piece : List ℕ
  piece = take q.read rows

  piece_size : length piece ≡ q.read
  piece_size = length-take-le q.read rows t.few

  -- the last turn
  turn_ends : PagesPrinted s text q.used
  unfolding turn_of
  turn_ends =
      let printed = ap (λ (x : Turn). x.text) t.is in
      let number : 0 + n * 64 ≡ p.cycles = omega (arith, f.cycles_are) in
      record {
        turns = n;
        earlier = f.earlier;
        last = piece;
        full = f.full;
        upto = omega (arith, piece_size, t.few, size);
        is =
            sym
            (printed_rows s (f.earlier ++ piece) accepted pos
            ∙ pages_after s i pos n 0 f.earlier piece begin f.full f.good
            ∙ rw (number, ← f.registers, printed));
      }

  -- another one follows
  module _ (h : q.open ≡ true) where
    taken : rows_taken i piece ≡ 64
    unfolding turn_of
    taken = eqb-true (rows_taken i piece) 64 (sym (ap (λ (x : Turn). x.goes_on) t.is) ∙ h)

    -- so it took 64 whole rows
    whole : length piece / i ≡ 64
    unfolding rows_taken
    whole =
        let few : length piece / i < 65 = (div-lt_iff_lt-mul pos).1 (omega (arith, piece_size, t.few, size, pos, add-mul 64 1 i, one-mul i)) in
        omega (arith, taken, good_few i (length piece / i) piece)

    all_good : good_rows i 64 piece ≡ 64
    unfolding rows_taken
    all_good = rw whole at taken

    all_bytes : length piece ≡ 64 * i
    all_bytes =
        let m : 64 * i ≤ length piece = (le-div_iff_mul-le pos).0 (omega (arith, whole)) in
        omega (arith, piece_size, t.few, size)

    rows_so_far : n * 64 * i ≤ length f.earlier
    rows_so_far = omega (arith, f.full)

    more : (n + 1) * 64 ≡ n * 64 + 64
    more = omega arith

    behind : drop (n * 64 * i) (f.earlier ++ piece) ≡ piece
    behind = drop_at f.earlier piece (n * 64 * i) f.full

    registers_are : registers_in s after ≡ state_after begin (cycles_on s i (n * 64 + 64) (f.earlier ++ piece) begin)
    unfolding turn_of
    registers_are =
        ap (λ (x : Turn). x.registers) t.is
        ∙ rw (taken, cycles_split plain (nets_of s) i (n * 64) 64 (f.earlier ++ piece) begin, state_append, cycles_append s i pos (n * 64) f.earlier piece begin rows_so_far, behind, ← f.registers)

    turn_goes_on : Sofar s (n + 1) q.cycles (registers_in s after)
    unfolding turn_of
    turn_goes_on =
        let first : good_rows i (n * 64) (f.earlier ++ piece) ≡ n * 64 = good_append s i pos (n * 64) f.earlier piece rows_so_far ∙ f.good in
        record {
          earlier = f.earlier ++ piece;
          full = omega (arith, length-append f.earlier piece, f.full, all_bytes, ap (λ k. k * i) more, add-mul (n * 64) 64 i);
          good = rw more ((good_split i (n * 64) 64 (f.earlier ++ piece) first).0 ∙ rw (behind, all_good));
          registers = rw more registers_are;
          cycles_are = omega (arith, ap (λ (x : Turn). x.cycles) t.is, taken, f.cycles_are);
        }

  pub came_on : Came s (n + 1) after text q
  came_on = record { going = turn_goes_on; ended = λ h. turn_ends }

pub came_begins : {s st text : List ℕ} (p : Progress) → registers_in s st ≡ starts (nets_of s) → p.cycles ≡ 0 → p.open ≡ true → Came s 0 st text p
came_begins {s} p e c o = record { going = λ h. rw (e, c) (sofar_begins s); ended = λ h. let z : ◌≡◌ {A = ℕ} 0 1 = cc (o, h) in absurd (omega arith) }

-- IN THE LOOP: what the next turn asks, and how far the turns came
pub record Holds (s : List ℕ) (i : ℕ) (outs st outputs text : List ℕ) (n : ℕ) (p : Progress) : Type 0 where
  pub asks : Asks s i outs st outputs text
  pub came : Came s n st text p

pub holds_on : {s : List ℕ} {i : ℕ} {outs before outputs text : List ℕ} {n : ℕ} {p : Progress} {after outputs' rows text' : List ℕ} {q : Progress}
    → Holds s i outs before outputs text n p → p.open ≡ true → Turned s i before after rows text' p q
    → length rows ≡ 64 * i → length outputs' ≡ length outputs → length text' ≡ length text → Holds s i outs after outputs' text' (n + 1) q
holds_on {s} h going t rows outputs text =
    let a = h.asks in
    let e = a.inputs in
    record {
      asks =
          record {
            accepted = a.accepted;
            inputs = e;
            some = a.some;
            listed = a.listed;
            state = t.accepts;
            output_bytes = omega (arith, a.output_bytes, outputs);
            room = omega (arith, a.room, text);
          };
      came = came_on a.accepted (rw e at a.some) (h.came.going going) (rw e at t) (rw e at rows);
    }

-- power-up leaves a state that a run accepts, and the starts in its registers
pub powered : (s before : List ℕ) {after : List ℕ} (o : Result (Unit {0}) Refusal) → check_refusal s ≡ none → length before ≡ state_length (sizes_of s) → powered_up o after ≡ power_up_of s before
    → AcceptedState s after × (registers_in s after ≡ starts (nets_of s))
powered s before {after} o accepted size e =
    let image = (check_none s).0 accepted in
    let r = starts_registers image in
    let is : after ≡ with_count (starts (nets_of s)) = ap (λ (x : PoweredUp). x.state) (e ∙ powered_up_lem s before image size) in
    rw is ((state_none s _).1 (counted_state r), registers_back r)
