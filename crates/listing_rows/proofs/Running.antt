-- A run of rows is those rows one by one: its cycles are theirs, the lines by its output bytes are their lines, and the first bad one draws its refusal.
use Prim.Native.Nat.{ℕ, zero, suc, ◌*◌, ◌≤◌, ◌<◌}
use native.Mathlib.Nat.{one-mul, suc-mul, zero-mul}
use native.Mathlib.Omega.{arith}
use mathlib.Core.Path.{◌≡◌, refl, sym, ap, ◌∙◌}
use mathlib.Core.Bool.{true, false}
use mathlib.Core.List.{List, [], ◌∷◌, append-nil}
use mathlib.Core.Option.{Option, none, some}
use lib.Dec.{lit≤}
use lib.ListN.{length, take, drop, length-drop}
use lib.Seq.{length-take-le, take_all, take_at, drop_at}
use Rattle.gates.specs.Kinds.{OUT}
use Rattle.image.specs.Image.{sizes_of, nets_of}
use Rattle.image.specs.Places.{places_from}
use Rattle.refusals.specs.declared.answer.Refusal.{Refusal}
use Rattle.refusals.proofs.Refusals.{byte_none}
use Rattle.checking.proofs.Checked.{Checked, check_none}
use Rattle.cycle.specs.Cycle.{plain, Verdict, clear, flow, Cycle, cycle_of, cycles_of, outputs_of, state_after, first_of, first_flow}
use Rattle.cycle.specs.State.{with_count, registers_in}
use Rattle.cycle.specs.Calls.{done, as_run, counting, run_of}
use Rattle.cycle.proofs.Cycles.{outputs_length}
use Rattle.cycle.proofs.Selections.{selection_length}
use Rattle.cycle.proofs.States.{IsRegisters, IsState, registers_back, counted_state, state_none}
use Rattle.cycle.proofs.Calls.{Ready, cycle_registers}
use Rattle.row_runs.specs.Rows.{bad_in, row_refusal, good_rows}
use Rattle.row_runs.specs.Taking.{Lent, cycles_on}
use Rattle.row_runs.proofs.GoodRows.{good_row, bad_row}
use Rattle.row_runs.proofs.Answering.{run_good, run_bad}
use Rattle.lists.proofs.Placing.{places_selected}
use Rattle.listing_text.specs.Lines.{refused_line}
use Rattle.listing_output.specs.Printed.{Printed, with_cycle, with_last}
use Rattle.listing_cycles.specs.ByOutputs.{verdict_by, with_lines}
use Rattle.listing_cycles.proofs.Verdicts.{verdict_by_outputs}
use Rattle.listing_rows.specs.Rows.{Listed, with_answer, with_row, rows_of}
use Rattle.listing_rows.specs.Taken.{Held, Holds, Taken}
use Rattle.listing_rows.proofs.Taking.{rows_closed, rows_none, rows_whole}

-- a line for each of some cycles
pub with_cycles : List Cycle → Printed → Printed
with_cycles [] p = p
with_cycles (c ∷ cs) p = with_cycles cs (with_cycle c.outputs c.verdict p)

-- and the refusal of a row as the last line
abbrev pub with_refusal : Option Refusal → Printed → Printed
with_refusal none p = p
with_refusal (some r) p = with_last (refused_line r) p

-- a line leaves the listing open
goes_on_lem : (outputs : List ℕ) (v : Verdict) (p : Printed) → (with_cycle outputs v p).goes_on ≡ p.goes_on
unfolding with_cycle
goes_on_lem outputs v p = refl

module _ (s : List ℕ) where
  -- LINES by output bytes
  cycle_outputs : (row rs : List ℕ) → length (cycle_of plain (nets_of s) row rs).outputs ≡ length (places_from OUT 0 (nets_of s))
  unfolding cycle_of
  cycle_outputs row rs = outputs_length 0 (nets_of s) _ ∙ sym (selection_length (places_selected OUT) 0 (nets_of s))

  cycle_verdict : (row rs : List ℕ) → verdict_by s (places_from OUT 0 (nets_of s)) (cycle_of plain (nets_of s) row rs).outputs ≡ (cycle_of plain (nets_of s) row rs).verdict
  unfolding cycle_of
  cycle_verdict row rs = verdict_by_outputs s _

  pub lines_are : (i k : ℕ) (rows rs : List ℕ) (p : Printed)
      → with_lines s (places_from OUT 0 (nets_of s)) k (outputs_of (cycles_on s i k rows rs)) p ≡ with_cycles (cycles_on s i k rows rs) p
  unfolding with_lines with_cycles cycles_of outputs_of
  lines_are i zero rows rs p = refl
  lines_are i (suc k) rows rs p =
      let row = take i rows in
      let c = cycle_of plain (nets_of s) row rs in
      let rest = outputs_of (cycles_on s i k (drop i rows) c.state) in
      let outs = places_from OUT 0 (nets_of s) in
      rw (take_at c.outputs rest (length outs) (cycle_outputs row rs), drop_at c.outputs rest (length outs) (cycle_outputs row rs), cycle_verdict row rs)
      (lines_are i k (drop i rows) c.state (with_cycle c.outputs c.verdict p))

  -- ONE ROW
  first_verdict : (v : Verdict) → (first_of 0 v (record { cycle = 1; verdict = clear })).verdict ≡ v
  unfolding first_of
  first_verdict clear = refl
  first_verdict (flow n) = refl

  -- in a listing that holds the state of the register bytes rs
  module _ {rs : List ℕ} (row : List ℕ) (image : Checked s) (pos : 0 < (sizes_of s).inputs) (registers : IsRegisters s rs) (size : length row ≡ (sizes_of s).inputs)
      {p : Printed} (l : Listed) (h : Holds s (record { state = with_count rs; printed = p }) l) where
    lent : Lent s (sizes_of s).inputs (sizes_of s).outputs 1 l.state row l.outputs
    lent =
        record {
          accepted = (check_none s).1 image;
          inputs = refl;
          some = pos;
          each = refl;
          state = rw h.state ((state_none s _).1 (counted_state registers));
          few = lit≤ tt;
          row_bytes = size ∙ sym (one-mul (sizes_of s).inputs);
          output_bytes = h.outputs ∙ sym (one-mul (sizes_of s).outputs);
        }

    abbrev c : Cycle
    c = cycle_of plain (nets_of s) row rs

    outputs_size : length c.outputs ≡ (sizes_of s).outputs
    unfolding cycle_of
    outputs_size = outputs_length 0 (nets_of s) _ ∙ sym image.outputs

    one_run : bad_in row ≡ none
        → run_of s l.state 1 row l.outputs
        ≡ record { answer = done (first_of 0 c.verdict (record { cycle = 1; verdict = clear })); state = with_count c.state; outputs = c.outputs }
    unfolding as_run counting cycles_of outputs_of state_after first_flow
    one_run good =
        run_good lent ((byte_none 13 0 row).0 good) ∙ rw (h.state, registers_back registers, take_all (sizes_of s).inputs row (omega (arith, size)), append-nil)

    row_holds : bad_in row ≡ none → Holds s (record { state = with_count c.state; printed = with_cycle c.outputs c.verdict p }) (with_row s row l)
    unfolding with_row with_answer
    row_holds good =
        rw (one_run good)
        (record {
          state = refl;
          printed = rw (first_verdict c.verdict, h.printed);
          outputs = outputs_size;
        })

    bad_holds : {r : Refusal} → bad_in row ≡ some r
        → Holds s (record { state = with_count rs; printed = with_last (refused_line r) p }) (with_row s row l) × ((with_row s row l).printed.goes_on ≡ false)
    unfolding with_row with_answer with_last
    bad_holds bad = let e = run_bad lent bad in (rw e (record { state = h.state; printed = rw h.printed; outputs = h.outputs }), rw e)

  -- MANY ROWS: those before the first bad one have their lines, and its refusal is the last line
  abbrev lines_left : (i k : ℕ) (rows rs : List ℕ) → Printed → Held
  lines_left i k rows rs p =
      let cs = cycles_on s i (good_rows i k rows) rows rs in
      record { state = with_count (state_after rs cs); printed = with_refusal (row_refusal i k rows) (with_cycles cs p) }

  rows_lines : (k : ℕ) (rows rs : List ℕ) (p : Printed) → Checked s → 0 < (sizes_of s).inputs → length rows ≡ k * (sizes_of s).inputs → IsRegisters s rs → p.goes_on ≡ true
      → Taken s (sizes_of s).inputs (rows_of (sizes_of s).inputs rows) (record { state = with_count rs; printed = p }) (lines_left (sizes_of s).inputs k rows rs p)
  unfolding cycles_of state_after with_cycles good_rows row_refusal
  rows_lines zero rows rs p image pos size registers going =
      record { leads = λ l h. rw (rows_none s (sizes_of s).inputs rows l (size ∙ zero-mul (sizes_of s).inputs)) h }
  rows_lines (suc k) rows rs p image pos size registers going =
      by (bad_in row) refl (λ rs' p'. rows_lines k (drop i rows) rs' p' image pos (omega (arith, size, suc-mul k i, length-drop i rows)))
    where
      i : ℕ
      i = (sizes_of s).inputs

      row : List ℕ
      row = take i rows

      long : i ≤ length rows
      long = omega (arith, size, suc-mul k i)

      row_size : length row ≡ i
      row_size = length-take-le i rows long

      c : Cycle
      c = cycle_of plain (nets_of s) row rs

      open_then : {l : Listed} → Holds s (record { state = with_count rs; printed = p }) l → l.printed.goes_on ≡ true
      open_then h = ap (λ (q : Printed). q.goes_on) h.printed ∙ going

      by : (o : Option Refusal) → bad_in row ≡ o
          → ((rs' : List ℕ) (p' : Printed) → IsRegisters s rs' → p'.goes_on ≡ true → Taken s i (rows_of i (drop i rows)) (record { state = with_count rs'; printed = p' }) (lines_left i k (drop i rows) rs' p'))
          → Taken s i (rows_of i rows) (record { state = with_count rs; printed = p }) (lines_left i (suc k) rows rs p)
      by none e later =
          let first : Ready s rs i row = record { image = image; registers = registers; size = row_size; codes = (byte_none 13 0 row).0 e } in
          let more = later c.state (with_cycle c.outputs c.verdict p) (cycle_registers first) (goes_on_lem c.outputs c.verdict p ∙ going) in
          let row_is = good_row i k rows e in
          record { leads = λ l h. rw (rows_whole s i pos rows l (open_then h) long, row_is.0, row_is.1) (more.leads (with_row s row l) (row_holds row image pos registers row_size l h e)) }
      by (some r) e later =
          let row_is = bad_row i k rows e in
          record {
            leads = λ l h.
                let bad = bad_holds row image pos registers row_size l h e in
                rw (rows_whole s i pos rows l (open_then h) long, rows_closed s i (rows_of i (drop i rows)) (with_row s row l) bad.1, row_is.0, row_is.1) bad.0;
          }

  pub rows_taken : {i : ℕ} (k : ℕ) (rows st : List ℕ) (p : Printed) → Checked s → i ≡ (sizes_of s).inputs → 0 < i → length rows ≡ k * i → IsState s st → p.goes_on ≡ true
      → Taken s i (rows_of i rows) (record { state = st; printed = p }) (lines_left i k rows (registers_in s st) p)
  rows_taken k rows st p image inputs pos size state going =
      let t = rows_lines k rows (registers_in s st) p image (rw inputs at pos) (size ∙ ap (λ m. k * m) inputs) state.registers going in
      rw inputs (rw (← state.counted) at t)
