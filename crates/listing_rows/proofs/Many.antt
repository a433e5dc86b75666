-- What one run of at most 4,096 rows takes, and what it leaves, as the code has it.
use Prim.Native.Nat.{ℕ, ◌*◌, ◌≤◌}
use native.Mathlib.Nat.{mul-le-mul}
use native.Mathlib.Omega.{arith}
use mathlib.Core.Path.{◌≡◌, refl, ap, ◌∙◌}
use mathlib.Core.Bool.{true}
use mathlib.Core.List.{List}
use mathlib.Core.Option.{none, some}
use lib.ListN.{length, take}
use Rattle.refusals.specs.declared.answer.Refusal.{Refusal}
use Rattle.checking.proofs.Checked.{check_none}
use Rattle.cycle.specs.State.{with_count, registers_in}
use Rattle.cycle.proofs.States.{state_none}
use Rattle.row_runs.specs.declared.running.RowsRun.{RowsRun}
use Rattle.row_runs.specs.Rows.{row_refusal, good_rows}
use Rattle.row_runs.specs.Taking.{Lent, cycles_on, RowsTaken}
use Rattle.listing_text.specs.Lines.{refused_line}
use Rattle.listing_output.specs.declared.output.Progress.{Progress}
use Rattle.listing_output.specs.Printed.{printed, with_last, Grown}
use Rattle.listing_output.proofs.Printing.{last_leaves}
use Rattle.listing_cycles.specs.ByOutputs.{with_lines}
use Rattle.listing_cycles.proofs.Lines.{outs_length}
use Rattle.listing_rows.specs.Rows.{rows_of}
use Rattle.listing_rows.specs.Taken.{held, Taken, Asks, Leaves}
use Rattle.listing_rows.proofs.Taking.{taken_to}
use Rattle.listing_rows.proofs.Running.{with_cycles, with_refusal, lines_are, rows_taken}

module _ {s : List ℕ} {i k : ℕ} {list st rows outputs text : List ℕ} {p : Progress} (a : Asks s i k list st rows outputs text p) where
  -- what a run is lent
  pub lent_of : Lent s i (length list) k st rows outputs
  lent_of =
      record {
        accepted = a.known.outs.accepted;
        inputs = a.known.inputs;
        some = a.known.some;
        each = outs_length a.known.outs;
        state = a.state;
        few = a.few;
        row_bytes = a.row_bytes;
        output_bytes = a.output_bytes;
      }

  module _ {r : RowsRun} {after filled : List ℕ} (t : RowsTaken s i (length list) k st rows r after filled) where
    -- the output bytes of the good rows
    pub many_filled : r.good * length list ≤ k * length list
    many_filled = mul-le-mul t.few (omega arith)

    -- their lines, and the refusal of the row after them
    module _ {text₁ : List ℕ} {q : Progress} (lines : printed text₁ q ≡ with_lines s list r.good (take (r.good * length list) filled) (printed text p)) (grown : Grown text₁ r.good p q) where
      lines_printed : printed text₁ q ≡ with_cycles (cycles_on s i (good_rows i k rows) rows (registers_in s st)) (printed text p)
      lines_printed = lines ∙ rw (t.outputs, t.good, a.known.outs.listed) (lines_are s i (good_rows i k rows) rows (registers_in s st) (printed text p))

      taken : {text₂ : List ℕ} (z : Progress) → printed text₂ z ≡ with_refusal (row_refusal i k rows) (printed text₁ q) → Taken s i (rows_of i rows) (held st text p) (held after text₂ z)
      taken z e =
          taken_to
          (rows_taken s k rows st (printed text p) ((check_none s).0 a.known.outs.accepted) a.known.inputs a.known.some a.row_bytes ((state_none s st).0 a.state) a.going)
          (((state_none s after).0 t.accepts).counted ∙ ap with_count (t.registers ∙ rw t.good))
          (e ∙ rw lines_printed)

      pub many_done : row_refusal i k rows ≡ none → Taken s i (rows_of i rows) (held st text p) (held after text₁ q) × Leaves s after text₁ k p q
      many_done e = (
        taken q (rw e refl),
        record { state = t.accepts; room = grown.room; cycles = omega (arith, grown.cycles, t.few); failed = grown.failed },
      )

      pub many_bad : {d : Refusal} → row_refusal i k rows ≡ some d → {text₂ : List ℕ} (z : Progress) → printed text₂ z ≡ with_last (refused_line d) (printed text₁ q)
          → z.written ≡ 0 → (q.failed ≡ true → z.failed ≡ true) → length text₂ ≡ length text₁
          → Taken s i (rows_of i rows) (held st text p) (held after text₂ z) × Leaves s after text₂ k p z
      many_bad e z last nothing failed size =
          let leaves = last_leaves _ text₁ q z last in (
            taken z (rw e last),
            record {
              state = t.accepts;
              room = record { written = omega (arith, nothing); used = omega (arith, leaves.0); longest = omega (arith, size, grown.room.longest) };
              cycles = omega (arith, leaves.1, grown.cycles, t.few);
              failed = λ f. failed (grown.failed f);
            },
          )
