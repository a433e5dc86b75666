-- What is printed for the bytes of at most 64 rows, as the code has it: the rows among them are run, and what they give is put into the text.
use Prim.Native.Nat.{ℕ, ◌+◌, ◌-◌, ◌*◌, ◌/◌, ◌≤◌, ◌<◌}
use native.Mathlib.Nat.{mul-le-mul, div-mul-le_self, div-lt_iff_lt-mul, mod-eq-sub-div-mul, add-mul, one-mul}
use native.Mathlib.Omega.{arith}
use mathlib.Core.Path.{◌≡◌, sym, ap, ◌∙◌}
use mathlib.Core.Bool.{not}
use mathlib.Core.List.{List, ◌++◌}
use lib.Dec.{eqb}
use lib.ListN.{length, take, drop, length-append}
use lib.Seq.{sets, length-take-le, take-append-le}
use Rattle.gates.specs.Kinds.{OUT}
use Rattle.image.specs.Image.{sizes_of, nets_of}
use Rattle.std.proofs.Common.{Result}
use Rattle.refusals.specs.declared.answer.Refusal.{Refusal}
use Rattle.refusals.specs.Refusals.{refuse, ◌then◌, refusal_in}
use Rattle.checking.proofs.Checked.{check_none, few_of}
use Rattle.cycle.specs.Cycle.{plain, outputs_of}
use Rattle.cycle.specs.State.{registers_in}
use Rattle.cycle.proofs.Selections.{selection_length}
use Rattle.lists.proofs.Placing.{places_selected}
use Rattle.row_runs.specs.declared.running.RowsRun.{RowsRun}
use Rattle.row_runs.specs.Taking.{Lent, cycles_on, RowsTaken}
use Rattle.row_runs.proofs.Parting.{good_take, cycles_front}
use Rattle.page_text.specs.Pages.{pages_text, page_count}
use Rattle.page_turns.specs.PagesOf.{rows_taken, rows_refusal, last_line, cycle_pages, pages_from}
use Rattle.page_turns.specs.Turns.{Asks, Taken}
use Rattle.page_turns.proofs.TextParts.{both_put}

module _ {s : List ℕ} {i : ℕ} {outs st outputs text : List ℕ} (a : Asks s i outs st outputs text) where
  -- the list of an accepted image's OUTs: O of them, and at most 8,192
  outs_length : length outs ≡ (sizes_of s).outputs
  outs_length = ap length a.listed ∙ selection_length (places_selected OUT) 0 (nets_of s) ∙ sym ((check_none s).0 a.accepted).outputs

  pub outs_few : length outs ≤ 8192
  outs_few = let image = (check_none s).0 a.accepted in omega (arith, outs_length, image.outputs, few_of image OUT)

  module _ (bytes : List ℕ) (upto : length bytes ≤ 64 * i) where
    abbrev whole : ℕ
    whole = length bytes / i

    -- the whole rows
    pub whole_few : whole ≤ 64
    whole_few =
        let m : whole < 65 = (div-lt_iff_lt-mul a.some).1 (omega (arith, upto, a.some, add-mul 64 1 i, one-mul i)) in
        omega arith

    pub whole_within : whole * i ≤ length bytes
    whole_within = div-mul-le_self (length bytes) i

    pub filled_within : whole * length outs ≤ length outputs
    filled_within = let m : whole * length outs ≤ 64 * length outs = mul-le-mul whole_few (omega arith) in omega (arith, a.output_bytes)

    pub rows_lent : Lent s i (length outs) whole st (take (whole * i) bytes) (take (whole * length outs) outputs)
    rows_lent =
        record {
          accepted = a.accepted;
          inputs = a.inputs;
          some = a.some;
          each = outs_length;
          state = a.state;
          few = omega (arith, whole_few);
          row_bytes = length-take-le _ bytes whole_within;
          output_bytes = length-take-le _ outputs filled_within;
        }

    -- they were run
    module _ {r : RowsRun} {after filled : List ℕ} (t : RowsTaken s i (length outs) whole st (take (whole * i) bytes) r after filled) (size : length filled ≡ length (take (whole * length outs) outputs)) where
      pub good_few : r.good ≤ 64
      good_few = omega (arith, t.few, whole_few)

      good_within : r.good * length outs ≤ length filled
      good_within = let m : r.good * length outs ≤ whole * length outs = mul-le-mul t.few (omega arith) in omega (arith, size, rows_lent.output_bytes)

      pub shown_within : r.good * length outs ≤ length (filled ++ drop (whole * length outs) outputs)
      shown_within = omega (arith, good_within, length-append filled (drop (whole * length outs) outputs))

      good_is : r.good ≡ rows_taken i bytes
      unfolding rows_taken
      good_is = t.good ∙ (good_take i whole bytes).0

      cycles_are : cycles_on s i r.good (take (whole * i) bytes) (registers_in s st) ≡ cycles_on s i (rows_taken i bytes) bytes (registers_in s st)
      cycles_are = cycles_front plain (nets_of s) i r.good whole bytes (registers_in s st) t.few ∙ rw good_is

      -- what is printed for them
      abbrev shown : List ℕ
      shown = take (r.good * length outs) (filled ++ drop (whole * length outs) outputs)

      pages_are : (first : ℕ) → pages_text (page_count r.good) first r.good outs shown ≡ cycle_pages s i first (rows_taken i bytes) bytes (registers_in s st)
      unfolding cycle_pages
      pages_are first =
          let bytes_are : shown ≡ outputs_of (cycles_on s i (rows_taken i bytes) bytes (registers_in s st)) =
          take-append-le (r.good * length outs) filled (drop (whole * length outs) outputs) good_within ∙ t.outputs ∙ ap outputs_of cycles_are in
          rw (bytes_are, good_is, a.listed)

      refusal_is : (o : Result (Unit {0}) Refusal) → refusal_in o ≡ (refusal_in r.outcome then refuse (not (eqb (length bytes - whole * i) 0)) 12 0) → refusal_in o ≡ rows_refusal i bytes
      unfolding rows_refusal
      refusal_is o e = e ∙ rw (t.refusal, (good_take i whole bytes).1, mod-eq-sub-div-mul (length bytes) i)

      pub rows_printed : (first : ℕ) {page used : ℕ} {text₁ text₂ : List ℕ} (o : Result (Unit {0}) Refusal)
          → text₁ ≡ sets text 0 (pages_text (page_count r.good) first r.good outs shown)
          → page ≡ length (pages_text (page_count r.good) first r.good outs shown)
          → refusal_in o ≡ (refusal_in r.outcome then refuse (not (eqb (length bytes - whole * i) 0)) 12 0)
          → text₂ ≡ sets text₁ page (last_line (refusal_in o)) → used ≡ page + length (last_line (refusal_in o)) → used ≤ length text₂
          → Taken s i first bytes st after text₂ (record { good = r.good; used = used })
      unfolding pages_from
      rows_printed first o e f refused g h within =
          record {
            good = good_is;
            few = good_few;
            registers = t.registers ∙ rw cycles_are;
            accepts = t.accepts;
            text = both_put text (pages_text (page_count r.good) first r.good outs shown) (last_line (refusal_in o)) e f g h within ∙ rw (pages_are first, refusal_is o refused);
            within = within;
          }
