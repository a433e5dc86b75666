-- What a run of whole rows answers: where all bytes are good, its cycles; where one is bad, 13 at the first such byte, and the rows before its row are run.
use Prim.Native.Nat.{ℕ, ◌+◌, ◌-◌, ◌*◌, ◌/◌, ◌≤◌, ◌<◌}
use native.Mathlib.Nat.{zero-mul, zero-add, one-mul, add-mul, mul-le-mul, div-mul-le_self, le-div_iff_mul-le, div-lt_iff_lt-mul}
use native.Mathlib.Omega.{arith}
use mathlib.Core.Path.{◌≡◌, sym, ap, ap₂, ◌∙◌}
use mathlib.Core.List.{List, ◌++◌}
use mathlib.Core.Option.{some}
use lib.Dec.{ltb}
use lib.ListN.{length, take, drop}
use lib.Seq.{length-take-le, take_all, take_at}
use borrow.Author.Tests.{le-ltb}
use Rattle.image.specs.Image.{sizes_of, nets_of}
use Rattle.refusals.specs.declared.answer.Refusal.{Refusal}
use Rattle.std.proofs.Common.{Result, Ok, Err}
use Rattle.refusals.specs.Refusals.{refusal, refusal_in, bad_byte}
use Rattle.refusals.proofs.Refusals.{Codes, byte_none, length_none}
use Rattle.checking.proofs.Checked.{Checked, check_none}
use Rattle.cycle.specs.declared.answer.FirstFlow as code
use Rattle.cycle.specs.Answers.{ran}
use Rattle.cycle.specs.Cycle.{plain, FirstFlow, outputs_of, state_after}
use Rattle.cycle.specs.State.{with_count, registers_in}
use Rattle.cycle.specs.Calls.{Answer, refused, Ran, as_run, counting, run_refusal, run_of}
use Rattle.cycle.proofs.States.{IsRegisters, registers_back, counted_state, state_none}
use Rattle.cycle.proofs.Calls as calls
use Rattle.cycle.proofs.Calls.{either_way, run_accepted, run_refused, run_none, lent_ready, run_registers}
use Rattle.cycle.proofs.Runs.{outputs_of_length}
use Rattle.row_runs.specs.Rows.{good_rows}
use Rattle.row_runs.specs.Taking.{AcceptedState, Lent, cycles_on, RowsTaken}
use Rattle.row_runs.proofs.GoodRows.{all_good, good_codes, BadRow, row_of_bad, cycles_take}

module _ {s : List ℕ} {i o k : ℕ} {st rows outputs : List ℕ} (g : Lent s i o k st rows outputs) where
  abbrev begin : List ℕ
  begin = registers_in s st

  image : Checked s
  image = (check_none s).0 g.accepted

  row_bytes_are : length rows ≡ k * (sizes_of s).inputs
  row_bytes_are = g.row_bytes ∙ ap (λ m. k * m) g.inputs

  good_lent : Codes rows → calls.Lent s st (k * (sizes_of s).inputs) rows
  good_lent c = record { image = image; state = (state_none s st).0 g.state; size = row_bytes_are; codes = c }

  pub run_good : Codes rows → run_of s st k rows outputs ≡ counting (as_run begin (cycles_on s i k rows begin))
  run_good c =
      run_accepted s st k rows outputs ((run_none s st k rows outputs).1 (good_lent c, g.few, g.output_bytes ∙ ap (λ m. k * m) g.each))
      ∙ ap (λ m. counting (as_run begin (cycles_on s m k rows begin))) (sym g.inputs)

  good_registers : Codes rows → IsRegisters s (state_after begin (cycles_on s i k rows begin))
  good_registers c = rw g.inputs (run_registers k (lent_ready (good_lent c)))

  -- the state with the register bytes after the good rows
  pub good_state : {after : List ℕ} → Codes rows → after ≡ with_count (state_after begin (cycles_on s i k rows begin))
      → (registers_in s after ≡ state_after begin (cycles_on s i k rows begin)) × AcceptedState s after
  good_state c e = let r = good_registers c in (rw e (registers_back r), rw e ((state_none s _).1 (counted_state r)))

  pub run_bad : {r : Refusal} → bad_byte (ltb 3) 13 0 rows ≡ some r → run_of s st k rows outputs ≡ record { answer = refused r; state = st; outputs = outputs }
  unfolding run_refusal
  run_bad {r} h =
      run_refused s st k rows outputs r
      (rw (g.accepted, le-ltb 4096 k g.few, g.state, (length_none 12 _ rows).1 row_bytes_are, h))

  pub outputs_size : (n : ℕ) → length (outputs_of (cycles_on s i n rows begin)) ≡ n * o
  outputs_size n = outputs_of_length plain (nets_of s) i n rows begin ∙ ap (λ m. n * m) (sym (g.each ∙ image.outputs))

-- as the code has it
module _ {s : List ℕ} {i o k : ℕ} {st rows outputs : List ℕ} (g : Lent s i o k st rows outputs)
    {a : Result code.FirstFlow Refusal} {after filled : List ℕ} (e : ran a after filled ≡ run_of s st k rows outputs) where
  done_good : {f : code.FirstFlow} → a ≡ Ok f → Codes rows
  done_good d =
      either_way (bad_byte (ltb 3) 13 0 rows) (byte_none 13 0 rows).0
      (λ r h. let z : ◌≡◌ {A = ℕ} 0 1 = cc (ap (λ (x : Ran). x.answer) (rw d at (e ∙ run_bad g h))) in absurd (omega arith))

  refused_bad : {r : Refusal} → a ≡ Err r → bad_byte (ltb 3) 13 0 rows ≡ some r
  unfolding as_run counting
  refused_bad {r} d =
      either_way (bad_byte (ltb 3) 13 0 rows)
      (λ h. let z : ◌≡◌ {A = ℕ} 0 1 = cc (ap (λ (x : Ran). x.answer) (rw d at (e ∙ run_good g ((byte_none 13 0 rows).0 h)))) in absurd (omega arith))
      (λ q h. let same : ◌≡◌ {A = Answer FirstFlow} (refused r) (refused q) = ap (λ (x : Ran). x.answer) (rw d at (e ∙ run_bad g h)) in h ∙ cc same)

  -- all rows are good
  pub all_run : {f : code.FirstFlow} → a ≡ Ok f → RowsTaken s i o k st rows (record { good = k; outcome = Ok record {} }) after filled
  unfolding as_run counting
  all_run d =
      let c = done_good d in
      let run = e ∙ run_good g c in
      let state = good_state g c (ap (λ (x : Ran). x.state) run) in
      let outputs_are = ap (λ (x : Ran). x.outputs) run in
      let size : length filled ≡ k * o = ap length outputs_are ∙ outputs_size g k in
      record {
        good = sym (all_good i k rows c).0;
        few = omega arith;
        refusal = sym (all_good i k rows c).1;
        registers = state.0;
        accepts = state.1;
        outputs = take_all (k * o) filled (omega arith) ∙ outputs_are;
      }

  -- a byte is bad
  module _ {r : Refusal} (d : a ≡ Err r) where
    abbrev good : ℕ
    good = r.place / i

    row : BadRow i k 0 rows r
    row = row_of_bad i k 0 rows g.row_bytes (rw (zero-mul i) (refused_bad d))

    is : r ≡ refusal 13 (good_rows i k rows * i + row.at)
    is = let n = zero-add (good_rows i k rows) in row.is ∙ rw n

    pub good_is : good ≡ good_rows i k rows
    good_is =
        let place = ap (λ (x : Refusal). x.place) is in
        let low : good_rows i k rows ≤ good = (le-div_iff_mul-le g.some).1 (omega arith) in
        let high : good < good_rows i k rows + 1 = (div-lt_iff_lt-mul g.some).1 (omega (arith, row.within, add-mul (good_rows i k rows) 1 i, one-mul i)) in
        omega arith

    same_state : after ≡ st
    same_state = ap (λ (x : Ran). x.state) (e ∙ run_bad g (refused_bad d))

    same_outputs : filled ≡ outputs
    same_outputs = ap (λ (x : Ran). x.outputs) (e ∙ run_bad g (refused_bad d))

    pub good_fewer : good < k
    good_fewer = rw good_is row.fewer

    pub good_bytes : good * i ≤ r.place
    good_bytes = div-mul-le_self r.place i

    pub good_there : good * i ≤ length rows
    good_there = let m : good * i ≤ k * i = mul-le-mul (omega (arith, good_fewer)) (omega arith) in omega (arith, g.row_bytes)

    pub good_room : good * o ≤ length filled
    good_room = let m : good * o ≤ k * o = mul-le-mul (omega (arith, good_fewer)) (omega arith) in omega (arith, g.output_bytes, ap length same_outputs)

    part : Lent s i o good after (take (good * i) rows) (take (good * o) filled)
    part =
        record {
          accepted = g.accepted;
          inputs = g.inputs;
          some = g.some;
          each = g.each;
          state = rw same_state g.state;
          few = omega (arith, good_fewer, g.few);
          row_bytes = length-take-le _ rows good_there;
          output_bytes = length-take-le _ filled good_room;
        }

    codes : Codes (take (good * i) rows)
    codes = rw good_is (good_codes i k rows)

    cycles_are : cycles_on s i good (take (good * i) rows) (registers_in s after) ≡ cycles_on s i good rows (registers_in s st)
    cycles_are = rw same_state (cycles_take plain (nets_of s) i good rows (registers_in s st))

    pub good_run : (b : Result code.FirstFlow Refusal) {after' filled' : List ℕ} → ran b after' filled' ≡ run_of s after good (take (good * i) rows) (take (good * o) filled)
        → (out : Result (Unit {0}) Refusal) → refusal_in out ≡ some (refusal r.number (r.place - good * i))
        → RowsTaken s i o k st rows (record { good = good; outcome = out }) after' (filled' ++ drop (good * o) filled)
    unfolding as_run counting
    good_run b {after'} {filled'} f out draws =
        let run = f ∙ run_good part codes in
        let state = good_state part codes (ap (λ (x : Ran). x.state) run) in
        let outputs_are : filled' ≡ outputs_of (cycles_on s i good rows (registers_in s st)) = ap (λ (x : Ran). x.outputs) run ∙ rw cycles_are in
        let size : length filled' ≡ good * o = ap length outputs_are ∙ outputs_size g good in
        let at : r.place - good * i ≡ row.at = omega (arith, ap (λ (x : Refusal). x.place) is, ap (λ m. m * i) good_is) in
        record {
          good = good_is;
          few = omega (arith, good_fewer);
          refusal = draws ∙ ap₂ (λ n m. some (refusal n m)) (ap (λ (x : Refusal). x.number) is) at ∙ sym row.draws;
          registers = state.0 ∙ rw (cycles_are, same_state);
          accepts = state.1;
          outputs = take_at filled' (drop (good * o) filled) (good * o) size ∙ outputs_are;
        }
