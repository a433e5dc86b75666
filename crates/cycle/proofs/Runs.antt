-- The cycles of a run, of which c are done and m are left: what is left gives the whole answer, the last state and all outputs.
use Prim.Native.Nat.{ℕ, zero, suc, ◌+◌, ◌*◌, ◌^◌, ◌≤◌, ◌<◌}
use native.Mathlib.Nat.{zero-mul, suc-mul, mul-le-mul}
use native.Mathlib.Omega.{arith}
use mathlib.Core.Path.{◌≡◌, refl, sym, ◌∙◌}
use mathlib.Core.List.{List, ◌++◌}
use lib.ListN.{length, take, drop, length-append, length-drop}
use lib.Seq.{drop-drop}
use Rattle.gates.specs.Kinds.{OUT}
use Rattle.image.specs.declared.image.Net.{Net}
use Rattle.image.specs.Image.{sizes_of, nets_of, count}
use Rattle.cycle.specs.Cycle.{Rules, Verdict, clear, flow, Cycle, cycle_of, cycles_of, outputs_of, state_after, FirstFlow, first_of, first_flow}
use Rattle.cycle.specs.Calls.{done, as_run}
use Rattle.cycle.proofs.Cycles.{Kept, outputs_length}
use Rattle.cycle.proofs.Calls.{ReadyOf, first_ready, rest_ready_by}
use Rattle.cycle.proofs.Filling.{Filled, fill_begins, fill_part, fill_ends}

-- NUMBERS. Cycles times bytes of a cycle: the product fits a u64
pub product_fits : {k m : ℕ} → k ≤ 4096 → m ≤ 8192 → k * m < 2 ^ 64
product_fits h l = let p = mul-le-mul h l in omega arith

-- THE FIRST FLOW. The first flow so far, as it is after cycle c with verdict v
abbrev pub after : FirstFlow → (c : ℕ) → Verdict → FirstFlow
after f c v = first_of f.cycle f.verdict (first_of c v f)

-- it decides what the two together decided
first_after : (fc : ℕ) (fv : Verdict) (c : ℕ) (v : Verdict) (later : FirstFlow)
    → first_of fc fv (first_of c v later)
    ≡ first_of (after (record { cycle = fc; verdict = fv }) c v).cycle (after (record { cycle = fc; verdict = fv }) c v).verdict later
unfolding first_of
first_after fc clear c clear later = refl
first_after fc clear c (flow n) later = refl
first_after fc (flow n) c v later = refl

-- as long as it is clear, its cycle is the number of cycles
abbrev Unset : (k : ℕ) → FirstFlow → Type 0
Unset k f = first_of f.cycle f.verdict (record { cycle = k; verdict = clear }) ≡ f

unset_after : (k fc : ℕ) (fv : Verdict) (c : ℕ) (v : Verdict) → Unset k (record { cycle = fc; verdict = fv }) → Unset k (after (record { cycle = fc; verdict = fv }) c v)
unfolding first_of
unset_after k fc clear c clear h = h
unset_after k fc clear c (flow n) h = refl
unset_after k fc (flow n) c v h = refl

-- LENGTHS
cycle_outputs_length : (rules : Rules) (xs : List Net) (row st : List ℕ) → length (cycle_of rules xs row st).outputs ≡ count OUT xs
unfolding cycle_of
cycle_outputs_length rules xs row st = outputs_length 0 xs _

pub outputs_of_length : (rules : Rules) (xs : List Net) (i k : ℕ) (rows st : List ℕ) → length (outputs_of (cycles_of rules xs i k rows st)) ≡ k * count OUT xs
unfolding cycles_of outputs_of
outputs_of_length rules xs i zero rows st = sym (zero-mul (count OUT xs))
outputs_of_length rules xs i (suc k) rows st =
    let m = suc-mul k (count OUT xs) in
    let one = cycle_outputs_length rules xs (take i rows) st in
    let more = outputs_of_length rules xs i k (drop i rows) (cycle_of rules xs (take i rows) st).state in
    rw length-append (omega arith)

-- THE CYCLES of a run on the image s, by some rules that keep bytes in A
abbrev cycles_on : Rules → (s : List ℕ) (k : ℕ) (rows st : List ℕ) → List Cycle
cycles_on rules s = cycles_of rules (nets_of s) (sizes_of s).inputs

pub record Running (rules : Rules) (A : ℕ → ℕ → Type 0) (s : List ℕ) (k : ℕ) (rows begin : List ℕ) (c m : ℕ) (st outputs : List ℕ) (first : FirstFlow) (row out : ℕ) : Type 0 where
  pub counted : c + m ≡ k
  pub ready : ReadyOf A s st (m * (sizes_of s).inputs) (drop row rows)
  pub row_upto : row ≤ length rows
  pub state_is : state_after begin (cycles_on rules s k rows begin) ≡ state_after st (cycles_on rules s m (drop row rows) st)
  pub outputs_are : Filled (outputs_of (cycles_on rules s k rows begin)) outputs out (outputs_of (cycles_on rules s m (drop row rows) st))
  pub first_is : first_flow 0 (cycles_on rules s k rows begin)
      ≡ first_of first.cycle first.verdict (first_flow c (cycles_on rules s m (drop row rows) st))
  pub unset : Unset k first

-- none is done
pub run_begins : (rules : Rules) {A : ℕ → ℕ → Type 0} {s st : List ℕ} {k : ℕ} {rows outputs : List ℕ} → ReadyOf A s st (k * (sizes_of s).inputs) rows
    → length outputs ≡ k * (sizes_of s).outputs → Running rules A s k rows st 0 k st outputs (record { cycle = k; verdict = clear }) 0 0
unfolding first_of
run_begins rules {s = s} {st} {k} {rows} {outputs} r l =
    record {
      counted = omega arith;
      ready = r;
      row_upto = omega arith;
      state_is = refl;
      outputs_are = fill_begins refl (outputs_of_length rules (nets_of s) _ k rows st ∙ rw (← r.image.outputs) (sym l));
      first_is = refl;
      unset = refl;
    }

-- one more: its row, and what it leaves
module _ {rules : Rules} {A : ℕ → ℕ → Type 0} {s : List ℕ} {k : ℕ} {rows begin : List ℕ} {c m : ℕ} {st outputs : List ℕ} {first : FirstFlow} {row out : ℕ}
    (r : Running rules A s k rows begin c (suc m) st outputs first row out) where
  pub row_fits : row + (sizes_of s).inputs ≤ length rows
  row_fits = let l = rw length-drop at r.ready.size in let e = suc-mul m (sizes_of s).inputs in omega (arith, r.row_upto)

  pub row_ready : ReadyOf A s st (sizes_of s).inputs (take (sizes_of s).inputs (drop row rows))
  row_ready = first_ready m r.ready

  abbrev this : Cycle
  this = cycle_of rules (nets_of s) (take (sizes_of s).inputs (drop row rows)) st

  outputs_size : length this.outputs ≡ (sizes_of s).outputs
  outputs_size = cycle_outputs_length rules (nets_of s) _ st ∙ sym r.ready.image.outputs

  this_outputs : Filled (outputs_of (cycles_on rules s k rows begin)) outputs out
      (this.outputs ++ outputs_of (cycles_on rules s m (drop (row + (sizes_of s).inputs) rows) this.state))
  unfolding cycles_of outputs_of
  this_outputs = rw drop-drop at r.outputs_are

  pub outputs_fit : out + (sizes_of s).outputs ≤ length outputs
  outputs_fit = omega (arith, this_outputs.room, length-append this.outputs (outputs_of (cycles_on rules s m (drop (row + (sizes_of s).inputs) rows) this.state)), outputs_size)

  pub run_goes_on : Kept rules.gate rules.gate A → Running rules A s k rows begin (suc c) m this.state
      (take out outputs ++ (this.outputs ++ drop (out + (sizes_of s).outputs) outputs))
      (after first c this.verdict) (row + (sizes_of s).inputs) (out + (sizes_of s).outputs)
  unfolding cycles_of state_after first_flow
  run_goes_on kept =
      record {
        counted = omega (arith, r.counted);
        ready = rw drop-drop at (rest_ready_by rules kept m r.ready);
        row_upto = row_fits;
        state_is = rw drop-drop at r.state_is;
        outputs_are = rw outputs_size at (fill_part this.outputs this_outputs);
        first_is = r.first_is ∙ rw drop-drop (first_after first.cycle first.verdict c this.verdict _);
        unset = unset_after k first.cycle first.verdict c this.verdict r.unset;
      }

-- none is left
pub run_ends : {rules : Rules} {A : ℕ → ℕ → Type 0} {s : List ℕ} {k : ℕ} {rows begin : List ℕ} {c : ℕ} {st outputs : List ℕ} {first : FirstFlow} {row out : ℕ}
    → Running rules A s k rows begin c 0 st outputs first row out
    → record { answer = done first; state = st; outputs = outputs } ≡ as_run begin (cycles_on rules s k rows begin)
unfolding cycles_of state_after outputs_of first_flow as_run
run_ends {k = k} {c = c} r =
    let e : c ≡ k = omega (arith, r.counted) in
    rw (r.first_is, e, r.unset, r.state_is, ← fill_ends r.outputs_are)
