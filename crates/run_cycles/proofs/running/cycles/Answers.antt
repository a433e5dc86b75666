-- `run_cycles::running::cycles` meets its contract: at the end no cycle is left, and each turn leaves what its cycle gives.
use Rattle.std.proofs.Common.{ℕ, suc, ◌+◌, ◌-◌, ◌*◌, ◌<◌, List, ◌++◌, take, drop, add-one, ◌≡◌, refl, ap, arith}
use borrow.Rule.Slice.PartMut.{Post-is}
use Rattle.image.specs.declared.image.Sizes.{Sizes}
use Rattle.image.specs.Image.{sizes_of, nets_of}
use Rattle.cycle.specs.Cycle.{cycle_of, FirstFlow, Rules}
use Rattle.cycle.proofs.Runs.{after, Running, run_begins, row_ready, run_goes_on, run_ends}
use Rattle.settling.specs.Settling.{Prepared}
use Rattle.unknowns.proofs.ByWidth.{plain_tabled}
use Rattle.run_cycles.specs.Taking.{rules_by}
use Rattle.run_cycles.proofs.Cycling.{IsCodeBy, taken_ready, ready_taken, width_kept}
use Rattle.run_cycles.proofs.running.cycles.Goals as goal

-- with its counts written in another way
counted_as : {rules : Rules} {A : ℕ → ℕ → Type 0} {s : List ℕ} {k : ℕ} {rows begin : List ℕ} {c m m' : ℕ} {st outputs : List ℕ} {first : FirstFlow} {row row' out out' : ℕ}
    → m ≡ m' → row ≡ row' → out ≡ out'
    → Running rules A s k rows begin c m st outputs first row out
    → Running rules A s k rows begin c m' st outputs first row' out'
counted_as e f g r = rw (← e, ← f, ← g) r

-- at the head of a turn, at least one cycle is left
turn : {rules : Rules} {A : ℕ → ℕ → Type 0} {s : List ℕ} {k : ℕ} {rows begin : List ℕ} {i : ℕ} {st outputs : List ℕ} {first : FirstFlow} {row out : ℕ}
    → Running rules A s k rows begin i (k - i) st outputs first row out
    → i < k
    → Running rules A s k rows begin i (suc (k - suc i)) st outputs first row out
turn r h = counted_as (omega (arith, h)) refl refl r

prepared_to : {w : ℕ} {s nets : List ℕ} {n m : ℕ} → n ≡ m → Prepared w s nets n → Prepared w s nets m
prepared_to e p = rw e at p

pub sizes_of-z-requires : goal.sizes_of-z-requires
sizes_of-z-requires c = omega (arith, (taken_ready c.requires.takes).image.exact)

pub loop-c-init : goal.loop-c-init
loop-c-init c =
    record {
      running = counted_as (omega arith) (omega arith) (omega arith) (run_begins (rules_by c.args.width) (taken_ready c.requires.takes) c.requires.k_bound.1);
      prepared = prepared_to (ap (λ (z : Sizes). z.nets) c.sizes_of-z.ensures) (c.set_constants.ensures c.args.width);
    }

pub cycle-first-requires-clause-made : goal.cycle-first-requires-clause-made
cycle-first-requires-clause-made c =
    record {
      tables = record { width_is = c.requires.width_is; plain_table = plain_tabled c.table-plain.ensures; wide_table = c.wide_table_for-wide.ensures.1 };
      found = c.find_parts-parts.ensures.0;
      watched = c.find_parts-parts.ensures.1;
    }

pub cycle-first-requires-clause-takes : goal.cycle-first-requires-clause-takes
cycle-first-requires-clause-takes c =
    let row = c.loop-c.c * c.sizes_of-z.result.inputs in
    let e : row + c.sizes_of-z.result.inputs - row ≡ c.sizes_of-z.result.inputs = omega arith in
    rw (e, c.sizes_of-z.ensures) (ready_taken (row_ready (turn c.loop-c.invariant.running c.loop-c-test.true)))

-- what the cycle leaves
run_next : (w : ℕ) {s : List ℕ} {k : ℕ} {rows begin : List ℕ} {c m : ℕ} {st outputs : List ℕ} {first : FirstFlow} {row out : ℕ}
    → Running (rules_by w) (IsCodeBy w) s k rows begin c (suc m) st outputs first row out
    → {st' ys : List ℕ} {first' : FirstFlow}
    → st' ≡ (cycle_of (rules_by w) (nets_of s) (take (sizes_of s).inputs (drop row rows)) st).state
    → ys ≡ (cycle_of (rules_by w) (nets_of s) (take (sizes_of s).inputs (drop row rows)) st).outputs
    → first' ≡ after first c (cycle_of (rules_by w) (nets_of s) (take (sizes_of s).inputs (drop row rows)) st).verdict
    → Running (rules_by w) (IsCodeBy w) s k rows begin (suc c) m st' (take out outputs ++ (ys ++ drop (out + (sizes_of s).outputs) outputs)) first'
    (row + (sizes_of s).inputs) (out + (sizes_of s).outputs)
run_next w r st_is ys_are first_is = rw (st_is, ys_are, first_is) (run_goes_on r (width_kept w))

pub loop-c-preserved : goal.loop-c-preserved
loop-c-preserved c =
    let z = c.sizes_of-z.result in
    let s = c.args.image.now in
    let row = c.loop-c.c * z.inputs in
    let out = c.loop-c.c * (sizes_of s).outputs in
    let e : row + z.inputs - row ≡ z.inputs = omega arith in
    let done = c.cycle-first.ensures in
    let state = rw (e, c.sizes_of-z.ensures) at done.state_after in
    let outputs = rw (e, c.sizes_of-z.ensures) at done.outputs_after in
    let first = rw (e, c.sizes_of-z.ensures) at done.result_value in
    let next = run_next c.args.width (turn c.loop-c.invariant.running c.loop-c-test.true) state outputs first in
    record {
      running = rw (c.sizes_of-z.ensures, add-one c.loop-c.c, Post-is out (out + (sizes_of s).outputs) c.loop-c.outputs (omega arith))
          (counted_as refl (omega arith) (omega arith) next);
      prepared = done.nets_prepared;
    }

-- no cycle is left
pub returns : goal.returns
returns c =
    let none_left : c.args.k - c.loop-c.c ≡ 0 = omega (arith, c.loop-c-test.false) in
    run_ends (rw none_left at c.loop-c.invariant.running)
