-- A refusal leaves the state and the outputs, and else the cycles are run.
use Rattle.std.proofs.Common.{arith, ◌≡◌, ◌+◌, ◌<◌, ℕ, List, length, take, drop, ◌++◌}
use mathlib.Core.Path.{sym, ap, ◌∙◌}
use lib.ListN.{length-append, length-drop}
use lib.Seq.{length-take-le, take_at}
use Rattle.gates.specs.Kinds.{REG}
use Rattle.image.specs.declared.image.Sizes.{Sizes}
use Rattle.image.specs.Image.{sizes_of}
use Rattle.refusals.proofs.Refusals.{passed, turned}
use Rattle.checking.proofs.Checked.{few_of}
use Rattle.cycle.specs.State.{marked_count}
use Rattle.cycle.specs.Calls.{counting}
use Rattle.cycle.proofs.States.{state_size, put_count}
use Rattle.cycle.proofs.Calls.{run_refused, run_none}
use Rattle.run_cycles.proofs.PlainRuns.{plain_taken, plain_run}
use Rattle.tracker.proofs.running.run.Goals as goal

pub returns-in_err-run_refusal : goal.returns-in_err-run_refusal
returns-in_err-run_refusal c =
    let back = run_refused _ _ _ _ _ _ (turned c.run_refusal.result c.run_refusal.ensures c.in_err-run_refusal.was) in
    grind (arith, c.from_residual.ensures, back)

pub sizes_of-registers-requires : goal.sizes_of-registers-requires
sizes_of-registers-requires c = let lent = ((run_none _ _ _ _ _).0 (passed c.run_refusal.result c.run_refusal.ensures c.in_ok-run_refusal.was)).0 in omega (arith, lent.image.exact)

pub slice_bounds-cycles-end : goal.slice_bounds-cycles-end
slice_bounds-cycles-end c = let lent = ((run_none _ _ _ _ _).0 (passed c.run_refusal.result c.run_refusal.ensures c.in_ok-run_refusal.was)).0 in rw c.sizes_of-registers.ensures (omega (arith, state_size lent.state))

pub slice_bounds-cycles-end-2 : goal.slice_bounds-cycles-end-2
slice_bounds-cycles-end-2 c =
    let lent = ((run_none _ _ _ _ _).0 (passed c.run_refusal.result c.run_refusal.ensures c.in_ok-run_refusal.was)).0 in
    rw c.sizes_of-registers.ensures (sym (length-take-le _ _ (omega (arith, state_size lent.state))))

pub cycles-first-requires-clause-takes : goal.cycles-first-requires-clause-takes
cycles-first-requires-clause-takes c = rw c.sizes_of-registers.ensures (plain_taken _ _ _ _ _ (passed c.run_refusal.result c.run_refusal.ensures c.in_ok-run_refusal.was)).0

pub cycles-first-requires-clause-k_bound : goal.cycles-first-requires-clause-k_bound
cycles-first-requires-clause-k_bound c = (plain_taken _ _ _ _ _ (passed c.run_refusal.result c.run_refusal.ensures c.in_ok-run_refusal.was)).1

-- a state of R registers and two bytes, in which other registers are put
left_long : (r : ℕ) (left st : List ℕ) → length st ≡ r + 2 → length left ≡ length (take r st) → (length left ≡ r) × (length (left ++ drop r st) ≡ r + 2)
left_long r left st long same =
    let l : length left ≡ r = same ∙ length-take-le _ _ (omega (arith, long)) in
    (l, simp (length-append, length-drop) (omega arith))

pub slice_bounds-count_marked-end : goal.slice_bounds-count_marked-end
slice_bounds-count_marked-end c =
    let lent = ((run_none _ _ _ _ _).0 (passed c.run_refusal.result c.run_refusal.ensures c.in_ok-run_refusal.was)).0 in
    let long : length c.args.state.now ≡ c.sizes_of-registers.result.registers + 2 = rw c.sizes_of-registers.ensures (state_size lent.state) in
    let left = left_long _ _ _ long c.cycles-first.auto.state in
    omega (arith, left.1)

pub slice_bounds-count_marked-end-2 : goal.slice_bounds-count_marked-end-2
slice_bounds-count_marked-end-2 c =
    let lent = ((run_none _ _ _ _ _).0 (passed c.run_refusal.result c.run_refusal.ensures c.in_ok-run_refusal.was)).0 in
    let long : length c.args.state.now ≡ c.sizes_of-registers.result.registers + 2 = rw c.sizes_of-registers.ensures (state_size lent.state) in
    let left = left_long _ _ _ long c.cycles-first.auto.state in
    rw (take_at c.cycles-first.new.state _ _ left.0) (sym left.0)

pub count_marked-marked-requires : goal.count_marked-marked-requires
count_marked-marked-requires c =
    let lent = ((run_none _ _ _ _ _).0 (passed c.run_refusal.result c.run_refusal.ensures c.in_ok-run_refusal.was)).0 in
    let long : length c.args.state.now ≡ c.sizes_of-registers.result.registers + 2 = rw c.sizes_of-registers.ensures (state_size lent.state) in
    let left = left_long _ _ _ long c.cycles-first.auto.state in
    let few : c.sizes_of-registers.result.registers < 65536 = rw c.sizes_of-registers.ensures (omega (arith, lent.image.registers, few_of lent.image REG)) in
    rw (take_at c.cycles-first.new.state _ _ left.0) (omega (arith, left.0, few))

pub put_u16-requires : goal.put_u16-requires
put_u16-requires c =
    let lent = ((run_none _ _ _ _ _).0 (passed c.run_refusal.result c.run_refusal.ensures c.in_ok-run_refusal.was)).0 in
    let long : length c.args.state.now ≡ c.sizes_of-registers.result.registers + 2 = rw c.sizes_of-registers.ensures (state_size lent.state) in
    let left = left_long _ _ _ long c.cycles-first.auto.state in
    (omega (arith, left.1), omega (arith, c.from.ensures, c.count_marked-marked.type_inv))

pub returns : goal.returns
unfolding counting
returns c =
    let accepted = passed c.run_refusal.result c.run_refusal.ensures c.in_ok-run_refusal.was in
    let lent = ((run_none _ _ _ _ _).0 accepted).0 in
    let registers : c.sizes_of-registers.result.registers ≡ (sizes_of c.args.image.now).registers = ap (λ (z : Sizes). z.registers) c.sizes_of-registers.ensures in
    let long : length c.args.state.now ≡ c.sizes_of-registers.result.registers + 2 = rw c.sizes_of-registers.ensures (state_size lent.state) in
    let left = left_long _ _ _ long c.cycles-first.auto.state in
    rw (c.put_u16.ensures, c.from.ensures, put_count c.cycles-first.new.state _ left.0 long (c.count_marked-marked.ensures ∙ ap marked_count (take_at c.cycles-first.new.state _ _ left.0)))
    (ap counting c.cycles-first.ensures ∙ rw registers (plain_run _ _ _ _ _ accepted))
