-- A refusal leaves the state and the net bytes, and else they are those of the cycle.
use Rattle.std.proofs.Common.{arith, ◌≡◌, ◌+◌, length, take}
use mathlib.Core.Path.{refl, sym, ap, ◌∙◌}
use lib.ListN.{length-append, length-drop}
use lib.Seq.{length-take-le}
use Rattle.image.specs.declared.image.Sizes.{Sizes}
use Rattle.image.specs.Image.{sizes_of, nets_of}
use Rattle.refusals.proofs.Refusals.{passed, turned}
use Rattle.checking.proofs.Checked.{check_none}
use Rattle.cycle.specs.State.{marked_count}
use Rattle.cycle.specs.Codes.{Low}
use Rattle.cycle.specs.Cycle.{plain, cycle_of}
use Rattle.cycle.specs.Calls.{as_step}
use Rattle.cycle.proofs.Cycles.{low_codes}
use Rattle.cycle.proofs.States.{state_size, put_count}
use Rattle.cycle.proofs.Calls.{lent_ready, worked_low, step_accepted, step_refused, step_none}
use Rattle.tracker.proofs.stepping.step.Goals as goal

pub returns-in_err-step_refusal : goal.returns-in_err-step_refusal
returns-in_err-step_refusal c =
    let back = step_refused _ _ _ _ _ (turned c.step_refusal.result c.step_refusal.ensures c.in_err-step_refusal.was) in
    grind (arith, c.from_residual.ensures, back)

pub sizes_of-z-requires : goal.sizes_of-z-requires
sizes_of-z-requires c = let lent = ((step_none _ _ _ _).0 (passed c.step_refusal.result c.step_refusal.ensures c.in_ok-step_refusal.was)).0 in omega (arith, lent.image.exact)

pub slice_bounds-work_out-end : goal.slice_bounds-work_out-end
slice_bounds-work_out-end c = let lent = ((step_none _ _ _ _).0 (passed c.step_refusal.result c.step_refusal.ensures c.in_ok-step_refusal.was)).0 in rw c.sizes_of-z.ensures (omega (arith, state_size lent.state))

pub slice_bounds-work_out-end-2 : goal.slice_bounds-work_out-end-2
slice_bounds-work_out-end-2 c =
    let lent = ((step_none _ _ _ _).0 (passed c.step_refusal.result c.step_refusal.ensures c.in_ok-step_refusal.was)).0 in
    rw c.sizes_of-z.ensures (sym (length-take-le _ _ (omega (arith, state_size lent.state))))

pub work_out-requires-clause-gate_table : goal.work_out-requires-clause-gate_table
work_out-requires-clause-gate_table c =
    (c.table-t.ensures, (check_none _).1 (((step_none _ _ _ _).0 (passed c.step_refusal.result c.step_refusal.ensures c.in_ok-step_refusal.was)).0).image, ap (λ (z : Sizes). z.nets) c.sizes_of-z.ensures)

pub work_out-requires-clause-row_len : goal.work_out-requires-clause-row_len
work_out-requires-clause-row_len c =
    let sized = (step_none _ _ _ _).0 (passed c.step_refusal.result c.step_refusal.ensures c.in_ok-step_refusal.was) in
    let ready = lent_ready sized.0 in
    rw c.sizes_of-z.ensures (ready.size, ready.registers.size, sized.1)

pub work_out-requires-clause-low : goal.work_out-requires-clause-low
work_out-requires-clause-low c =
    let ready = lent_ready (((step_none _ _ _ _).0 (passed c.step_refusal.result c.step_refusal.ensures c.in_ok-step_refusal.was)).0) in
    rw c.sizes_of-z.ensures (low_codes ready.codes, low_codes ready.registers.codes)

pub verdict_of-verdict-requires-clause-image_value : goal.verdict_of-verdict-requires-clause-image_value
verdict_of-verdict-requires-clause-image_value c = (check_none _).1 (((step_none _ _ _ _).0 (passed c.step_refusal.result c.step_refusal.ensures c.in_ok-step_refusal.was)).0).image

pub verdict_of-verdict-requires-clause-n_value : goal.verdict_of-verdict-requires-clause-n_value
verdict_of-verdict-requires-clause-n_value c =
    let sized = (step_none _ _ _ _).0 (passed c.step_refusal.result c.step_refusal.ensures c.in_ok-step_refusal.was) in
    rw c.sizes_of-z.ensures (refl, c.work_out.auto.nets ∙ sized.1)

pub slice_bounds-clock-end : goal.slice_bounds-clock-end
slice_bounds-clock-end c = let lent = ((step_none _ _ _ _).0 (passed c.step_refusal.result c.step_refusal.ensures c.in_ok-step_refusal.was)).0 in rw c.sizes_of-z.ensures (omega (arith, state_size lent.state))

pub slice_bounds-clock-end-2 : goal.slice_bounds-clock-end-2
slice_bounds-clock-end-2 c =
    let lent = ((step_none _ _ _ _).0 (passed c.step_refusal.result c.step_refusal.ensures c.in_ok-step_refusal.was)).0 in
    rw c.sizes_of-z.ensures (sym (length-take-le _ _ (omega (arith, state_size lent.state))))

pub clock-marked-requires-clause-image_value : goal.clock-marked-requires-clause-image_value
clock-marked-requires-clause-image_value c = (check_none _).1 (((step_none _ _ _ _).0 (passed c.step_refusal.result c.step_refusal.ensures c.in_ok-step_refusal.was)).0).image

pub clock-marked-requires-clause-n_value : goal.clock-marked-requires-clause-n_value
clock-marked-requires-clause-n_value c =
    let sized = (step_none _ _ _ _).0 (passed c.step_refusal.result c.step_refusal.ensures c.in_ok-step_refusal.was) in
    let ready = lent_ready sized.0 in
    let low : Low c.work_out.new.nets = rw (c.work_out.ensures, c.sizes_of-z.ensures) (worked_low ready) in
    rw c.sizes_of-z.ensures (refl, c.work_out.auto.nets ∙ sized.1, ready.registers.size, low)

pub put_u16-requires : goal.put_u16-requires
put_u16-requires c =
    let lent = ((step_none _ _ _ _).0 (passed c.step_refusal.result c.step_refusal.ensures c.in_ok-step_refusal.was)).0 in
    let long : length c.args.state.now ≡ c.sizes_of-z.result.registers + 2 = rw c.sizes_of-z.ensures (state_size lent.state) in
    let clocked : length c.clock-marked.new.state ≡ c.sizes_of-z.result.registers = c.clock-marked.auto.state ∙ length-take-le _ _ (omega (arith, long)) in
    (simp (length-append, length-drop) (omega arith), omega (arith, c.from.ensures, c.clock-marked.type_inv))

pub returns : goal.returns
unfolding cycle_of as_step
returns c =
    let accepted = passed c.step_refusal.result c.step_refusal.ensures c.in_ok-step_refusal.was in
    let lent = ((step_none _ _ _ _).0 accepted).0 in
    let registers : c.sizes_of-z.result.registers ≡ (sizes_of c.args.image.now).registers = ap (λ (z : Sizes). z.registers) c.sizes_of-z.ensures in
    let long : length c.args.state.now ≡ c.sizes_of-z.result.registers + 2 = rw c.sizes_of-z.ensures (state_size lent.state) in
    let clocked : length c.clock-marked.new.state ≡ c.sizes_of-z.result.registers = c.clock-marked.auto.state ∙ length-take-le _ _ (omega (arith, long)) in
    let e = c.clock-marked.ensures in
    rw (c.put_u16.ensures, c.from.ensures, put_count _ _ clocked long (e.value ∙ ap marked_count (sym e.state_after)), e.state_after, c.verdict_of-verdict.ensures, c.work_out.ensures)
    (ap (λ r. as_step (cycle_of plain (nets_of c.args.image.now) c.args.row.now (take r c.args.state.now))) registers ∙ sym (step_accepted _ _ _ _ accepted))
