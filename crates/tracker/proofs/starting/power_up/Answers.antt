-- A refusal leaves the state, and else the registers take their starts.
use Rattle.std.proofs.Common.{arith, ◌≡◌, ◌+◌, length}
use mathlib.Core.Path.{refl, sym, ap, ◌∙◌}
use lib.ListN.{length-append, length-drop}
use lib.Seq.{length-take-le}
use Rattle.refusals.proofs.Refusals.{passed, turned}
use Rattle.checking.proofs.Checked.{check_none}
use Rattle.cycle.specs.State.{marked_count}
use Rattle.cycle.proofs.States.{put_count}
use Rattle.cycle.proofs.Calls.{power_up_accepted, power_up_refused, power_up_none}
use Rattle.cycle_parts.proofs.Starts.{plain_starts}
use Rattle.tracker.proofs.starting.power_up.Goals as goal

pub returns-in_err-power_up_refusal : goal.returns-in_err-power_up_refusal
returns-in_err-power_up_refusal c =
    let back = power_up_refused _ _ _ (turned c.power_up_refusal.result c.power_up_refusal.ensures c.in_err-power_up_refusal.was) in
    grind (arith, c.from_residual.ensures, back)

pub sizes_of-z-requires : goal.sizes_of-z-requires
sizes_of-z-requires c = let ready = (power_up_none _ _).0 (passed c.power_up_refusal.result c.power_up_refusal.ensures c.in_ok-power_up_refusal.was) in omega (arith, ready.0.exact)

pub slice_bounds-take_starts-end : goal.slice_bounds-take_starts-end
slice_bounds-take_starts-end c =
    let ready = (power_up_none _ _).0 (passed c.power_up_refusal.result c.power_up_refusal.ensures c.in_ok-power_up_refusal.was) in
    rw c.sizes_of-z.ensures (omega (arith, ready.1))

pub slice_bounds-take_starts-end-2 : goal.slice_bounds-take_starts-end-2
slice_bounds-take_starts-end-2 c =
    let ready = (power_up_none _ _).0 (passed c.power_up_refusal.result c.power_up_refusal.ensures c.in_ok-power_up_refusal.was) in
    rw c.sizes_of-z.ensures (sym (length-take-le _ _ (omega (arith, ready.1))))

pub take_starts-marked-requires-clause-image_value : goal.take_starts-marked-requires-clause-image_value
take_starts-marked-requires-clause-image_value c = (check_none _).1 ((power_up_none _ _).0 (passed c.power_up_refusal.result c.power_up_refusal.ensures c.in_ok-power_up_refusal.was)).0

pub take_starts-marked-requires-clause-n_value : goal.take_starts-marked-requires-clause-n_value
take_starts-marked-requires-clause-n_value c =
    let ready = (power_up_none _ _).0 (passed c.power_up_refusal.result c.power_up_refusal.ensures c.in_ok-power_up_refusal.was) in
    rw c.sizes_of-z.ensures (refl, length-take-le _ _ (omega (arith, ready.1)))

pub put_u16-requires : goal.put_u16-requires
put_u16-requires c =
    let ready = (power_up_none _ _).0 (passed c.power_up_refusal.result c.power_up_refusal.ensures c.in_ok-power_up_refusal.was) in
    let long : length c.args.state.now ≡ c.sizes_of-z.result.registers + 2 = rw c.sizes_of-z.ensures ready.1 in
    let starts : length c.take_starts-marked.new.state ≡ c.sizes_of-z.result.registers = c.take_starts-marked.auto.state ∙ length-take-le _ _ (omega (arith, long)) in
    (simp (length-append, length-drop) (omega arith), omega (arith, c.from.ensures, c.take_starts-marked.type_inv))

pub returns : goal.returns
returns c =
    let accepted = passed c.power_up_refusal.result c.power_up_refusal.ensures c.in_ok-power_up_refusal.was in
    let long : length c.args.state.now ≡ c.sizes_of-z.result.registers + 2 = rw c.sizes_of-z.ensures ((power_up_none _ _).0 accepted).1 in
    let starts : length c.take_starts-marked.new.state ≡ c.sizes_of-z.result.registers = c.take_starts-marked.auto.state ∙ length-take-le _ _ (omega (arith, long)) in
    let e = c.take_starts-marked.ensures in
    rw (c.put_u16.ensures, c.from.ensures, put_count _ _ starts long (e.value ∙ ap marked_count (sym e.state_after)), e.state_after, plain_starts)
    (sym (power_up_accepted _ _ accepted))
