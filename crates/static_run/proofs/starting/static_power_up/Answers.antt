-- A refusal leaves the state, and else the registers take their starts.
use Rattle.std.proofs.Common.{arith, ◌≡◌, List}
use mathlib.Core.Path.{refl, sym}
use Rattle.image.specs.declared.image.Net.{Net}
use Rattle.refusals.proofs.Refusals.{passed, turned}
use Rattle.checking.proofs.Checked.{check_none}
use Rattle.cycle_parts.specs.Starting.{start_by, starts_by}
use Rattle.static_run.specs.StaticCalls.{static_start, static_starts}
use Rattle.static_run.proofs.StaticRefused.{static_power_up_accepted, static_power_up_refused, static_power_up_none}
use Rattle.static_run.proofs.starting.static_power_up.Goals as goal

pub returns-in_err-static_power_up_refusal : goal.returns-in_err-static_power_up_refusal
returns-in_err-static_power_up_refusal c =
    let back = static_power_up_refused _ _ _ (turned c.static_power_up_refusal.result c.static_power_up_refusal.ensures c.in_err-static_power_up_refusal.was) in
    grind (arith, c.from_residual.ensures, back)

pub sizes_of-requires : goal.sizes_of-requires
sizes_of-requires c = let ready = (static_power_up_none _ _).0 (passed c.static_power_up_refusal.result c.static_power_up_refusal.ensures c.in_ok-static_power_up_refusal.was) in omega (arith, ready.0.exact)

pub take_starts-requires-clause-image_value : goal.take_starts-requires-clause-image_value
take_starts-requires-clause-image_value c = (check_none _).1 ((static_power_up_none _ _).0 (passed c.static_power_up_refusal.result c.static_power_up_refusal.ensures c.in_ok-static_power_up_refusal.was)).0

pub take_starts-requires-clause-n_value : goal.take_starts-requires-clause-n_value
take_starts-requires-clause-n_value c =
    let ready = (static_power_up_none _ _).0 (passed c.static_power_up_refusal.result c.static_power_up_refusal.ensures c.in_ok-static_power_up_refusal.was) in
    rw c.sizes_of.ensures (refl, ready.1)

-- one without a start wakes with 6
wakes_6 : (xs : List Net) → starts_by 6 xs ≡ static_starts xs
unfolding starts_by start_by static_starts static_start
wakes_6 xs = refl

pub returns : goal.returns
returns c =
    rw (c.take_starts.ensures.state_after, wakes_6) (sym (static_power_up_accepted _ _ (passed c.static_power_up_refusal.result c.static_power_up_refusal.ensures c.in_ok-static_power_up_refusal.was)))
