-- A refusal leaves the state and the outputs, and else the cycles are run.
use Rattle.std.proofs.Common.{arith}
use mathlib.Core.Path.{◌∙◌}
use Rattle.refusals.proofs.Refusals.{passed, turned}
use Rattle.static_run.proofs.StaticRefused.{static_refused, static_taken, static_ran}
use Rattle.static_run.proofs.running.static_run.Goals as goal

pub returns-in_err-static_run_refusal : goal.returns-in_err-static_run_refusal
returns-in_err-static_run_refusal c =
    let back = static_refused _ _ _ _ _ _ (turned c.static_run_refusal.result c.static_run_refusal.ensures c.in_err-static_run_refusal.was) in
    grind (arith, c.from_residual.ensures, back)

pub cycles-requires-clause-takes : goal.cycles-requires-clause-takes
cycles-requires-clause-takes c = (static_taken _ _ _ _ _ (passed c.static_run_refusal.result c.static_run_refusal.ensures c.in_ok-static_run_refusal.was)).0

pub cycles-requires-clause-k_bound : goal.cycles-requires-clause-k_bound
cycles-requires-clause-k_bound c = (static_taken _ _ _ _ _ (passed c.static_run_refusal.result c.static_run_refusal.ensures c.in_ok-static_run_refusal.was)).1

pub returns : goal.returns
returns c = c.cycles.ensures ∙ static_ran _ _ _ _ _ (passed c.static_run_refusal.result c.static_run_refusal.ensures c.in_ok-static_run_refusal.was)
