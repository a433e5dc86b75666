-- The run's answer decides whether all rows are good, or those before a bad byte's row.
use Rattle.std.proofs.Common.{arith, sym, length-take-le}
use Rattle.row_runs.proofs.Answering.{all_run, good_there, good_room, good_run}
use Rattle.row_runs.proofs.running.run_rows.Goals as goal

pub overflow_mul-filled : goal.overflow_mul-filled
overflow_mul-filled c =
    record { fits = omega (arith, good_room c.requires c.run.ensures c.in-Err.is, c.run.auto.outputs, c.well_formed) }

pub slice_bounds-run-end : goal.slice_bounds-run-end
slice_bounds-run-end c = sym (length-take-le _ _ (good_there c.requires c.run.ensures c.in-Err.is))

pub slice_bounds-run-end-in-Err : goal.slice_bounds-run-end-in-Err
slice_bounds-run-end-in-Err c = good_room c.requires c.run.ensures c.in-Err.is

pub slice_bounds-run-end-in-Err-2 : goal.slice_bounds-run-end-in-Err-2
slice_bounds-run-end-in-Err-2 c = sym (length-take-le _ _ (good_room c.requires c.run.ensures c.in-Err.is))

pub returns-in-Ok : goal.returns-in-Ok
returns-in-Ok c = all_run c.requires c.run.ensures c.in-Ok.is

pub returns-in-Err : goal.returns-in-Err
returns-in-Err c =
    good_run c.requires c.run.ensures c.in-Err.is c.run-in-Err.result c.run-in-Err.ensures c.refused-outcome.result c.refused-outcome.ensures
