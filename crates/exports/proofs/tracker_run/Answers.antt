-- The number of the answer fits, and what the call leaves is what the definition says.
use mathlib.Core.Path.{ap, ◌∙◌}
use Rattle.cycle.specs.Calls.{Ran}
use Rattle.codes.specs.Codes.{first_flow_code, answer_code}
use Rattle.codes.proofs.Small.{answer_fits, run_answered, among_small}
use Rattle.exports.proofs.tracker_run.Goals as goal

pub run_code-requires : goal.run_code-requires
run_code-requires c = rw (ap (λ (d : Ran). d.answer) c.run.ensures) (answer_fits first_flow_code among_small (run_answered _ _ _ _ _))

pub returns-clause-value : goal.returns-clause-value
returns-clause-value c = c.run_code.ensures ∙ ap (λ (d : Ran). answer_code first_flow_code d.answer) c.run.ensures

pub returns-clause-state_after : goal.returns-clause-state_after
returns-clause-state_after c = ap (λ (d : Ran). d.state) c.run.ensures

pub returns-clause-outputs_after : goal.returns-clause-outputs_after
returns-clause-outputs_after c = ap (λ (d : Ran). d.outputs) c.run.ensures
