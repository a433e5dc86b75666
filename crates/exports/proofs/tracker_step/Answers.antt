-- The number of the answer fits, and what the call leaves is what the definition says.
use mathlib.Core.Path.{ap, ◌∙◌}
use native.Mathlib.Omega.{arith}
use Rattle.cycle.specs.Calls.{Stepped}
use Rattle.codes.specs.Codes.{verdict_code, answer_code}
use Rattle.codes.proofs.Small.{answer_fits, step_answered, naming_small}
use Rattle.exports.proofs.tracker_step.Goals as goal

pub step_code-requires : goal.step_code-requires
step_code-requires c = rw (ap (λ (d : Stepped). d.answer) c.step.ensures) (answer_fits verdict_code (λ v h. omega (arith, naming_small v h)) (step_answered _ _ _ _))

pub returns-clause-value : goal.returns-clause-value
returns-clause-value c = c.step_code.ensures ∙ ap (λ (d : Stepped). answer_code verdict_code d.answer) c.step.ensures

pub returns-clause-state_after : goal.returns-clause-state_after
returns-clause-state_after c = ap (λ (d : Stepped). d.state) c.step.ensures

pub returns-clause-nets_after : goal.returns-clause-nets_after
returns-clause-nets_after c = ap (λ (d : Stepped). d.nets) c.step.ensures
