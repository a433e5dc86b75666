-- The number of the answer fits, and what the call leaves is what the definition says.
use mathlib.Core.Path.{ap, ◌∙◌}
use Rattle.cycle.specs.Calls.{PoweredUp}
use Rattle.codes.specs.Codes.{outcome_code}
use Rattle.codes.proofs.Given.{powered_up_given}
use Rattle.codes.proofs.Small.{outcome_fits}
use Rattle.exports.proofs.tracker_power_up.Goals as goal

pub outcome_code-requires : goal.outcome_code-requires
outcome_code-requires c = rw (ap (λ (p : PoweredUp). p.refusal) c.power_up.ensures) (outcome_fits (powered_up_given _ _))

pub returns-clause-value : goal.returns-clause-value
returns-clause-value c = c.outcome_code.ensures ∙ ap (λ (p : PoweredUp). outcome_code p.refusal) c.power_up.ensures

pub returns-clause-state_after : goal.returns-clause-state_after
returns-clause-state_after c = ap (λ (p : PoweredUp). p.state) c.power_up.ensures
