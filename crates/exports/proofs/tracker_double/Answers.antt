-- The number of the answer fits, and what the call leaves is what the definition says.
use mathlib.Core.Path.{ap, ◌∙◌}
use Rattle.doubling.specs.Doubling.{Doubling}
use Rattle.codes.specs.Codes.{outcome_code}
use Rattle.codes.proofs.Given.{doubled_given}
use Rattle.codes.proofs.Small.{outcome_fits}
use Rattle.exports.proofs.tracker_double.Goals as goal

pub outcome_code-requires : goal.outcome_code-requires
outcome_code-requires c = rw (ap (λ (p : Doubling). p.refusal) c.double.ensures) (outcome_fits (doubled_given _ _))

pub returns-clause-value : goal.returns-clause-value
returns-clause-value c = c.outcome_code.ensures ∙ ap (λ (p : Doubling). outcome_code p.refusal) c.double.ensures

pub returns-clause-buffer_after : goal.returns-clause-buffer_after
returns-clause-buffer_after c = ap (λ (p : Doubling). p.buffer) c.double.ensures
