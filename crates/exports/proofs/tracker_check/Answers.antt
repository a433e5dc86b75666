-- The number of the answer fits, and what the call leaves is what the definition says.
use mathlib.Core.Path.{ap, ◌∙◌}
use Rattle.codes.specs.Codes.{outcome_code}
use Rattle.codes.proofs.Given.{check_given}
use Rattle.codes.proofs.Small.{outcome_fits}
use Rattle.exports.proofs.tracker_check.Goals as goal

pub outcome_code-requires : goal.outcome_code-requires
outcome_code-requires c = rw c.check.ensures (outcome_fits (check_given _))

pub returns : goal.returns
returns c = c.outcome_code.ensures ∙ ap outcome_code c.check.ensures
