-- The number of the answer fits, and what the call leaves is what the definition says.
use mathlib.Core.Path.{ap, ◌∙◌}
use Rattle.paging.specs.Paging.{Paged}
use Rattle.codes.specs.Codes.{page_code}
use Rattle.codes.proofs.Given.{page_given}
use Rattle.codes.proofs.Small.{page_fits}
use Rattle.exports.proofs.tracker_page.Goals as goal

pub page_code-requires : goal.page_code-requires
page_code-requires c = rw (ap (λ (p : Paged). p.refusal) c.page.ensures) (page_fits (page_given _ _ _ _))

pub returns-clause-value : goal.returns-clause-value
returns-clause-value c = c.page_code.ensures ∙ ap (λ (p : Paged). page_code p.refusal) c.page.ensures

pub returns-clause-page_after : goal.returns-clause-page_after
returns-clause-page_after c = ap (λ (p : Paged). p.page) c.page.ensures
