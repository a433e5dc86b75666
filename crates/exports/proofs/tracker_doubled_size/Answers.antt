-- The number of the answer fits, and is what the definition says.
use Rattle.std.proofs.Common.{arith, ◌^◌, ◌<◌}
use mathlib.Core.Path.{ap, sym, ◌∙◌, subst}
use Rattle.figures.specs.Figures.{Figures}
use Rattle.codes.specs.Codes.{size_code}
use Rattle.codes.proofs.Small.{answer_fits, size_answered}
use Rattle.exports.proofs.tracker_doubled_size.Goals as goal

pub figure_code-requires : goal.figure_code-requires
figure_code-requires c =
    subst (λ (f : Figures). size_code f < 2 ^ 64) (sym c.doubled_size-d.ensures) (answer_fits (λ n. n) (λ n h. omega arith) (size_answered _))

pub returns : goal.returns
returns c = c.figure_code.ensures ∙ ap size_code c.doubled_size-d.ensures
