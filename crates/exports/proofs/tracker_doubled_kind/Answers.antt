-- The number of the answer fits, and is what the definition says.
use Rattle.std.proofs.Common.{arith, ◌^◌, ◌<◌}
use mathlib.Core.Path.{ap, sym, ◌∙◌, subst}
use Rattle.figures.specs.Figures.{Figures}
use Rattle.codes.specs.Codes.{kind_code}
use Rattle.codes.proofs.Small.{answer_fits, kind_answered}
use Rattle.exports.proofs.tracker_doubled_kind.Goals as goal

pub kind_code-requires : goal.kind_code-requires
kind_code-requires c =
    subst (λ (f : Figures). kind_code f c.args.kind < 2 ^ 64) (sym c.doubled_size-d.ensures) (answer_fits (λ n. n) (λ n h. omega arith) (kind_answered _ c.args.kind))

pub returns : goal.returns
returns c = c.kind_code.ensures ∙ ap (λ (f : Figures). kind_code f c.args.kind) c.doubled_size-d.ensures
