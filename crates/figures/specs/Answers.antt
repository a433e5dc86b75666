-- The answer of the code, read in document 01's terms.
use Rattle.refusals.specs.Refusals.{refusal_in}
use Rattle.figures.specs.declared.answer.DoubledSize.{DoubledSize}
use Rattle.figures.specs.Figures.{Figures}

abbrev pub figures : DoubledSize → Figures
figures d = record { refusal = refusal_in d.outcome; nets = d.nets; bytes = d.bytes; kinds = d.kinds }
