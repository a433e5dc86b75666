-- Each turn takes at most 64 rows, and leaves what the next one asks.
use Rattle.std.proofs.Common.{◌≡◌, false}
use Rattle.pages.proofs.AllTurns.{Holds}
use Rattle.pages.proofs.printing.take_input.Given as goal

abbrev pub invariant-loop-turn : goal.invariant-loop-turn
invariant-loop-turn g l = l.p.failed ≡ false → Holds l.image l.inputs l.outs l.state l.outputs l.text l._turn l.p
