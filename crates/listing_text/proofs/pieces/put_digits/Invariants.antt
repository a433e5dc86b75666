-- What is left, put behind what stands, gives the whole.
use Rattle.text.proofs.Putting.{Putting}
use Rattle.listing_text.specs.Lines.{digit}
use Rattle.listing_text.proofs.pieces.put_digits.Given as goal

abbrev pub invariant-loop-i : goal.invariant-loop-i
invariant-loop-i l = Putting digit l.bytes l.initial.buffer l.at l.buffer l.i
