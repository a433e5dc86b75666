-- `lists::listed::clock_listed`: at j, the bytes of the first j listed nets stand.
use Rattle.std.proofs.Common.{◌≡◌, ℕ, ◌<◌, get_or}
use Rattle.image.specs.Image.{sizes_of, operand_at}
use Rattle.lists.proofs.listed.clock_listed.Given as goal

abbrev pub invariant-loop-j : goal.invariant-loop-j
invariant-loop-j l = (k : ℕ) → k < l.j → get_or l.state k 0 ≡ get_or l.nets (operand_at l.image (sizes_of l.image).nets (get_or l.list k 0) 0) 0
