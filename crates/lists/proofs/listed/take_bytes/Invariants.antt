-- `lists::listed::take_bytes`: at j, the bytes of the first j listed nets stand.
use Rattle.std.proofs.Common.{◌≡◌, ℕ, ◌<◌, get_or}
use Rattle.lists.proofs.listed.take_bytes.Given as goal

abbrev pub invariant-loop-j : goal.invariant-loop-j
invariant-loop-j l = (k : ℕ) → k < l.j → get_or l.bytes k 0 ≡ get_or l.nets (get_or l.list k 0) 0
