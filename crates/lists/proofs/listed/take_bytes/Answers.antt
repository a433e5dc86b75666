-- `lists::listed::take_bytes` meets its contract: all listed nets then have their bytes.
use Rattle.std.proofs.Common.{get_or, arith}
use Rattle.lists.proofs.Placing.{gathered_by}
use Rattle.lists.proofs.listed.take_bytes.Goals as goal

pub returns : goal.returns
returns c =
    gathered_by (λ i. get_or c.args.nets.now i 0) c.args.list.now c.loop-j.bytes (omega arith) (λ k h. c.loop-j.invariant k (omega arith))
