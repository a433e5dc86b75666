-- `lists::listed::verdict_listed` meets its contract: the net at hand decides, or leaves the verdict to those after it.
use Rattle.std.proofs.Common.{sym, ◌∙◌}
use Rattle.lists.proofs.Placing.{marked_next, marked_done}
use Rattle.lists.proofs.listed.verdict_listed.Goals as goal

pub returns-then-marked : goal.returns-then-marked
returns-then-marked c =
    let step = c.loop-net.invariant.0 ∙ marked_next c.args.list.now c.args.nets.now c.loop-net.net-index c.loop-net-test.true in
    sym (rw (← c.from-i.ensures, ← c.marked.ensures, c.if-marked.true) at step)

pub loop-net-preserved : goal.loop-net-preserved
loop-net-preserved c =
    let step = c.loop-net.invariant.0 ∙ marked_next c.args.list.now c.args.nets.now c.loop-net.net-index c.loop-net-test.true in
    (rw (← c.from-i.ensures, ← c.marked.ensures, c.if-marked.false) at step, c.loop-net.invariant.1)

pub returns-after-loop-net : goal.returns-after-loop-net
returns-after-loop-net c = c.loop-net.invariant.1 ∙ sym (c.loop-net.invariant.0 ∙ marked_done c.args.list.now c.args.nets.now c.loop-net.net-index c.loop-net-test.false)
