-- `lists::listed::first_listed` meets its contract: a flow stays, and a clear verdict leaves what comes later.
use Rattle.cycle.specs.Cycle.{first_of}
use Rattle.lists.proofs.listed.first_listed.Goals as goal

-- an earlier flow, and none at all
pub returns-in-Flow : goal.returns-in-Flow
unfolding first_of
returns-in-Flow c = rw c.in-Flow.is

pub returns-in-Clear-verdict_listed : goal.returns-in-Clear-verdict_listed
unfolding first_of
returns-in-Clear-verdict_listed c = rw (c.in-Clear.is, ← c.in-Clear-verdict_listed.ensures)

-- a flow of this cycle
pub returns-in-Flow-verdict_listed : goal.returns-in-Flow-verdict_listed
unfolding first_of
returns-in-Flow-verdict_listed c = rw (c.in-Clear.is, ← c.in-Flow-verdict_listed.ensures)
