-- `cycle::state::count_marked` meets its contract: each mark is 0 or 1, so the sum fits.
use Rattle.std.proofs.Common.{rules, arith}
use Rattle.std.proofs.lemmas.Iterator.{YieldsList-from_slice}
use Rattle.std.proofs.lemmas.Iterator.Adapters.{fits_from_length, at_most_from_yields_List}
use Rattle.cycle.proofs.States.{count_sum}
use Rattle.cycle.proofs.state.count_marked.Goals as goal

pub sum-requires-clause-fits : goal.sum-requires-clause-fits
sum-requires-clause-fits c =
    fits_from_length _ _ 65535 _ (at_most_from_yields_List (YieldsList-from_slice c.args.registers.now cc) (grind arith)) c.map.ensures.closure (omega arith)
    (λ x r q k. search rules)

pub returns : goal.returns
returns c = search (rules, count_sum)
