-- `lists::lists::list_nets`: at net i, the numbers of the nets of the kind below it stand, and those of the others are left.
use Rattle.std.proofs.Common.{◌-◌}
use Rattle.image.specs.Image.{sizes_of}
use Rattle.cycle.proofs.Filling.{Pass}
use Rattle.lists.proofs.Placing.{places_selected}
use Rattle.lists.proofs.lists.list_nets.Given as goal

abbrev pub invariant-loop-found : goal.invariant-loop-found
invariant-loop-found l = Pass (places_selected l.kind) l.image (sizes_of l.image).nets l.initial.list l.list l.found l.i

abbrev pub decreases-loop-found : goal.decreases-loop-found
decreases-loop-found l = (sizes_of l.image).nets - l.i
