-- `lists::listed::put_bytes`: at j, the first j of the listed nets have taken their bytes.
use Rattle.lists.specs.Lists.{Put}
use Rattle.lists.proofs.listed.put_bytes.Given as goal

abbrev pub invariant-loop-j : goal.invariant-loop-j
invariant-loop-j l = Put l.width l.list l.bytes l.initial.nets l.nets l.j
