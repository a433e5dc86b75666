-- `lists::lists::list_protected`: the protected ones of the OUTs that were passed are listed.
use Rattle.std.proofs.Common.{◌≡◌, ◌≤◌, take}
use Rattle.lists.specs.Lists.{protected_of}
use Rattle.lists.proofs.lists.list_protected.Given as goal

abbrev pub invariant-loop-i : goal.invariant-loop-i
invariant-loop-i l = record { few : l.found ≤ l.i-index; are : take l.found l.list ≡ protected_of l.image (take l.i-index l.outs) }
