-- `net_checking::limits::held` meets its contract: each place of the table is one of five, with the limit behind it.
use Rattle.std.proofs.Common.{◌<◌, List, ℕ, ◌≡◌, get_or, arith}
use Rattle.net_checking.specs.Limits.{limit_places}
use Rattle.net_checking.proofs.Below.{place_small}
use Rattle.net_checking.proofs.limits.held.Goals as goal

-- a place that is read
place : (places : List ℕ) (p : ℕ) → places ≡ limit_places → p < 27 → get_or places p 0 < 9
place places p are within = rw are (place_small _ within)

pub bounds-limits-k : goal.bounds-limits-k
bounds-limits-k c = omega (arith, place _ _ c.requires.0 c.requires.1)

pub bounds-limits-k-2 : goal.bounds-limits-k-2
bounds-limits-k-2 c = omega (arith, place _ _ c.requires.0 c.requires.1)
