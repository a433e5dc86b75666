-- Terms of the contracts of the functions that write groups. No public call's contract uses them.
use Rattle.std.specs.Prelude.{ℕ, ◌+◌, ◌*◌, ◌≤◌, ◌<◌, ◌≡◌, List, length}
use Rattle.large_groups.specs.declared.pair.Pair.{Pair}

-- the two pins that a pin becomes fit a u16
pub record PairFits (p : Pair) : Type 0 where
  pub value : p.value < 65536
  pub mark : p.mark < 65536

-- the buffer d is as long as an image of n nets, and k nets from net v on are among these; there are few enough for the number of each to fit a u16
pub record Room (d : List ℕ) (n v k : ℕ) : Type 0 where
  pub long : length d ≡ 8 + 7 * n
  pub within : v + k ≤ n
  pub few : n ≤ 8192
