-- A term of the contracts of the parts of a cycle. No public call's contract uses it.
use Rattle.std.specs.Prelude.{ℕ, ◌<◌, List, get_or}

-- every byte is 0 to 3
pub record Low (bs : List ℕ) : Type 0 where
  pub low : (i : ℕ) → get_or bs i 0 < 4
