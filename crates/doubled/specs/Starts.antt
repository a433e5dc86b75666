-- A term of the contracts between functions that double. No public call's contract uses it.
use Rattle.std.specs.Prelude.{ℕ, ◌≤◌, ◌≡◌, List, get_or}
use Rattle.image.specs.declared.image.Net.{Net}
use Rattle.doubled.specs.Doubled.{value_net}

-- where the group of each net begins; behind the last net, the doubled size
abbrev pub Starts : List ℕ → List Net → Type 0
Starts t xs = (i : ℕ) → i ≤ 8192 → get_or t i 0 ≡ value_net xs i
