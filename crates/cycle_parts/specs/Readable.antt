-- Terms of the contracts of the pass over all nets: what it asks of the bytes that it reads. No public call's contract uses them.
use Rattle.std.specs.Prelude.{ℕ, ◌≤◌, ◌<◌, ◌≡◌, List, length, get_or, take, drop}
use Rattle.std.proofs.Math.Option.{none}
use Rattle.gates.specs.Kinds.{INPUT, REG}
use Rattle.image.specs.Image.{kind_at, net_at}
use Rattle.net_checking.specs.NetCheck.{net_refusal}
use Rattle.cycle.specs.Cycle.{Walk}

-- a cycle's walk at net i: the bytes of the nets below it, and the row and state bytes that no net has taken yet
abbrev pub walk_at : (row state nets : List ℕ) (i inputs registers : ℕ) → Walk
walk_at row state nets i inputs registers = record { bytes = take i nets; row = drop inputs row; state = drop registers state }

-- net i can be worked out: it passes checking, its row byte or state byte is there, and every byte that a pin may read is 0 to 3.
-- Operand b of an OUT is its policy, 0 or 1, and no pin. It is read as a pin is, so net 1 stands at 0 until it is worked out.
pub record Readable (s : List ℕ) (n : ℕ) (row state nets : List ℕ) (i inputs registers : ℕ) : Type 0 where
  pub passes : net_refusal n i (net_at s n i) ≡ none
  pub input : kind_at s i ≡ INPUT → inputs < length row
  pub register : kind_at s i ≡ REG → registers < length state
  pub codes : (j : ℕ) → j < i → get_or nets j 0 < 4
  pub second : i ≤ 1 → get_or nets 1 0 ≡ 0
