-- Marks are exact within one cycle (document 02, L5): "whenever no marked input or register reaches a net along two different ways, that net is marked exactly if other values of the
-- marked inputs and registers would change it." A byte is value + 2 × mark, so x % 2 is its value and x / 2 its mark.
use Rattle.std.specs.Prelude.{ℕ, ◌/◌, ◌%◌, ◌≤◌, ◌<◌, ◌↔◌, ◌≡◌, List, get_or}
use Rattle.std.proofs.Math.Option.{none}
use Rattle.gates.specs.Kinds.{INPUT, REG}
use Rattle.gates.specs.Relations.{Agree}
use Rattle.image.specs.Image.{sizes_of, nets_of}
use Rattle.checking.specs.Check.{check_refusal}
use Rattle.cycle.specs.Cycle.{plain, cycle_of}
use Rattle.claims.specs.Reading.{net_of}
use Rattle.claims.specs.Accepted.{AcceptedRegisters, AcceptedRows}
use Rattle.claims.specs.Ways.{ways}

-- the byte of net i in a cycle with this row and these register bytes, which are all of the state that a cycle sees
abbrev pub byte_of : (s row st : List ℕ) (i : ℕ) → ℕ
byte_of s row st i = get_or (cycle_of plain (nets_of s) row st).bytes i 0

-- no marked input or register reaches net i along two different ways: it has no reconvergent fan-out there
pub record NoReconvergence (s row st : List ℕ) (i : ℕ) : Type 0 where
  pub inputs : (j : ℕ) → (net_of s j).kind ≡ INPUT → byte_of s row st j / 2 ≡ 1 → ways s j i ≤ 1
  pub registers : (j : ℕ) → (net_of s j).kind ≡ REG → byte_of s row st j / 2 ≡ 1 → ways s j i ≤ 1

-- other values of the marked inputs and registers, all chosen together, change net i: with a row and a state that agree with these, in marks and in unmarked values, it has another value
pub record Change (s row st : List ℕ) (i : ℕ) : Type 0 where
  pub other_row : List ℕ
  pub other_state : List ℕ
  pub rows : Agree row other_row
  pub states : Agree st other_state
  pub changed : byte_of s other_row other_state i % 2 ≡ byte_of s row st i % 2 → ⊥

-- every net of an accepted image, in a cycle with any accepted row and register bytes; proved as `exactness`. That what changes is marked holds of every net (`steps_agree`)
abbrev pub Exactness : Type 0
Exactness =
    (s row st : List ℕ) → check_refusal s ≡ none → AcceptedRows (sizes_of s).inputs row → AcceptedRegisters s st
    → (i : ℕ) → i < (sizes_of s).nets → NoReconvergence s row st i → (byte_of s row st i / 2 ≡ 1) ↔ Change s row st i
