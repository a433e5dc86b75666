-- Power-up, register by register; and the states with which an array may wake.
use Rattle.std.specs.Prelude.{ℕ, ◌<◌, ◌≡◌, List, length, get_or}
use Rattle.std.proofs.Math.Option.{none}
use Rattle.gates.specs.Kinds.{REG}
use Rattle.image.specs.Image.{sizes_of}
use Rattle.checking.specs.Check.{check_refusal}
use Rattle.cycle.specs.State.{state_length, registers_in}
use Rattle.cycle.specs.Calls.{power_up_of}
use Rattle.claims.specs.Accepted.{RightCount}
use Rattle.claims.specs.NetBytes.{net_of, place_of, Counted}

-- "each register takes its start value [..] with mark 0" (document 01), but "a register with start 2 powers up with value 0 and mark 1" (document 02, L2):
-- R + 2 bytes, and for the register of net i the one of its start, whatever the state held. What stands behind the registers is said in CountKept
pub record Starts (s st : List ℕ) : Type 0 where
  pub done : (power_up_of s st).refusal ≡ none
  pub size : length (power_up_of s st).state ≡ state_length (sizes_of s)
  pub start_0 : (i : ℕ) → i < (sizes_of s).nets → (net_of s i).kind ≡ REG → (net_of s i).b ≡ 0 → Counted REG s i (registers_in s (power_up_of s st).state) 0
  pub start_1 : (i : ℕ) → i < (sizes_of s).nets → (net_of s i).kind ≡ REG → (net_of s i).b ≡ 1 → Counted REG s i (registers_in s (power_up_of s st).state) 1
  pub none_given : (i : ℕ) → i < (sizes_of s).nets → (net_of s i).kind ≡ REG → (net_of s i).b ≡ 2 → Counted REG s i (registers_in s (power_up_of s st).state) 2

-- proved as `power_up_starts`
abbrev pub PowerUpStarts : Type 0
PowerUpStarts = (s st : List ℕ) → check_refusal s ≡ none → length st ≡ state_length (sizes_of s) → Starts s st

-- what a register may hold when the array wakes, by its start: that value, trusted; where none is given, either value, marked
pub data WakesWith : (start byte : ℕ) → Type 0 where
  zero : WakesWith 0 0
  one : WakesWith 1 1
  unknown_0 : WakesWith 2 2
  unknown_1 : WakesWith 2 3

-- a state with which an array of s may wake: such a byte for each register, and behind these their count
pub record Wakes (s st : List ℕ) : Type 0 where
  pub size : length st ≡ state_length (sizes_of s)
  pub count : RightCount s st
  pub register : (i : ℕ) → i < (sizes_of s).nets → (net_of s i).kind ≡ REG → WakesWith (net_of s i).b (get_or st (place_of REG s i) 0)
