-- What one static run says, in bytes alone; and what static power-up leaves, register by register.
use Rattle.std.specs.Prelude.{ℕ, ◌/◌, ◌%◌, ◌≤◌, ◌<◌, ◌≡◌, List, length, get_or}
use Rattle.std.proofs.Math.Option.{none}
use Rattle.gates.specs.Kinds.{REG}
use Rattle.image.specs.Image.{sizes_of}
use Rattle.checking.specs.Check.{check_refusal}
use Rattle.cycle.specs.State.{with_count}
use Rattle.cycle.specs.Calls.{Ran, run_of}
use Rattle.static_run.specs.StaticCalls.{static_power_up_of, static_run_of}
use Rattle.claims.specs.NetBytes.{net_of, Counted}
use Rattle.claims.specs.PowerUp.{Wakes}
use Rattle.claims.specs.InBytes.{clear_after}

-- bytes that fill codes: the code itself where it is 0 to 3, either value where it is 4, trusted, or 6, untrusted; there is no other code
pub record FilledBy (codes bytes : List ℕ) : Type 0 where
  pub size : length codes ≡ length bytes
  pub codes_are : (i : ℕ) → i < length codes → (get_or codes i 0 ≡ 5 → ⊥) × (get_or codes i 0 ≤ 6)
  pub known : (i : ℕ) → i < length codes → get_or codes i 0 ≤ 3 → get_or bytes i 0 ≡ get_or codes i 0
  pub unknown_trusted : (i : ℕ) → i < length codes → get_or codes i 0 ≡ 4 → get_or bytes i 0 ≤ 1
  pub unknown_untrusted : (i : ℕ) → i < length codes → get_or codes i 0 ≡ 6 → (2 ≤ get_or bytes i 0) × (get_or bytes i 0 ≤ 3)

-- bytes that codes tell of: a known value is that of the byte, and where the code is unmarked, which 4 is too, so is the byte. Every code is one, and every byte 0 to 3
pub record ToldBy (codes bytes : List ℕ) : Type 0 where
  pub size : length codes ≡ length bytes
  pub codes_are : (i : ℕ) → i < length codes → (get_or codes i 0 ≡ 5 → ⊥) × (get_or codes i 0 ≤ 6)
  pub bytes_are : (i : ℕ) → i < length codes → get_or bytes i 0 ≤ 3
  pub values : (i : ℕ) → i < length codes → get_or codes i 0 ≤ 3 → get_or bytes i 0 % 2 ≡ get_or codes i 0 % 2
  pub marks : (i : ℕ) → i < length codes → get_or codes i 0 / 2 % 2 ≡ 0 → get_or bytes i 0 / 2 ≡ 0

-- a state whose register bytes the codes of a static state tell of, with their count behind them
pub record ToldState (codes st : List ℕ) : Type 0 where
  pub registers : List ℕ
  pub told : ToldBy codes registers
  pub state : st ≡ with_count registers

-- a static run o of k cycles that is clear, and a concrete run o': it is clear too, and its outputs and its last state are as the codes tell
pub record ClearToo (k : ℕ) (o o' : Ran) : Type 0 where
  pub answer : o'.answer ≡ clear_after k
  pub outputs : ToldBy o.outputs o'.outputs
  pub state : ToldState o.state o'.state

-- a clear static run makes every run clear that fills its rows, from every state that its state tells of: from one that fills it, from one with which the array may wake, and
-- from one that such a run has left. Proved as `static_clear`
pub record StaticClear : Type 0 where
  pub run :
      (s st st' : List ℕ) (k : ℕ) (codes rows b b' : List ℕ)
      → ToldState st st' → FilledBy codes rows → length b ≡ length b'
      → (static_run_of s st k codes b).answer ≡ clear_after k
      → ClearToo k (static_run_of s st k codes b) (run_of s st' k rows b')
  pub fills : (codes bytes : List ℕ) → FilledBy codes bytes → ToldBy codes bytes
  pub wakes : (s a st : List ℕ) → (static_power_up_of s a).refusal ≡ none → Wakes s st → ToldState (static_power_up_of s a).state st

-- POWER-UP. "a static power-up sets a register with start 2 to 6, others as before": R codes, and for the register of net i the one of its start, whatever the state held
pub record StaticPowerUp (s st : List ℕ) : Type 0 where
  pub done : (static_power_up_of s st).refusal ≡ none
  pub size : length (static_power_up_of s st).state ≡ (sizes_of s).registers
  pub start_0 : (i : ℕ) → i < (sizes_of s).nets → (net_of s i).kind ≡ REG → (net_of s i).b ≡ 0 → Counted REG s i (static_power_up_of s st).state 0
  pub start_1 : (i : ℕ) → i < (sizes_of s).nets → (net_of s i).kind ≡ REG → (net_of s i).b ≡ 1 → Counted REG s i (static_power_up_of s st).state 1
  pub none_given : (i : ℕ) → i < (sizes_of s).nets → (net_of s i).kind ≡ REG → (net_of s i).b ≡ 2 → Counted REG s i (static_power_up_of s st).state 6

-- proved as `static_starts_lem`
abbrev pub StaticPowerUpAll : Type 0
StaticPowerUpAll = (s st : List ℕ) → check_refusal s ≡ none → length st ≡ (sizes_of s).registers → StaticPowerUp s st
