-- What a static run says of concrete runs (document 02, L4): "A clear static verdict means that each concrete run which fills the unknowns, cycle by cycle, is clear, and known
-- values are its values."
use Rattle.std.specs.Prelude.{ℕ, ◌+◌, ◌≡◌, length}
use mathlib.Core.List.{List, [], ◌∷◌, Forall₂}
use Rattle.std.proofs.Math.Option.{none}
use Rattle.unknowns.specs.Covering.{CoversAll}
use Rattle.image.specs.Image.{sizes_of, nets_of}
use Rattle.cycle.specs.State.{with_count, registers_in}
use Rattle.cycle.specs.Cycle.{clear, plain, Cycle, cycles_of}
use Rattle.cycle.specs.Calls.{done, power_up_of, run_refusal, run_of}
use Rattle.static_run.specs.StaticCalls.{static, static_power_up_of, static_run_refusal, static_run_of}
use Rattle.claims.specs.PowerUp.{Wakes}

-- a static cycle c and a concrete one d: every net, output and register byte is covered, and where the static verdict is clear the concrete one is
pub record CoversCycle (c d : Cycle) : Type 0 where
  pub nets : CoversAll c.bytes d.bytes
  pub verdict : c.verdict ≡ clear → d.verdict ≡ clear
  pub outputs : CoversAll c.outputs d.outputs
  pub state : CoversAll c.state d.state

-- a static state, R codes, is compared with the register bytes of a concrete one: it covers these, and behind them stands their count
pub record CoversState (codes st : List ℕ) : Type 0 where
  pub registers : List ℕ
  pub covered : CoversAll codes registers
  pub state : st ≡ with_count registers

-- a static run on the image s from a state st, with the rows `codes` and the lent buffer b; and a concrete one from st', with `rows` and b'
module _ (s st st' : List ℕ) (k : ℕ) (codes rows b b' : List ℕ) where
  -- both are accepted: what the static run says of each cycle, of the outputs, and of the answer
  pub record SoundCycles : Type 0 where
    pub cycles : Forall₂ CoversCycle (cycles_of static (nets_of s) (sizes_of s).inputs k codes st) (cycles_of plain (nets_of s) (sizes_of s).inputs k rows (registers_in s st'))
    pub outputs : CoversAll (static_run_of s st k codes b).outputs (run_of s st' k rows b').outputs
    pub clears :
        {n : ℕ} → (static_run_of s st k codes b).answer ≡ done (record { cycle = n; verdict = clear })
        → (run_of s st' k rows b').answer ≡ done (record { cycle = n; verdict = clear })

  -- in any case: both meet the same refusal, or none, and leave states of which the first covers the second
  pub record SoundRun : Type 0 where
    pub refusal : static_run_refusal s st k codes b ≡ run_refusal s st' k rows b'
    pub accepted : static_run_refusal s st k codes b ≡ none → SoundCycles
    pub state : CoversState (static_run_of s st k codes b).state (run_of s st' k rows b').state

-- from any states, with any rows, of which the first cover the second, and buffers equally long; proved as `static_sound`
abbrev pub StaticSound : Type 0
StaticSound =
    (s st st' : List ℕ) (k : ℕ) (codes rows b b' : List ℕ) → CoversState st st' → CoversAll codes rows → length b ≡ length b'
    → SoundRun s st st' k codes rows b b'

-- POWER-UP, where the states held a, and a' of two bytes more, before: the same refusal, or none; and the static state covers the concrete one, and every state with which
-- the array may wake
pub record SoundPowerUp (s a a' : List ℕ) : Type 0 where
  pub refusal : (static_power_up_of s a).refusal ≡ (power_up_of s a').refusal
  pub state : (power_up_of s a').refusal ≡ none → CoversState (static_power_up_of s a).state (power_up_of s a').state
  pub wakes : (power_up_of s a').refusal ≡ none → (st : List ℕ) → Wakes s st → CoversState (static_power_up_of s a).state st

-- proved as `static_wakes`
abbrev pub StaticWakes : Type 0
StaticWakes = (s a a' : List ℕ) → length a' ≡ length a + 2 → SoundPowerUp s a a'

-- LISTS OF RUNS, each taking the state that the last one left. A static run and a concrete one, of equally many cycles, each with its rows and the buffer that it is lent
pub record RunPair : Type 0 where
  pub k : ℕ
  pub codes : List ℕ
  pub rows : List ℕ
  pub outputs : List ℕ
  pub outputs' : List ℕ

-- the codes cover the rows, and the buffers are equally long
pub data AllCovered : List RunPair → Type 0 where
  no_more : AllCovered []
  one_more : {r : RunPair} {rs : List RunPair} → CoversAll r.codes r.rows → length r.outputs ≡ length r.outputs' → AllCovered rs → AllCovered (r ∷ rs)

-- at every place, both from the states that those before left
pub data SoundRuns (s : List ℕ) : (st st' : List ℕ) → List RunPair → Type 0 where
  nil : {st st' : List ℕ} → SoundRuns s st st' []
  cons :
      {st st' : List ℕ} {r : RunPair} {rs : List RunPair} → SoundRun s st st' r.k r.codes r.rows r.outputs r.outputs'
      → SoundRuns s (static_run_of s st r.k r.codes r.outputs).state (run_of s st' r.k r.rows r.outputs').state rs
      → SoundRuns s st st' (r ∷ rs)

-- from covered states, and from power-up: against a power-up of the array, and against every state with which it may wake
pub record SoundFromAll (s : List ℕ) (rs : List RunPair) : Type 0 where
  pub covered : (st st' : List ℕ) → CoversState st st' → SoundRuns s st st' rs
  pub from_power_up_lem :
      (a a' : List ℕ) → length a' ≡ length a + 2 → (power_up_of s a').refusal ≡ none
      → SoundRuns s (static_power_up_of s a).state (power_up_of s a').state rs
  pub from_wakes :
      (a st : List ℕ) → (static_power_up_of s a).refusal ≡ none → Wakes s st
      → SoundRuns s (static_power_up_of s a).state st rs

-- proved as `static_runs`
abbrev pub StaticRuns : Type 0
StaticRuns = (s : List ℕ) (rs : List RunPair) → AllCovered rs → SoundFromAll s rs
