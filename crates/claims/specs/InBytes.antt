-- What one run, or one step, says, in bytes alone: without lists of calls, and without the relations by which the demands are stated. It is what a user leans on
-- who runs a netlist once; that it follows shows that the demands say it.
use Rattle.std.specs.Prelude.{ℕ, ◌+◌, ◌*◌, ◌/◌, ◌%◌, ◌<◌, ◌≡◌, List, [], ◌∷◌, length, get_or, drop}
use Rattle.std.proofs.Math.Option.{none}
use Rattle.gates.specs.Kinds.{OUT}
use Rattle.image.specs.Image.{sizes_of}
use Rattle.cycle.specs.State.{registers_in}
use Rattle.cycle.specs.Cycle.{Verdict, clear, FirstFlow}
use Rattle.cycle.specs.Calls.{Answer, done, power_up_of, Stepped, step_of, Ran, run_of}
use Rattle.doubling.specs.Doubling.{double_of}
use Rattle.claims.specs.NetBytes.{net_of, place_of}

-- a run of k cycles from power-up, of a state that held the bytes a before
abbrev pub from_power_up : (s a : List ℕ) (k : ℕ) (rows outputs : List ℕ) → Ran
from_power_up s a k rows outputs = run_of s (power_up_of s a).state k rows outputs

-- the answer of a run of k cycles that is clear
abbrev pub clear_after : ℕ → Answer FirstFlow
clear_after k = done (record { cycle = k; verdict = clear })

-- bytes that differ at most in the values of marked ones
pub record SameMarks (bytes bytes' : List ℕ) : Type 0 where
  pub size : length bytes ≡ length bytes'
  pub marks : (i : ℕ) → i < length bytes → get_or bytes i 0 / 2 ≡ get_or bytes' i 0 / 2
  pub values : (i : ℕ) → i < length bytes → get_or bytes i 0 / 2 ≡ 0 → get_or bytes i 0 % 2 ≡ get_or bytes' i 0 % 2

-- states that differ at most in the values of marked registers; what stands behind these, the count, is equal
pub record SameStates (s st st' : List ℕ) : Type 0 where
  pub registers : SameMarks (registers_in s st) (registers_in s st')
  pub counts : drop (sizes_of s).registers st ≡ drop (sizes_of s).registers st'

-- two runs, of which the first is clear: the second is clear too, in every cycle c the byte of every protected OUT is unmarked, and the same; and the states that they
-- leave differ at most in the values of marked registers, so that it holds of the next run as well
pub record StaysClear (s : List ℕ) (k : ℕ) (o o' : Ran) : Type 0 where
  pub answer : o'.answer ≡ clear_after k
  pub protected :
      (c i : ℕ) → c < k → i < (sizes_of s).nets → (net_of s i).kind ≡ OUT → (net_of s i).b ≡ 1
      → let j = c * (sizes_of s).outputs + place_of OUT s i in
      (get_or o.outputs j 0 / 2 % 2 ≡ 0) × (get_or o.outputs j 0 ≡ get_or o'.outputs j 0)
  pub state : SameStates s o.state o'.state

-- a clear run stays clear whatever the values of marked pins and marked registers, from any state; proved as `clear_stays`
abbrev pub ClearStays : Type 0
ClearStays =
    (s st st' : List ℕ) (k : ℕ) (rows rows' outputs outputs' : List ℕ)
    → SameStates s st st' → SameMarks rows rows' → length outputs ≡ length outputs'
    → (run_of s st k rows outputs).answer ≡ clear_after k
    → StaysClear s k (run_of s st k rows outputs) (run_of s st' k rows' outputs')

-- two steps that are lent states and rows which differ at most in the values of marked bytes: the same verdict, and net and register bytes that differ at most so
pub record SameSteps (s : List ℕ) (o o' : Stepped) : Type 0 where
  pub answer : o.answer ≡ o'.answer
  pub nets : SameMarks o.nets o'.nets
  pub state : SameStates s o.state o'.state

-- from any state, wherever the first step is not refused; proved as `steps_agree`
abbrev pub StepsAgree : Type 0
StepsAgree =
    (s st st' row row' nets nets' : List ℕ) (v : Verdict)
    → SameStates s st st' → SameMarks row row' → length nets ≡ length nets' → (step_of s st row nets).answer ≡ done v
    → SameSteps s (step_of s st row nets) (step_of s st' row' nets')

-- bytes for the doubled netlist: each byte as two, its value and its mark
pub record InTwo (bytes bytes' : List ℕ) : Type 0 where
  pub size : length bytes' ≡ 2 * length bytes
  pub values : (i : ℕ) → i < length bytes → get_or bytes' (2 * i) 0 ≡ get_or bytes i 0 % 2
  pub marks : (i : ℕ) → i < length bytes → get_or bytes' (2 * i + 1) 0 ≡ get_or bytes i 0 / 2

-- a state of the doubled netlist d: the values and marks of the registers of a state of s, and behind them their own count, which is 0, since no such byte is above 1
pub record StateInTwo (s d st st' : List ℕ) : Type 0 where
  pub registers : InTwo (registers_in s st) (registers_in d st')
  pub count : drop (sizes_of d).registers st' ≡ 0 ∷ 0 ∷ []

-- a run, and that of the doubled netlist: it is not refused, and the values of its output bytes are the values and marks of the run's
pub record ShowsInTwo (o o' : Ran) : Type 0 where
  pub first : FirstFlow
  pub answer : o'.answer ≡ done first
  pub values : (j : ℕ) → j < length o.outputs → get_or o'.outputs (2 * j) 0 % 2 ≡ get_or o.outputs j 0 % 2
  pub marks : (j : ℕ) → j < length o.outputs → get_or o'.outputs (2 * j + 1) 0 % 2 ≡ get_or o.outputs j 0 / 2

-- every run on s from the state st that is not refused, and the same on d from the state st'
abbrev pub RunsShow : (s d st st' : List ℕ) → Type 0
RunsShow s d st st' =
    (k : ℕ) (rows rows' outputs outputs' : List ℕ) (f : FirstFlow)
    → InTwo rows rows' → length outputs' ≡ 2 * length outputs → (run_of s st k rows outputs).answer ≡ done f
    → ShowsInTwo (run_of s st k rows outputs) (run_of d st' k rows' outputs')

-- the image d that doubling leaves in its buffer: from power-up, and from any state, whose values and marks its registers are given
pub record DoubledRuns (s d : List ℕ) : Type 0 where
  pub from_power_up_lem : (a a' : List ℕ) → (power_up_of s a).refusal ≡ none → (power_up_of d a').refusal ≡ none → RunsShow s d (power_up_of s a).state (power_up_of d a').state
  pub from_state : (st st' : List ℕ) → StateInTwo s d st st' → RunsShow s d st st'

-- wherever doubling is not refused; proved as `doubled_shows`
abbrev pub DoubledShows : Type 0
DoubledShows = (s buf : List ℕ) → (double_of s buf).refusal ≡ none → DoubledRuns s (double_of s buf).buffer
