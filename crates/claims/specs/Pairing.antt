-- Demand 2, its second sentence: the doubled netlist shows the same values and marks at its paired outputs. The first sentence is NetBytes, Verdicts and the contracts of the calls.
use Rattle.std.specs.Prelude.{ℕ, ◌+◌, ◌*◌, ◌%◌, ◌≤◌, ◌≡◌, length}
use mathlib.Core.List.{List, map, Forall₂}
use Rattle.std.proofs.Math.Option.{none}
use Rattle.image.specs.Image.{sizes_of, nets_of}
use Rattle.checking.specs.Check.{check_refusal}
use Rattle.cycle.specs.Cycle.{outputs_from}
use Rattle.cycle.specs.State.{state_length, with_count, registers_in}
use Rattle.cycle.specs.Calls.{Stepped, power_up_of}
use Rattle.groups.specs.Groups.{split}
use Rattle.doubled.specs.Doubled.{doubled_size}
use Rattle.doubling.specs.Doubling.{double_of}
use Rattle.claims.specs.History.{Call, step, run, history, accepted, cycles_in, AllFinished, AllMade}

-- a call made again on the doubled image d: each row byte as two, and any buffer of the right length
pub data Again (d : List ℕ) : Call → Call → Type 0 where
  step_again : {row b b' : List ℕ} → length b' ≡ (sizes_of d).nets → Again d (step row b) (step (split row) b')
  run_again : {k : ℕ} {rows b b' : List ℕ} → length b' ≡ k * (sizes_of d).outputs → Again d (run k rows b) (run k (split rows) b')

-- "register j's value and mark then start the doubled registers 2j and 2j + 1, in net order": the doubled netlist's state with the values and marks of the registers of a state of s.
-- It "carries its count too, which pairing does not compare": that of its own registers
abbrev pub split_state : (s st : List ℕ) → List ℕ
split_state s st = with_count (split (registers_in s st))

-- the plain values at the outputs of an image in a cycle
unfoldable pub shown : List ℕ → Stepped → List ℕ
shown s o = map (λ x. x % 2) (outputs_from 0 (nets_of s) o.nets)

-- in a cycle o of the image s and the same cycle o' of its doubled image d: the values at d's outputs are the values and marks at those of s
pub record Shows (s d : List ℕ) (o o' : Stepped) : Type 0 where
  pub pairs : shown d o' ≡ split (outputs_from 0 (nets_of s) o.nets)

-- the calls cs on s from the state st, and cs' on d from the state st': what they give, with all cycles of each list
pub record Paired (s d st st' : List ℕ) (cs cs' : List Call) : Type 0 where
  pub made : let ms = history s st cs in AllMade s st cs ms (cycles_in ms)
  pub made_again : let ns = history d st' cs' in AllMade d st' cs' ns (cycles_in ns)
  pub finished : AllFinished (history d st' cs')
  pub cycles : Forall₂ (Shows s d) (cycles_in (history s st cs)) (cycles_in (history d st' cs'))

-- the accepted calls of every list on s from st, made again on d from st'
abbrev pub AllPaired : (s d st st' : List ℕ) → Type 0
AllPaired s d st st' = (cs cs' : List Call) → Forall₂ (Again d) (accepted s st cs) cs' → Paired s d st st' cs cs'

-- what doubling writes into buf, beside its source
pub record DoublingPairs (s buf : List ℕ) : Type 0 where
  pub written : (double_of s buf).refusal ≡ none
  -- from any state. On bytes that are no state all calls are refused, and none is made again
  pub from_state : let d = (double_of s buf).buffer in (st : List ℕ) → AllPaired s d st (split_state s st)
  -- each from its own power-up, of states that held the bytes a and b before
  pub from_power_up_lem :
      let d = (double_of s buf).buffer in
      (a b : List ℕ) → length a ≡ state_length (sizes_of s) → length b ≡ state_length (sizes_of d)
      → ((power_up_of s a).refusal ≡ none) × ((power_up_of d b).refusal ≡ none) × AllPaired s d (power_up_of s a).state (power_up_of d b).state

-- for every accepted image whose doubled netlist fits the size limit, and every buffer of its exact length; proved as `demand2`
abbrev pub Demand2 : Type 0
Demand2 =
    (s : List ℕ) → check_refusal s ≡ none → doubled_size (nets_of s) ≤ 8192
    → (buf : List ℕ) → length buf ≡ 8 + 7 * doubled_size (nets_of s) → DoublingPairs s buf
