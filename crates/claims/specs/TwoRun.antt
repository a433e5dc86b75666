-- Demand 3: the two-run property, one claim about two whole lists of calls (noninterference in the literature).
use Rattle.std.specs.Prelude.{ℕ, ◌+◌, ◌*◌, ◌≤◌, ◌<◌, ◌≡◌, length, get_or}
use mathlib.Core.List.{List, [], ◌∷◌, Forall₂}
use Rattle.std.proofs.Math.Option.{none}
use Rattle.gates.specs.Relations.{Agree}
use Rattle.image.specs.Image.{sizes_of, nets_of}
use Rattle.refusals.specs.declared.answer.Refusal.{Refusal}
use Rattle.checking.specs.Check.{check_refusal}
use Rattle.cycle.specs.State.{state_length, AgreeStates}
use Rattle.cycle.specs.Calls.{Stepped, power_up_of}
use Rattle.doubled.specs.Doubled.{doubled_size}
use Rattle.doubling.specs.Doubling.{double_of}
use Rattle.claims.specs.History.{Call, step, run, CallResult, history, accepted, cycles_in, TurnedBack, Finished, AllFinished, Made, AllMade}
use Rattle.claims.specs.Pairing.{Again, split_state, shown}

-- what may stand at one place of the two lists
pub data Matched : Call → Call → Type 0 where
  steps : {r r' b b' : List ℕ} → Agree r r' → length b ≡ length b' → Matched (step r b) (step r' b')
  runs : {k : ℕ} {r r' b b' : List ℕ} → Agree r r' → length b ≡ length b' → Matched (run k r b) (run k r' b')

-- in one cycle on the image s: the same verdict, net bytes that agree, and states that agree, in their register bytes and with equal counts
pub record SameCycle (s : List ℕ) (o o' : Stepped) : Type 0 where
  pub verdict : o.answer ≡ o'.answer
  pub nets : Agree o.nets o'.nets
  pub state : AgreeStates s o.state o'.state

-- at one place: the same refusal; or the same answer with bytes that agree, in each cycle too
pub data SameCall (s : List ℕ) (m n : CallResult) : Type 0 where
  turned_back : (r : Refusal) → TurnedBack r m.answer → TurnedBack r n.answer → SameCall s m n
  finished :
      Finished m.answer → m.answer ≡ n.answer
      → Agree m.buffer n.buffer → Forall₂ (SameCycle s) m.cycles n.cycles → SameCall s m n

-- at every place, each list with its own state: what the two calls give, m and n, and then the states agree again
pub data SameCalls (s : List ℕ) : List ℕ → List ℕ → List Call → List Call → Type 0 where
  nil : {st st' : List ℕ} → SameCalls s st st' [] []
  cons :
      {st st' : List ℕ} {c d : Call} {cs ds : List Call} {m n : CallResult}
      → Made s st c m → Made s st' d n → SameCall s m n → AgreeStates s m.state n.state
      → SameCalls s m.state n.state cs ds
      → SameCalls s st st' (c ∷ cs) (d ∷ ds)

-- in the same cycle of two runs of the doubled image d of s: d shows two values for each output of s, with equal marks, and equal values wherever the mark is 0
pub record SameShown (s d : List ℕ) (o o' : Stepped) : Type 0 where
  pub outputs : (length (shown d o) ≡ 2 * (sizes_of s).outputs) × (length (shown d o') ≡ 2 * (sizes_of s).outputs)
  pub marks : (j : ℕ) → j < (sizes_of s).outputs → get_or (shown d o) (2 * j + 1) 0 ≡ get_or (shown d o') (2 * j + 1) 0
  pub values :
      (j : ℕ) → j < (sizes_of s).outputs → get_or (shown d o) (2 * j + 1) 0 ≡ 0
      → get_or (shown d o) (2 * j) 0 ≡ get_or (shown d o') (2 * j) 0

-- the calls cs on the doubled image d of s from the state st, and ds from the state st': none is refused, and in each cycle both show the same
pub record SameDoubled (s d st st' : List ℕ) (cs ds : List Call) : Type 0 where
  pub finished : AllFinished (history d st cs) × AllFinished (history d st' ds)
  pub made : let ms = history d st cs in AllMade d st cs ms (cycles_in ms)
  pub made' : let ns = history d st' ds in AllMade d st' ds ns (cycles_in ns)
  pub shown : Forall₂ (SameShown s d) (cycles_in (history d st cs)) (cycles_in (history d st' ds))

-- of the lists cs and ds on s from st and st': however their accepted calls are made again on d, from u and u', both show the same
abbrev pub AllSameDoubled : (s d st st' u u' : List ℕ) (cs ds : List Call) → Type 0
AllSameDoubled s d st st' u u' cs ds =
    (cs' ds' : List Call) → Forall₂ (Again d) (accepted s st cs) cs' → Forall₂ (Again d) (accepted s st' ds) ds' → SameDoubled s d u u' cs' ds'

-- the two lists on s, and on the doubled image that doubling writes into buf
pub record DoubledTwoRun (s buf : List ℕ) (cs ds : List Call) : Type 0 where
  pub written : (double_of s buf).refusal ≡ none
  -- from any two states that agree, and the doubled netlist's from the values and marks of their registers
  pub from_states : let d = (double_of s buf).buffer in (st st' : List ℕ) → AgreeStates s st st' → AllSameDoubled s d st st' (split_state s st) (split_state s st') cs ds
  -- from its own power-up, of states that held a' and b' before
  pub from_power_up_lem :
      let d = (double_of s buf).buffer in
      (a b a' b' : List ℕ) → length a ≡ state_length (sizes_of s) → length b ≡ state_length (sizes_of s)
      → length a' ≡ state_length (sizes_of d) → length b' ≡ state_length (sizes_of d)
      → ((power_up_of d a').refusal ≡ none) × ((power_up_of d b').refusal ≡ none)
      × AllSameDoubled s d (power_up_of s a).state (power_up_of s b).state (power_up_of d a').state (power_up_of d b').state cs ds

pub record TwoRun (s : List ℕ) (cs ds : List Call) : Type 0 where
  pub powered_up_lem :
      (a : List ℕ) → length a ≡ state_length (sizes_of s)
      → ((power_up_of s a).refusal ≡ none) × (length (power_up_of s a).state ≡ state_length (sizes_of s))
  -- from any two states that agree
  pub from_states : (st st' : List ℕ) → AgreeStates s st st' → SameCalls s st st' cs ds
  -- from power-up, where the two lists' states held the bytes a and b before
  pub from_power_up_lem :
      (a b : List ℕ) → length a ≡ state_length (sizes_of s) → length b ≡ state_length (sizes_of s)
      → SameCalls s (power_up_of s a).state (power_up_of s b).state cs ds
  -- and both again where doubling doesn't draw 15
  pub doubled : doubled_size (nets_of s) ≤ 8192 → (buf : List ℕ) → length buf ≡ 8 + 7 * doubled_size (nets_of s) → DoubledTwoRun s buf cs ds

-- proved as `demand3`
abbrev pub Demand3 : Type 0
Demand3 = (s : List ℕ) → check_refusal s ≡ none → (cs ds : List Call) → Forall₂ Matched cs ds → TwoRun s cs ds
