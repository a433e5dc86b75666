-- The count of marked registers (document 02, L7): "the last two a u16, the number of marked registers, set at power-up and kept by each step and run". So a list of calls that hands
-- its state on never draws 20.
use Rattle.std.specs.Prelude.{ℕ, ◌+◌, ◌*◌, ◌<◌, ◌≡◌, List, [], ◌∷◌, length, get_or, replicate}
use Rattle.std.proofs.Math.Option.{none}
use Rattle.gates.specs.Kinds.{INPUT, REG}
use Rattle.image.specs.Image.{sizes_of, net, encode}
use Rattle.refusals.specs.declared.answer.Refusal.{Refusal}
use Rattle.refusals.specs.Refusals.{refusal}
use Rattle.cycle.specs.State.{marked_count, registers_in}
use Rattle.cycle.specs.Cycle.{Verdict, FirstFlow}
use Rattle.cycle.specs.Calls.{Answer, done, refused, power_up_of, step_of, run_of}
use Rattle.claims.specs.History.{Call, CallResult, history, TurnedBack}

-- a state of the image s in which the count stands: R + 2 bytes, of which the last two, low byte first, are how many of the first R have mark 1
pub record CountStands (s st : List ℕ) : Type 0 where
  pub size : length st ≡ (sizes_of s).registers + 2
  pub low : get_or st (sizes_of s).registers 0 < 256
  pub count : get_or st (sizes_of s).registers 0 + 256 * get_or st ((sizes_of s).registers + 1) 0 ≡ marked_count (registers_in s st)

-- no call of a list draws 20
pub data NoneDraws20 : List CallResult → Type 0 where
  nil : NoneDraws20 []
  cons : {m : CallResult} {ms : List CallResult} → ((r : Refusal) → TurnedBack r m.answer → r.number ≡ 20 → ⊥) → NoneDraws20 ms → NoneDraws20 (m ∷ ms)

-- an input and two registers that take it, the first without a start
unfoldable pub woken : List ℕ
woken = encode (record { nets = 3; inputs = 1; registers = 2; outputs = 0 }) (net INPUT 0 0 0 ∷ net REG 0 2 0 ∷ net REG 0 1 0 ∷ [])

-- a step of it with the register bytes 2 and 1, this count, and this row
abbrev step_with : (low high : ℕ) (row : List ℕ) → Answer Verdict
step_with low high row = (step_of woken (2 ∷ 1 ∷ low ∷ high ∷ []) row (replicate 3 9)).answer

-- examples: what power-up, a step and a run leave, whatever stood in the count at power-up; and when 20 is drawn
pub record CountExamples : Type 0 where
  pub powered_up_lem : (power_up_of woken (9 ∷ 9 ∷ 9 ∷ 9 ∷ [])).state ≡ 2 ∷ 1 ∷ 1 ∷ 0 ∷ []
  pub stepped : (step_of woken (2 ∷ 1 ∷ 1 ∷ 0 ∷ []) (3 ∷ []) (replicate 3 9)).state ≡ 3 ∷ 3 ∷ 2 ∷ 0 ∷ []
  pub ran : (run_of woken (2 ∷ 1 ∷ 1 ∷ 0 ∷ []) 2 (3 ∷ 0 ∷ []) []).state ≡ 0 ∷ 0 ∷ 0 ∷ 0 ∷ []
  -- a count that is one too high, and one whose bytes are exchanged; before the row is looked at, which would draw 12
  pub too_high : step_with 2 0 (0 ∷ 0 ∷ []) ≡ refused (refusal 20 0)
  pub exchanged : step_with 0 1 (0 ∷ []) ≡ refused (refusal 20 0)
  -- after 11, which a byte of the count does not draw, though it is above 3
  pub after_11 : (step_of woken (4 ∷ 1 ∷ 9 ∷ 9 ∷ []) (0 ∷ []) (replicate 3 9)).answer ≡ refused (refusal 11 0)
  pub no_11 : step_with 9 0 (0 ∷ []) ≡ refused (refusal 20 0)

-- proved as `count_kept`
pub record CountKept : Type 0 where
  pub power_up : (s st : List ℕ) → (power_up_of s st).refusal ≡ none → CountStands s (power_up_of s st).state
  pub step : (s st row nets : List ℕ) (v : Verdict) → (step_of s st row nets).answer ≡ done v → CountStands s (step_of s st row nets).state
  pub run :
      (s st : List ℕ) (k : ℕ) (rows outputs : List ℕ) (f : FirstFlow) → (run_of s st k rows outputs).answer ≡ done f
      → CountStands s (run_of s st k rows outputs).state
  -- from a state in which it stands, and so from power-up, a list of calls never draws 20, whatever else is refused
  pub never_20 : (s st : List ℕ) → CountStands s st → (cs : List Call) → NoneDraws20 (history s st cs)
  pub from_power_up_lem : (s a : List ℕ) → (power_up_of s a).refusal ≡ none → (cs : List Call) → NoneDraws20 (history s (power_up_of s a).state cs)
  pub examples : CountExamples
