-- Lists of calls on one image s, each call taking the state st that the last one left.
use Rattle.std.specs.Prelude.{ℕ, ◌≡◌, List, [], ◌∷◌, ◌++◌}
use Rattle.std.proofs.Math.Option.{Option, none, some}
use Rattle.refusals.specs.declared.answer.Refusal.{Refusal}
use Rattle.cycle.specs.Cycle.{Verdict, FirstFlow}
use Rattle.cycle.specs.Calls.{Answer, done, refused, Stepped, step_of, step_refusal, Ran, run_of, run_refusal}
use Rattle.claims.specs.Steps.{steps_of, AsSteps}

-- a call, with its row bytes and the buffer that it is lent
pub data Call : Type 0 where
  step : (row nets : List ℕ) → Call
  run : (k : ℕ) (rows outputs : List ℕ) → Call

-- the buffer that a call is lent
unfoldable pub lent : Call → List ℕ
lent (step row nets) = nets
lent (run k rows outputs) = outputs

-- the refusal that a call meets, or none
unfoldable pub refusal_of : (s st : List ℕ) → Call → Option Refusal
refusal_of s st (step row nets) = step_refusal s st row nets
refusal_of s st (run k rows outputs) = run_refusal s st k rows outputs

-- what a call answers
pub data CallAnswer : Type 0 where
  stepped : Answer Verdict → CallAnswer
  ran : Answer FirstFlow → CallAnswer

-- what one call gives: its answer, what it leaves in its buffer and in the state, and its cycles, each as the step with the same row; none where it is refused
pub record CallResult : Type 0 where
  pub answer : CallAnswer
  pub buffer : List ℕ
  pub state : List ℕ
  pub cycles : List Stepped

unfoldable pub call_result : (s st : List ℕ) → Call → CallResult
call_result s st (step row nets) =
    let o = step_of s st row nets in
    record {
      answer = stepped o.answer;
      buffer = o.nets;
      state = o.state;
      cycles = elim (step_refusal s st row nets) [ none ↦ o ∷ [] | some r ↦ [] ];
    }
call_result s st (run k rows outputs) =
    let o = run_of s st k rows outputs in
    record {
      answer = ran o.answer;
      buffer = o.outputs;
      state = o.state;
      cycles = elim (run_refusal s st k rows outputs) [ none ↦ steps_of s st k rows | some r ↦ [] ];
    }

-- what the calls of a list give, one after the other
unfoldable pub history : (s st : List ℕ) → List Call → List CallResult
history s st [] = []
history s st (c ∷ cs) = let m = call_result s st c in m ∷ history s m.state cs

-- the calls of a list that are not refused
unfoldable pub accepted : (s st : List ℕ) → List Call → List Call
accepted s st [] = []
accepted s st (c ∷ cs) =
    let rest = accepted s (call_result s st c).state cs in
    elim (refusal_of s st c) [ none ↦ c ∷ rest | some r ↦ rest ]

-- all cycles of a list of calls
unfoldable pub cycles_in : List CallResult → List Stepped
cycles_in [] = []
cycles_in (m ∷ ms) = m.cycles ++ cycles_in ms

-- the answer is the refusal r
pub data TurnedBack (r : Refusal) : CallAnswer → Type 0 where
  a_step : TurnedBack r (stepped (refused r))
  a_run : TurnedBack r (ran (refused r))

-- the answer is no refusal
pub data Finished : CallAnswer → Type 0 where
  a_step : {v : Verdict} → Finished (stepped (done v))
  a_run : {f : FirstFlow} → Finished (ran (done f))

-- no answer of a list is a refusal
pub data AllFinished : List CallResult → Type 0 where
  nil : AllFinished []
  cons : {m : CallResult} {ms : List CallResult} → Finished m.answer → AllFinished ms → AllFinished (m ∷ ms)

-- m is what a call on s gives from the state st. Refused: that refusal, the buffer and the state as they were, and no cycle. Done: the answer, the buffer and the
-- state of the step or run; and the cycles of the call, which are those of steps: a step is its own cycle, and a run gives what its steps give (AsSteps)
pub data Made (s st : List ℕ) : Call → CallResult → Type 0 where
  step_refused :
      {row nets : List ℕ} {o : Stepped} {r : Refusal} → o ≡ step_of s st row nets → o.answer ≡ refused r
      → Made s st (step row nets) (record { answer = stepped o.answer; buffer = nets; state = st; cycles = [] })
  step_done :
      {row nets : List ℕ} {o : Stepped} {v : Verdict} → o ≡ step_of s st row nets → o.answer ≡ done v
      → Made s st (step row nets) (record { answer = stepped o.answer; buffer = o.nets; state = o.state; cycles = o ∷ [] })
  run_refused :
      {k : ℕ} {rows outputs : List ℕ} {o : Ran} {r : Refusal} → o ≡ run_of s st k rows outputs → o.answer ≡ refused r
      → Made s st (run k rows outputs) (record { answer = ran o.answer; buffer = outputs; state = st; cycles = [] })
  run_done :
      {k : ℕ} {rows outputs : List ℕ} {o : Ran} {f : FirstFlow} → o ≡ run_of s st k rows outputs → o.answer ≡ done f → AsSteps s st k rows outputs
      → Made s st (run k rows outputs) (record { answer = ran o.answer; buffer = o.outputs; state = o.state; cycles = steps_of s st k rows })

-- ms are what the calls of a list give from the state st, each from the state that the one before it left; cycles are all their cycles
pub data AllMade (s : List ℕ) : (st : List ℕ) → List Call → (ms : List CallResult) → (cycles : List Stepped) → Type 0 where
  nil : {st : List ℕ} → AllMade s st [] [] []
  cons :
      {st : List ℕ} {c : Call} {cs : List Call} {m : CallResult} {ms : List CallResult} {rest : List Stepped}
      → Made s st c m → AllMade s m.state cs ms rest → AllMade s st (c ∷ cs) (m ∷ ms) (m.cycles ++ rest)

-- what `history` and `cycles_in` give is that, of every list of calls; and a call gives one result. Proved as `histories`
pub record Histories : Type 0 where
  pub made : (s st : List ℕ) (cs : List Call) → AllMade s st cs (history s st cs) (cycles_in (history s st cs))
  pub one_result : {s st : List ℕ} {c : Call} {m n : CallResult} → Made s st c m → Made s st c n → m ≡ n
