-- The answers of the code, read in document 01's terms: the number and place of a refusal, or the verdict, and for a run the cycle with it.
-- Beside an answer stand the lent bytes that a call leaves.
use Rattle.std.specs.Prelude.{ℕ, List, Result, Ok, Err}
use Rattle.refusals.specs.declared.answer.Refusal.{Refusal}
use Rattle.refusals.specs.Refusals.{refusal_in}
use Rattle.cycle.specs.declared.answer.Verdict as code
use Rattle.cycle.specs.declared.answer.Verdict.TheVariants.{Clear, Flow}
use Rattle.cycle.specs.declared.answer.FirstFlow as runs
use Rattle.cycle.specs.Cycle.{Verdict, clear, flow, FirstFlow}
use Rattle.cycle.specs.Calls.{Answer, done, refused, PoweredUp, Stepped, Ran}

abbrev pub verdict_in : code.Verdict → Verdict
verdict_in Clear = clear
verdict_in (Flow net) = flow net

abbrev pub first_flow_in : runs.FirstFlow → FirstFlow
first_flow_in f = record { cycle = f.cycle; verdict = verdict_in f.verdict }

abbrev pub step_answer_in : Result code.Verdict Refusal → Answer Verdict
step_answer_in (Ok v) = done (verdict_in v)
step_answer_in (Err r) = refused r

abbrev pub run_answer_in : Result runs.FirstFlow Refusal → Answer FirstFlow
run_answer_in (Ok f) = done (first_flow_in f)
run_answer_in (Err r) = refused r

-- what each call did
abbrev pub powered_up : Result Unit Refusal → (state : List ℕ) → PoweredUp
powered_up o state = record { refusal = refusal_in o; state = state }

abbrev pub stepped : Result code.Verdict Refusal → (state nets : List ℕ) → Stepped
stepped a state nets = record { answer = step_answer_in a; state = state; nets = nets }

abbrev pub ran : Result runs.FirstFlow Refusal → (state outputs : List ℕ) → Ran
ran a state outputs = record { answer = run_answer_in a; state = state; outputs = outputs }
