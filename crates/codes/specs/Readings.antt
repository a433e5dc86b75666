-- How the number that a call answers with is read, by the divisions and rests of include/tracker.h; and that what is read is the answer itself.
use Rattle.std.specs.Prelude.{ℕ, ◌+◌, ◌*◌, ◌/◌, ◌%◌, ◌^◌, ◌≤◌, ◌<◌, ◌≡◌, List, cond, eqb, ltb, length, get_or}
use Rattle.std.proofs.Math.Option.{Option, none, some}
use Rattle.refusals.specs.declared.answer.Refusal.{Refusal}
use Rattle.refusals.specs.Refusals.{refusal}
use Rattle.checking.specs.Check.{check_refusal}
use Rattle.cycle.specs.Cycle.{Verdict, clear, flow, FirstFlow}
use Rattle.cycle.specs.Calls.{Answer, done, refused, power_up_of, step_of, run_of}
use Rattle.figures.specs.Figures.{doubled_size_of}
use Rattle.doubling.specs.Doubling.{double_of}
use Rattle.static_run.specs.StaticCalls.{static_power_up_of, static_run_of}
use Rattle.paging.specs.Paging.{page_of}
use Rattle.codes.specs.Codes.{refusal_code, low_places, outcome_code, page_code, verdict_code, first_flow_code, figure_answer, answer_code, size_code, kind_code}

-- a refusal: its number stands above its place
abbrev pub refusal_read : ℕ → Refusal
refusal_read n = refusal (n / 2 ^ 32) (n % 2 ^ 32)

-- check, power-up and doubling: a number below 2^32 says that the call is done
abbrev pub outcome_read : ℕ → Option Refusal
outcome_read n = cond (ltb n (2 ^ 32)) none (some (refusal_read n))

-- a verdict: 65,535 is clear, and every other number a flow at that net
abbrev pub verdict_read : ℕ → Verdict
verdict_read n = cond (eqb n 65535) clear (flow n)

-- a step: the header reads its verdict as it reads that of a run
abbrev pub step_read : ℕ → Answer Verdict
step_read n = cond (ltb n (2 ^ 32)) (done (verdict_read (n % 65536))) (refused (refusal_read n))

-- the first flow of a run: its cycle stands above its verdict
abbrev pub first_flow_read : ℕ → FirstFlow
first_flow_read n = record { cycle = n / 65536; verdict = verdict_read (n % 65536) }

-- a run
abbrev pub run_read : ℕ → Answer FirstFlow
run_read n = cond (ltb n (2 ^ 32)) (done (first_flow_read n)) (refused (refusal_read n))

-- a figure of the doubled netlist: the number itself
abbrev pub figure_read : ℕ → Answer ℕ
figure_read n = cond (ltb n (2 ^ 32)) (done n) (refused (refusal_read n))

-- for all calls, on any bytes: what is read from the number is the answer; proved as `reads`
pub record CodesRead : Type 0 where
  pub check : (s : List ℕ) → outcome_read (outcome_code (check_refusal s)) ≡ check_refusal s
  pub power_up : (s st : List ℕ) → outcome_read (outcome_code (power_up_of s st).refusal) ≡ (power_up_of s st).refusal
  pub step : (s st row nets : List ℕ) → step_read (answer_code verdict_code (step_of s st row nets).answer) ≡ (step_of s st row nets).answer
  pub run :
      (s st : List ℕ) (k : ℕ) (rows outputs : List ℕ)
      → run_read (answer_code first_flow_code (run_of s st k rows outputs).answer) ≡ (run_of s st k rows outputs).answer
  pub static_power_up : (s st : List ℕ) → outcome_read (outcome_code (static_power_up_of s st).refusal) ≡ (static_power_up_of s st).refusal
  pub static_run :
      (s st : List ℕ) (k : ℕ) (rows outputs : List ℕ)
      → run_read (answer_code first_flow_code (static_run_of s st k rows outputs).answer) ≡ (static_run_of s st k rows outputs).answer
  pub doubled_size_lem : (s : List ℕ) → figure_read (size_code (doubled_size_of s)) ≡ figure_answer (doubled_size_of s).refusal (doubled_size_of s).nets
  pub doubled_kind :
      (s : List ℕ) (k : ℕ) → figure_read (kind_code (doubled_size_of s) k) ≡ figure_answer (doubled_size_of s).refusal (get_or (doubled_size_of s).kinds k 0)
  pub double : (s buffer : List ℕ) → outcome_read (outcome_code (double_of s buffer).refusal) ≡ (double_of s buffer).refusal
  -- pages: the refusal with its number, and with its place where that is below 2^32, as it is in every record of at most 2^32 bytes
  pub page : (s : List ℕ) (k : ℕ) (outputs buf : List ℕ) → outcome_read (page_code (page_of s k outputs buf).refusal) ≡ low_places (page_of s k outputs buf).refusal
  pub page_exact :
      (s : List ℕ) (k : ℕ) (outputs buf : List ℕ) → length outputs ≤ 2 ^ 32
      → outcome_read (page_code (page_of s k outputs buf).refusal) ≡ (page_of s k outputs buf).refusal
  -- the numbers themselves: a refusal's number stands above its place, clear is 65,535, a flow its net, and a run's cycle stands above its verdict
  pub refusal_is : (r : Refusal) → refusal_code r ≡ r.number * 2 ^ 32 + r.place
  pub clear_is : verdict_code clear ≡ 65535
  pub flow_is : (net : ℕ) → verdict_code (flow net) ≡ net
  pub first_flow_is : (f : FirstFlow) → first_flow_code f ≡ f.cycle * 65536 + verdict_code f.verdict
  -- a step has nothing above its verdict
  pub step_small : (s st row nets : List ℕ) {v : Verdict} → (step_of s st row nets).answer ≡ done v → verdict_code v < 65536
  -- 0 says that a check, a power-up or a doubling is done. It is no answer of a step, and no verdict of a run
  pub done_is_0 : outcome_code none ≡ 0
  pub step_not_0 : (s st row nets : List ℕ) → 1 ≤ answer_code verdict_code (step_of s st row nets).answer
  pub run_not_0 :
      (s st : List ℕ) (k : ℕ) (rows outputs : List ℕ) {f : FirstFlow} → (run_of s st k rows outputs).answer ≡ done f → 1 ≤ first_flow_code f % 65536
  pub static_run_not_0 :
      (s st : List ℕ) (k : ℕ) (rows outputs : List ℕ) {f : FirstFlow} → (static_run_of s st k rows outputs).answer ≡ done f → 1 ≤ first_flow_code f % 65536
