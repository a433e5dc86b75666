-- What a number says that a call answers with: the promises, for a caller who sees numbers and lent bytes alone.
use Rattle.std.specs.Prelude.{ℕ, ◌+◌, ◌*◌, ◌%◌, ◌^◌, ◌≤◌, ◌<◌, ◌↔◌, ◌≡◌, List, length}
use Rattle.image.specs.Image.{sizes_of, nets_of, count}
use Rattle.checking.specs.Check.{check_refusal}
use Rattle.cycle.specs.Calls.{power_up_of, step_of, run_of}
use Rattle.figures.specs.Figures.{doubled_size_of}
use Rattle.doubling.specs.Doubling.{double_of}
use Rattle.static_run.specs.StaticCalls.{static_power_up_of, static_run_of}
use Rattle.claims.specs.StaticBytes.{FilledBy, ToldState, ClearToo}
use Rattle.claims.specs.Accepted.{AcceptedImage}
use Rattle.claims.specs.Refused.{AnyCall, Refused}
use Rattle.claims.specs.Verdicts.{MarkedOutput}
use Rattle.claims.specs.PowerUp.{Wakes}
use Rattle.claims.specs.CountKept.{CountStands}
use Rattle.claims.specs.InBytes.{SameMarks, SameStates, StaysClear}
use Rattle.claims.specs.NetBytes.{net_of}
use Rattle.claims.specs.Page.{Shape, Heading, NetNumber, Sign, pages}
use Rattle.paging.specs.Paging.{page_of}
use Rattle.codes.specs.Codes.{outcome_code, page_code, verdict_code, first_flow_code, answer_code, size_code, kind_code}

-- proved as `says`
pub record NumbersSay : Type 0 where
  -- checking answers 0 exactly if the image is as document 01 asks
  pub check : (s : List ℕ) → (outcome_code (check_refusal s) ≡ 0) ↔ AcceptedImage s
  -- an answer of 2^32 or more: no lent byte was changed
  pub power_up_kept : (s st : List ℕ) → 2 ^ 32 ≤ outcome_code (power_up_of s st).refusal → (power_up_of s st).state ≡ st
  pub step_kept :
      (s st row nets : List ℕ) → 2 ^ 32 ≤ answer_code verdict_code (step_of s st row nets).answer
      → ((step_of s st row nets).state ≡ st) × ((step_of s st row nets).nets ≡ nets)
  pub run_kept :
      (s st : List ℕ) (k : ℕ) (rows outputs : List ℕ) → 2 ^ 32 ≤ answer_code first_flow_code (run_of s st k rows outputs).answer
      → ((run_of s st k rows outputs).state ≡ st) × ((run_of s st k rows outputs).outputs ≡ outputs)
  pub static_power_up_kept : (s st : List ℕ) → 2 ^ 32 ≤ outcome_code (static_power_up_of s st).refusal → (static_power_up_of s st).state ≡ st
  pub static_run_kept :
      (s st : List ℕ) (k : ℕ) (rows outputs : List ℕ) → 2 ^ 32 ≤ answer_code first_flow_code (static_run_of s st k rows outputs).answer
      → ((static_run_of s st k rows outputs).state ≡ st) × ((static_run_of s st k rows outputs).outputs ≡ outputs)
  pub double_kept : (s buf : List ℕ) → 2 ^ 32 ≤ outcome_code (double_of s buf).refusal → (double_of s buf).buffer ≡ buf
  pub page_kept : (s : List ℕ) (k : ℕ) (outputs buf : List ℕ) → 2 ^ 32 ≤ page_code (page_of s k outputs buf).refusal → (page_of s k outputs buf).page ≡ buf
  -- pages answer 0: the buffer has the pages' shape, their headings, the net number of every OUT on every page, and the sign of every output in every cycle at its place
  pub page_written :
      (s : List ℕ) (k : ℕ) (outputs buf : List ℕ) → page_code (page_of s k outputs buf).refusal ≡ 0
      → Shape s k outputs (page_of s k outputs buf).page
      × ((p : ℕ) → p < pages k → Heading s k outputs (page_of s k outputs buf).page p)
      × ((p i : ℕ) → p < pages k → i < (sizes_of s).nets → (net_of s i).kind ≡ 8 → NetNumber s k outputs (page_of s k outputs buf).page p i)
      × ((c j : ℕ) → c < pages k * 64 → j < (sizes_of s).outputs → Sign s k outputs (page_of s k outputs buf).page c j)
  -- a doubled size below 2^32: doubling accepts a buffer of 8 + 7 × as many bytes, and writes that many nets
  pub doubled_size_lem :
      (s buf : List ℕ) → size_code (doubled_size_of s) < 2 ^ 32 → length buf ≡ 8 + 7 * size_code (doubled_size_of s)
      → (outcome_code (double_of s buf).refusal ≡ 0) × ((sizes_of (double_of s buf).buffer).nets ≡ size_code (doubled_size_of s))
  -- a doubled size of 2^32 or more: doubling answers the same number, whatever it is lent, and so does the call for a kind
  pub doubled_turned :
      (s buf : List ℕ) (k : ℕ) → 2 ^ 32 ≤ size_code (doubled_size_of s)
      → (outcome_code (double_of s buf).refusal ≡ size_code (doubled_size_of s)) × (kind_code (doubled_size_of s) k ≡ size_code (doubled_size_of s))
  -- where doubling answers 0: it has written as many nets of a kind from 0 to 8 as the number for that kind says. Of a kind above 8 there are none
  pub doubled_kind :
      (s buf : List ℕ) (k : ℕ) → k ≤ 8 → outcome_code (double_of s buf).refusal ≡ 0
      → kind_code (doubled_size_of s) k ≡ count k (nets_of (double_of s buf).buffer)
  pub doubled_no_kind : (s buf : List ℕ) (k : ℕ) → 8 < k → outcome_code (double_of s buf).refusal ≡ 0 → kind_code (doubled_size_of s) k ≡ 0
  -- a step answers 65,535: by the bytes that it leaves, no protected OUT is marked
  pub step_clear :
      (s st row nets : List ℕ) → answer_code verdict_code (step_of s st row nets).answer ≡ 65535
      → (i : ℕ) → MarkedOutput (nets_of s) (step_of s st row nets).nets i → ⊥
  -- a step answers a number below 65,535: that is the net of a protected OUT that is marked, by the bytes that it leaves
  pub step_flow :
      (s st row nets : List ℕ) → answer_code verdict_code (step_of s st row nets).answer < 65535
      → MarkedOutput (nets_of s) (step_of s st row nets).nets (answer_code verdict_code (step_of s st row nets).answer)
  -- an answer of checking of 2^32 or more: the condition of that number applies at that place
  pub check_refused :
      (s : List ℕ) (number place : ℕ) → 1 ≤ number → place < 2 ^ 32 → outcome_code (check_refusal s) ≡ number * 2 ^ 32 + place
      → Refused s AnyCall.check number place
  -- a run answers a number below 2^32 whose rest by 65,536 is 65,535: it is clear, and stays clear whatever the values of marked pins and marked registers
  pub run_clear :
      (s st st' : List ℕ) (k : ℕ) (rows rows' outputs outputs' : List ℕ)
      → SameStates s st st' → SameMarks rows rows' → length outputs ≡ length outputs'
      → answer_code first_flow_code (run_of s st k rows outputs).answer < 2 ^ 32
      → answer_code first_flow_code (run_of s st k rows outputs).answer % 65536 ≡ 65535
      → StaysClear s k (run_of s st k rows outputs) (run_of s st' k rows' outputs')
  -- a static run answers a number below 2^32 whose rest by 65,536 is 65,535: every run that fills its unknown bits is clear, and known values are its values
  pub static_clear :
      (s st st' : List ℕ) (k : ℕ) (codes rows outputs outputs' : List ℕ)
      → ToldState st st' → FilledBy codes rows → length outputs ≡ length outputs'
      → answer_code first_flow_code (static_run_of s st k codes outputs).answer < 2 ^ 32
      → answer_code first_flow_code (static_run_of s st k codes outputs).answer % 65536 ≡ 65535
      → ClearToo k (static_run_of s st k codes outputs) (run_of s st' k rows outputs')
  -- static power-up answers 0: every state with which the array may wake is as the codes tell that it leaves
  pub static_powered_up : (s a st : List ℕ) → outcome_code (static_power_up_of s a).refusal ≡ 0 → Wakes s st → ToldState (static_power_up_of s a).state st
  -- power-up answers 0, or a step or run a number below 2^32: the last two bytes of the state that it leaves are the number of marked registers
  pub power_up_counted : (s a : List ℕ) → outcome_code (power_up_of s a).refusal ≡ 0 → CountStands s (power_up_of s a).state
  pub step_counted : (s st row nets : List ℕ) → answer_code verdict_code (step_of s st row nets).answer < 2 ^ 32 → CountStands s (step_of s st row nets).state
  pub run_counted :
      (s st : List ℕ) (k : ℕ) (rows outputs : List ℕ) → answer_code first_flow_code (run_of s st k rows outputs).answer < 2 ^ 32
      → CountStands s (run_of s st k rows outputs).state
  -- power-up answers 0: the states with which the array may wake, whatever its registers without a start hold, differ from the one that it leaves at most in the values of marked registers
  pub powered_up_lem : (s a st : List ℕ) → outcome_code (power_up_of s a).refusal ≡ 0 → Wakes s st → SameStates s (power_up_of s a).state st
