-- Every answer as one number. Of the answers that calls give, the refusals are exactly those with a number of 2^32 or more; Readings.antt says how each is read back.
use Rattle.std.specs.Prelude.{ℕ, ◌+◌, ◌*◌, ◌^◌, min, get_or}
use Rattle.std.proofs.Math.Option.{Option, none, some}
use Rattle.refusals.specs.declared.answer.Refusal.{Refusal}
use Rattle.refusals.specs.Refusals.{refusal}
use Rattle.cycle.specs.Cycle.{Verdict, clear, flow, FirstFlow}
use Rattle.cycle.specs.Calls.{Answer, done, refused}
use Rattle.figures.specs.Figures.{Figures}

-- a refusal: its number × 2^32 + its place
abbrev pub refusal_code : Refusal → ℕ
refusal_code r = r.number * 2 ^ 32 + r.place

-- a call without a result of its own: 0 where it is done
abbrev pub outcome_code : Option Refusal → ℕ
outcome_code none = 0
outcome_code (some r) = refusal_code r

-- pages: 0 where they are written. The record's bytes are tried whatever its length, so the place of a 13 may be any number: from 2^32 − 1 on it is given as 2^32 − 1
abbrev pub low_place : Refusal → Refusal
low_place r = refusal r.number (min r.place 4294967295)

abbrev pub low_places : Option Refusal → Option Refusal
low_places none = none
low_places (some r) = some (low_place r)

abbrev pub page_code : Option Refusal → ℕ
page_code o = outcome_code (low_places o)

-- a verdict: 65,535 for clear, which is no net's number, and its net for a flow
abbrev pub verdict_code : Verdict → ℕ
verdict_code clear = 65535
verdict_code (flow net) = net

-- the first flow of a run: its cycle × 65,536 + the number of its verdict
abbrev pub first_flow_code : FirstFlow → ℕ
first_flow_code f = f.cycle * 65536 + verdict_code f.verdict

-- one of the figures of the doubled netlist, where they are not refused
abbrev pub figure_answer : Option Refusal → (figure : ℕ) → Answer ℕ
figure_answer none figure = done figure
figure_answer (some r) figure = refused r

-- a call with a result, and the number of that result
abbrev pub answer_code : {A : Type 0} → (A → ℕ) → Answer A → ℕ
answer_code code (done x) = code x
answer_code code (refused r) = refusal_code r

-- the doubled size: the number of nets
abbrev pub size_code : Figures → ℕ
size_code f = answer_code (λ n. n) (figure_answer f.refusal f.nets)

-- the doubled size by kind: the number of nets of kind k, which is 0 for a k above 8
abbrev pub kind_code : Figures → (k : ℕ) → ℕ
kind_code f k = answer_code (λ n. n) (figure_answer f.refusal (get_or f.kinds k 0))
