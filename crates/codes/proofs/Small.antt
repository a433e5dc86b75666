-- How large the number of an answer is: below 2^32 without a refusal, and below 2^64 with one.
use Prim.Native.Nat.{ℕ, zero, suc, ◌+◌, ◌^◌, ◌≤◌, ◌<◌}
use native.Mathlib.Omega.{arith}
use mathlib.Core.Path.{◌≡◌, ◌∙◌}
use mathlib.Core.List.{List}
use mathlib.Core.Option.{Option, none}
use lib.ListN.{get_or, take, drop}
use Rattle.gates.specs.Rules.{mark, gate_byte}
use Rattle.unknowns.specs.Filling.{static_byte}
use Rattle.image.specs.Image.{sizes_of, nets_of}
use Rattle.refusals.specs.declared.answer.Refusal.{Refusal}
use Rattle.cycle.specs.Cycle.{Rule, Rules, plain, Verdict, clear, flow, cycle_of, cycles_of, FirstFlow, first_of, first_flow}
use Rattle.cycle.specs.State.{registers_in}
use Rattle.cycle.specs.Calls.{Answer, done, refused, as_step, as_run, counting, step_refusal, step_of, run_refusal, run_of}
use Rattle.checking.proofs.Counting.{count_few}
use Rattle.cycle.proofs.Calls.{either_way, step_accepted, step_refused, run_accepted, run_refused}
use Rattle.doubled.specs.Doubled.{doubled_nets}
use Rattle.doubled.proofs.Positions.{doubled_length}
use Rattle.figures.specs.Figures.{size_refusal, doubled_size_of}
use Rattle.figures.proofs.Refusing.{size_none, size_accepted, size_given}
use Rattle.static_run.specs.StaticCalls.{static, static_run_refusal, static_run_of}
use Rattle.static_run.proofs.StaticRefused.{static_accepted, static_refused}
use Rattle.claims.specs.Accepted.{AcceptedImage}
use Rattle.claims.specs.Refused as table
use Rattle.claims.specs.Verdicts as judged
use Rattle.claims.specs.Verdicts.{Judged, lowest}
use Rattle.claims.proofs.Promised.{promised}
use Rattle.codes.specs.Codes.{refusal_code, outcome_code, page_code, verdict_code, first_flow_code, figure_answer, answer_code}
use Rattle.codes.proofs.Given.{Tabled, tabled, Given, no, one, PageGiven, wrote, turned}

-- a verdict on n nets is clear, or names one of them, behind net 0
pub data Naming (n : ℕ) : Verdict → Type 0 where
  no_net : Naming n clear
  names : {i : ℕ} → 1 ≤ i → i < n → Naming n (flow i)

-- an OUT stands behind its pin, so it is not net 0
judged_names : (s : List ℕ) {bs : List ℕ} {v : Verdict} → AcceptedImage s → Judged (nets_of s) bs v → Naming 8192 v
judged_names s a (judged.none h) = no_net
judged_names s a (lowest {i} m h) =
    let l : i < (sizes_of s).nets = omega (arith, m.below, (promised.image_read s).all) in
    let pin = (a.nets i l).pins.a (omega (arith, m.out)) (omega (arith, m.out)) in
    names {i = i} (omega (arith, pin)) (omega (arith, a.sized.few_nets))

-- of a cycle, plain or static
abbrev by : Rule → Rules
by rule = record { gate = rule; marked = mark }

verdict_names : (rule : Rule) (s : List ℕ) → AcceptedImage s → (row st : List ℕ) → Naming 8192 (cycle_of (by rule) (nets_of s) row st).verdict
verdict_names rule s a row st = judged_names s a (promised.verdicts rule (nets_of s) row st)

-- a first flow among cycles up to the last one, with a verdict on n nets
pub record Among (last n : ℕ) (f : FirstFlow) : Type 0 where
  pub cycle : f.cycle ≤ last
  pub verdict : Naming n f.verdict

first_among : {i last n : ℕ} (v : Verdict) {f : FirstFlow} → i ≤ last → Naming n v → Among last n f → Among last n (first_of i v f)
unfolding first_of
first_among clear h l a = a
first_among (flow net) h l a = record { cycle = h; verdict = l }

flow_among :
    (rule : Rule) (s : List ℕ) → AcceptedImage s → (inputs k i : ℕ) (rows st : List ℕ)
    → Among (i + k) 8192 (first_flow i (cycles_of (by rule) (nets_of s) inputs k rows st))
unfolding cycles_of first_flow
flow_among rule s a inputs zero i rows st = record { cycle = omega arith; verdict = no_net }
flow_among rule s a inputs (suc k) i rows st =
    let e : suc i + k ≡ i + suc k = omega arith in
    let c = cycle_of (by rule) (nets_of s) (take inputs rows) st in
    first_among c.verdict (omega arith) (verdict_names rule s a (take inputs rows) st)
    (rw e at (flow_among rule s a inputs k (suc i) (drop inputs rows) c.state))

-- what a call answers: a result of which P holds, or a refusal of the table
pub data Answered {A : Type 0} (P : A → Type 0) : Answer A → Type 0 where
  gave : (x : A) → P x → Answered P (done x)
  turned_back : {r : Refusal} → Tabled r.number r.place → Answered P (refused r)

pub step_answered : (s st row nets : List ℕ) → Answered (Naming 8192) (step_of s st row nets).answer
unfolding as_step
step_answered s st row nets =
    either_way (step_refusal s st row nets)
    (λ h.
    let a = ((promised.when_accepted.step s st row nets).0 h).0 in
    rw (step_accepted s st row nets h) (gave (cycle_of plain (nets_of s) row (registers_in s st)).verdict (verdict_names gate_byte s a row (registers_in s st))))
    (λ r h. let e = step_refused s st row nets r h in rw e (turned_back (tabled s (table.step st row nets) r (omega arith) (rw e))))

pub run_answered : (s st : List ℕ) (k : ℕ) (rows outputs : List ℕ) → Answered (Among 4096 8192) (run_of s st k rows outputs).answer
unfolding as_run counting
run_answered s st k rows outputs =
    either_way (run_refusal s st k rows outputs)
    (λ h.
    let n = (promised.when_accepted.run s st k rows outputs).0 h in
    let rs = registers_in s st in
    let a = flow_among gate_byte s n.0 (sizes_of s).inputs k 0 rows rs in
    rw (run_accepted s st k rows outputs h)
    (gave (first_flow 0 (cycles_of plain (nets_of s) (sizes_of s).inputs k rows rs)) (record { cycle = omega (arith, a.cycle, n.1); verdict = a.verdict })))
    (λ r h. let e = run_refused s st k rows outputs r h in rw e (turned_back (tabled s (table.run st k rows outputs) r (omega arith) (rw e))))

pub static_run_answered : (s st : List ℕ) (k : ℕ) (rows outputs : List ℕ) → Answered (Among 4096 8192) (static_run_of s st k rows outputs).answer
unfolding as_run
static_run_answered s st k rows outputs =
    either_way (static_run_refusal s st k rows outputs)
    (λ h.
    let n = (promised.when_accepted.static_run s st k rows outputs).0 h in
    let a = flow_among static_byte s n.0 (sizes_of s).inputs k 0 rows st in
    rw (static_accepted s st k rows outputs h)
    (gave (first_flow 0 (cycles_of static (nets_of s) (sizes_of s).inputs k rows st)) (record { cycle = omega (arith, a.cycle, n.1); verdict = a.verdict })))
    (λ r h. let e = static_refused s st k rows outputs r h in rw e (turned_back (tabled s (table.static_run st k rows outputs) r (omega arith) (rw e))))

-- THE FIGURES of the doubled netlist
figure_answered : (s : List ℕ) (figure : ℕ) → (size_refusal s ≡ none → figure ≤ 8192) → Answered (λ n. n ≤ 8192) (figure_answer (doubled_size_of s).refusal figure)
figure_answered s figure few =
    rw (size_given s)
    (either_way (size_refusal s)
    (λ e. rw e (gave figure (few e)))
    (λ r e. rw e (turned_back (tabled s table.doubled_size_lem r (omega arith) (size_given s ∙ e)))))

pub few_nets : (s : List ℕ) → size_refusal s ≡ none → (doubled_size_of s).nets ≤ 8192
few_nets s e = rw (size_accepted s e) ((size_none s).0 e).1

pub size_answered : (s : List ℕ) → Answered (λ n. n ≤ 8192) (figure_answer (doubled_size_of s).refusal (doubled_size_of s).nets)
size_answered s = figure_answered s _ (few_nets s)

pub kind_answered : (s : List ℕ) (k : ℕ) → Answered (λ n. n ≤ 8192) (figure_answer (doubled_size_of s).refusal (get_or (doubled_size_of s).kinds k 0))
kind_answered s k =
    figure_answered s _
    (λ e. rw (size_accepted s e) (omega (arith, count_few k (doubled_nets (nets_of s)), doubled_length (nets_of s), ((size_none s).0 e).1)))

-- so the numbers fit
refusal_fits : {r : Refusal} → Tabled r.number r.place → refusal_code r < 2 ^ 64
refusal_fits t = omega (arith, t.most, t.low)

pub outcome_fits : {p : Option Refusal} → Given p → outcome_code p < 2 ^ 64
outcome_fits no = omega arith
outcome_fits (one t) = refusal_fits t

pub page_fits : {p : Option Refusal} → PageGiven p → page_code p < 2 ^ 64
page_fits wrote = omega arith
page_fits (turned t) = omega (arith, t.most, t.low)

pub naming_small : (v : Verdict) → Naming 8192 v → verdict_code v < 65536
naming_small clear h = omega arith
naming_small (flow i) (names l m) = omega arith

pub among_small : (f : FirstFlow) → Among 4096 8192 f → first_flow_code f < 2 ^ 32
among_small f a = omega (arith, a.cycle, naming_small f.verdict a.verdict)

pub answer_fits : {A : Type 0} {P : A → Type 0} (code : A → ℕ) {a : Answer A} → ((x : A) → P x → code x < 2 ^ 32) → Answered P a → answer_code code a < 2 ^ 64
answer_fits code small (gave x p) = omega (arith, small x p)
answer_fits code small (turned_back t) = refusal_fits t
