-- What is read from the number of an answer is the answer.
use Prim.Native.Nat.{ℕ, ◌/◌, ◌%◌, ◌^◌, ◌≤◌, ◌<◌, min}
use native.Mathlib.Omega.{arith}
use native.Mathlib.Nat.{min-eq_left}
use mathlib.Core.Path.{◌≡◌, refl, ap, ◌∙◌}
use mathlib.Core.Option.{Option, none, some}
use mathlib.Core.Bool.{cond}
use borrow.Author.Tests.{lt-ltb, le-ltb, ne_eqb}
use Rattle.refusals.specs.declared.answer.Refusal.{Refusal}
use Rattle.cycle.specs.Cycle.{Verdict, clear, flow, FirstFlow}
use Rattle.cycle.specs.Calls.{Answer, done}
use Rattle.paging.specs.Paging.{page_of}
use Rattle.codes.specs.Codes.{refusal_code, low_place, low_places, outcome_code, page_code, verdict_code, first_flow_code, answer_code}
use Rattle.codes.specs.Readings.{refusal_read, outcome_read, verdict_read, step_read, first_flow_read, run_read, figure_read, CodesRead}
use Rattle.codes.proofs.Given.{Tabled, Given, no, one, check_given, powered_up_given, static_powered_up_given, doubled_given, PageGiven, wrote, turned, page_given, page_low}
use Rattle.codes.proofs.Small.{Naming, no_net, names, Among, Answered, gave, turned_back, step_answered, run_answered, static_run_answered, size_answered, kind_answered, naming_small, among_small}

-- a refusal: its number is not below 2^32, and is taken apart
large : {r : Refusal} → Tabled r.number r.place → 2 ^ 32 ≤ refusal_code r
large t = omega (arith, t.some_number)

refusal_read_lem : {r : Refusal} → Tabled r.number r.place → refusal_read (refusal_code r) ≡ r
refusal_read_lem {r} t =
    let number : refusal_code r / 2 ^ 32 ≡ r.number = omega (arith, t.low) in
    let place : refusal_code r % 2 ^ 32 ≡ r.place = omega (arith, t.low) in
    rw (number, place)

outcome_read_lem : {p : Option Refusal} → Given p → outcome_read (outcome_code p) ≡ p
outcome_read_lem no = refl
outcome_read_lem (one {r} t) = rw (le-ltb (refusal_code r) (2 ^ 32) (large t), refusal_read_lem t)

-- pages
page_read : {p : Option Refusal} → PageGiven p → outcome_read (page_code p) ≡ low_places p
page_read wrote = refl
page_read (turned {r} t) = rw (le-ltb (refusal_code (low_place r)) (2 ^ 32) (large {r = low_place r} t), refusal_read_lem {r = low_place r} t)

low_as_it_is : (p : Option Refusal) → ((r : Refusal) → p ≡ some r → r.place < 2 ^ 32) → low_places p ≡ p
low_as_it_is none h = refl
low_as_it_is (some r) h = let e : min r.place 4294967295 ≡ r.place = min-eq_left (omega (arith, h r refl)) in rw e

-- a verdict
verdict_read_lem : {v : Verdict} → Naming 8192 v → verdict_read (verdict_code v) ≡ v
verdict_read_lem no_net = refl
verdict_read_lem (names {i} l m) = ap (λ t. cond t clear (flow i)) (ne_eqb i 65535 (λ e. omega arith))

verdict_not_0 : {v : Verdict} → Naming 8192 v → 1 ≤ verdict_code v
verdict_not_0 no_net = omega arith
verdict_not_0 (names l m) = l

step_read_lem : {a : Answer Verdict} → Answered (Naming 8192) a → step_read (answer_code verdict_code a) ≡ a
step_read_lem (gave v h) =
    let small = naming_small v h in
    let rest : verdict_code v % 65536 ≡ verdict_code v = omega arith in
    rw (lt-ltb (verdict_code v) (2 ^ 32) (omega arith), rest, verdict_read_lem h)
step_read_lem (turned_back {r} t) = rw (le-ltb (refusal_code r) (2 ^ 32) (large t), refusal_read_lem t)

step_below : {a : Answer Verdict} → Answered (Naming 8192) a → {v : Verdict} → a ≡ done v → verdict_code v < 65536
step_below (gave w h) {v} e = let same : w ≡ v = cc in rw (← same) (naming_small w h)
step_below (turned_back t) {v} e = let z : ◌≡◌ {A = ℕ} 0 1 = cc in absurd (omega arith)

step_some : {a : Answer Verdict} → Answered (Naming 8192) a → 1 ≤ answer_code verdict_code a
step_some (gave v h) = verdict_not_0 h
step_some (turned_back t) = omega (arith, large t)

-- a first flow
rest : (f : FirstFlow) → Among 4096 8192 f → first_flow_code f % 65536 ≡ verdict_code f.verdict
rest f a = omega (arith, naming_small f.verdict a.verdict)

flow_read : (f : FirstFlow) → Among 4096 8192 f → first_flow_read (first_flow_code f) ≡ f
flow_read f a =
    let cycle : first_flow_code f / 65536 ≡ f.cycle = omega (arith, naming_small f.verdict a.verdict) in
    rw (cycle, rest f a, verdict_read_lem a.verdict)

run_read_lem : {a : Answer FirstFlow} → Answered (Among 4096 8192) a → run_read (answer_code first_flow_code a) ≡ a
run_read_lem (gave f a) = rw (lt-ltb (first_flow_code f) (2 ^ 32) (among_small f a), flow_read f a)
run_read_lem (turned_back {r} t) = rw (le-ltb (refusal_code r) (2 ^ 32) (large t), refusal_read_lem t)

run_some : {a : Answer FirstFlow} → Answered (Among 4096 8192) a → {f : FirstFlow} → a ≡ done f → 1 ≤ first_flow_code f % 65536
run_some (gave g a) {f} e = let same : g ≡ f = cc in rw (← same, rest g a) (verdict_not_0 a.verdict)
run_some (turned_back t) {f} e = let z : ◌≡◌ {A = ℕ} 0 1 = cc in absurd (omega arith)

-- a figure of the doubled netlist
figure_read_lem : {a : Answer ℕ} → Answered (λ n. n ≤ 8192) a → figure_read (answer_code (λ n. n) a) ≡ a
figure_read_lem (gave n h) = rw (lt-ltb n (2 ^ 32) (omega arith))
figure_read_lem (turned_back {r} t) = rw (le-ltb (refusal_code r) (2 ^ 32) (large t), refusal_read_lem t)

pub reads : CodesRead
reads =
    record {
      check = λ s. outcome_read_lem (check_given s);
      power_up = λ s st. outcome_read_lem (powered_up_given s st);
      step = λ s st row nets. step_read_lem (step_answered s st row nets);
      run = λ s st k rows outputs. run_read_lem (run_answered s st k rows outputs);
      static_power_up = λ s st. outcome_read_lem (static_powered_up_given s st);
      static_run = λ s st k rows outputs. run_read_lem (static_run_answered s st k rows outputs);
      doubled_size_lem = λ s. figure_read_lem (size_answered s);
      doubled_kind = λ s k. figure_read_lem (kind_answered s k);
      double = λ s buffer. outcome_read_lem (doubled_given s buffer);
      page = λ s k outputs buf. page_read (page_given s k outputs buf);
      page_exact = λ s k outputs buf h. page_read (page_given s k outputs buf) ∙ low_as_it_is (page_of s k outputs buf).refusal (λ r e. page_low s k outputs buf r h e);
      refusal_is = λ r. refl;
      clear_is = refl;
      flow_is = λ net. refl;
      first_flow_is = λ f. refl;
      step_small = λ s st row nets e. step_below (step_answered s st row nets) e;
      done_is_0 = refl;
      step_not_0 = λ s st row nets. step_some (step_answered s st row nets);
      run_not_0 = λ s st k rows outputs e. run_some (run_answered s st k rows outputs) e;
      static_run_not_0 = λ s st k rows outputs e. run_some (static_run_answered s st k rows outputs) e;
    }
