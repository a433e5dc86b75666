-- What a number says that a call answers with, by the record of promises.
use Prim.Native.Nat.{ℕ, ◌+◌, ◌*◌, ◌/◌, ◌%◌, ◌^◌, ◌≤◌, ◌<◌}
use native.Mathlib.Omega.{arith}
use mathlib.Core.Path.{◌≡◌, refl, sym, ap, ◌∙◌}
use mathlib.Core.List.{List}
use mathlib.Core.Option.{Option, none, some}
use mathlib.Core.Bool.{cond}
use lib.Dec.{ltb}
use borrow.Author.Tests.{lt-ltb, le-ltb, ne_eqb}
use lib.ListN.{length, get_or-eq_default}
use Rattle.gates.specs.Rules.{gate_byte}
use Rattle.image.specs.declared.image.Net.{Net}
use Rattle.image.specs.Image.{sizes_of, nets_of, count}
use Rattle.refusals.specs.declared.answer.Refusal.{Refusal}
use Rattle.refusals.proofs.Refusals.{length_none}
use Rattle.checking.proofs.Checked.{check_none}
use Rattle.cycle.specs.Cycle.{Rules, plain, Verdict, clear, flow, cycles_of, FirstFlow, first_flow}
use Rattle.cycle.specs.State.{registers_in}
use Rattle.cycle.specs.Calls.{Answer, done, refused, as_step, as_run, counting, step_refusal, step_of, run_of}
use Rattle.cycle.proofs.Calls.{either_way, step_accepted, step_refused, run_accepted}
use Rattle.static_run.specs.StaticCalls.{static, static_run_of}
use Rattle.static_run.proofs.StaticRefused.{static_accepted}
use Rattle.figures.specs.Figures.{doubled_size_of}
use Rattle.figures.proofs.Refusing.{size_accepted, size_given}
use Rattle.doubling.specs.Doubling.{double_of}
use Rattle.claims.specs.Refused as table
use Rattle.claims.specs.Refused.{check}
use Rattle.claims.specs.Verdicts as judged
use Rattle.claims.specs.Verdicts.{MarkedOutput, Judged, First}
use Rattle.claims.specs.InBytes.{clear_after}
use Rattle.claims.proofs.Unchanged.{not_refused}
use Rattle.claims.proofs.Taken.{powered, run_taken, static_run_taken}
use Rattle.claims.proofs.ClearRun.{cycles_length}
use Rattle.claims.proofs.Promised.{promised}
use Rattle.codes.specs.Codes.{outcome_code, verdict_code, first_flow_code, answer_code, size_code, kind_code, page_code}
use Rattle.codes.specs.Readings.{outcome_read, step_read, run_read}
use Rattle.codes.specs.Says.{NumbersSay}
use Rattle.codes.proofs.Given.{tabled, PageGiven, wrote, turned, page_given}
use Rattle.codes.proofs.Small.{Answered, gave, turned_back, step_answered, run_answered, static_run_answered, few_nets, naming_small, among_small}
use Rattle.codes.proofs.Readings.{reads}

-- REFUSED: the answer of which the number is 2^32 or more
record Turned {A : Type 0} (no : Refusal → A) (a : A) : Type 0 where
  refusal : Refusal
  is : a ≡ no refusal

turned_outcome : (o : Option Refusal) → 2 ^ 32 ≤ outcome_code o → Turned some o
turned_outcome none h = absurd (omega arith)
turned_outcome (some r) h = record { refusal = r; is = refl }

turned_pages : (o : Option Refusal) → 2 ^ 32 ≤ page_code o → Turned some o
turned_pages none h = absurd (omega arith)
turned_pages (some r) h = record { refusal = r; is = refl }

-- pages that are written
pages_written : {o : Option Refusal} → PageGiven o → page_code o ≡ 0 → o ≡ none
pages_written wrote h = refl
pages_written (turned t) h = absurd (omega (arith, t.some_number))

turned_answer : {A : Type 0} {P : A → Type 0} (code : A → ℕ) {a : Answer A} → ((x : A) → P x → code x < 2 ^ 32) → Answered P a
    → 2 ^ 32 ≤ answer_code code a → Turned refused a
turned_answer code small (gave x p) h = absurd (omega (arith, small x p))
turned_answer code small (turned_back {r} t) h = record { refusal = r; is = refl }

-- CLEAR. A verdict that is clear
none_marked : {xs : List Net} {bs : List ℕ} {v : Verdict} → Judged xs bs v → v ≡ clear → (i : ℕ) → MarkedOutput xs bs i → ⊥
none_marked (judged.none h) e = h
none_marked (judged.lowest m h) e = let z : ◌≡◌ {A = ℕ} 0 1 = cc in absurd (omega arith)

step_unmarked : (s st row nets : List ℕ) → (step_of s st row nets).answer ≡ done clear → (i : ℕ) → MarkedOutput (nets_of s) (step_of s st row nets).nets i → ⊥
unfolding as_step
step_unmarked s st row nets h =
    either_way (step_refusal s st row nets)
    (λ e.
    let a = step_accepted s st row nets e in
    let v : done _ ≡ done clear = rw a at h in
    rw a (none_marked (promised.verdicts gate_byte (nets_of s) row (registers_in s st)) cc))
    (λ r e. absurd (not_refused (sym (rw (step_refused s st row nets r e) at h))))

-- a verdict that is a flow
marked_at : {xs : List Net} {bs : List ℕ} {v : Verdict} → Judged xs bs v → (i : ℕ) → v ≡ flow i → MarkedOutput xs bs i
marked_at (judged.none h) i e = let z : ◌≡◌ {A = ℕ} 0 1 = cc in absurd (omega arith)
marked_at (judged.lowest {i = j} m h) i e = let k : j ≡ i = cc in rw (← k) m

step_marked : (s st row nets : List ℕ) (i : ℕ) → (step_of s st row nets).answer ≡ done (flow i) → MarkedOutput (nets_of s) (step_of s st row nets).nets i
unfolding as_step
step_marked s st row nets i h =
    either_way (step_refusal s st row nets)
    (λ e.
    let a = step_accepted s st row nets e in
    let v : done _ ≡ done (flow i) = rw a at h in
    rw a (marked_at (promised.verdicts gate_byte (nets_of s) row (registers_in s st)) i cc))
    (λ r e. absurd (not_refused (sym (rw (step_refused s st row nets r e) at h))))

flow_read : (n : ℕ) → n < 65535 → step_read n ≡ done (flow n)
flow_read n h =
    let rest : n % 65536 ≡ n = omega arith in
    rw (lt-ltb n (2 ^ 32) (omega arith), rest, ne_eqb n 65535 (λ e. omega arith))

refusal_read_lem : (n p : ℕ) → 1 ≤ n → p < 2 ^ 32 → outcome_read (n * 2 ^ 32 + p) ≡ some (record { number = n; place = p })
refusal_read_lem n p h k =
    let number : (n * 2 ^ 32 + p) / 2 ^ 32 ≡ n = omega arith in
    let place : (n * 2 ^ 32 + p) % 2 ^ 32 ≡ p = omega arith in
    rw (le-ltb (n * 2 ^ 32 + p) (2 ^ 32) (omega arith), number, place)

-- a first flow that is clear has the number of cycles
clear_cycle : {vs : List Verdict} {f : FirstFlow} → First vs f → f.verdict ≡ clear → f ≡ record { cycle = length vs; verdict = clear }
clear_cycle (judged.all_clear h) e = refl
clear_cycle (judged.first l h b) e = let z : ◌≡◌ {A = ℕ} 0 1 = cc in absurd (omega arith)

-- so a run by any rules, with its cycles cs, answers that it is clear with K
clear_answer : (rules : Rules) (s st : List ℕ) (k : ℕ) (rows : List ℕ) {answer : Answer FirstFlow} (f : FirstFlow)
    → answer ≡ done (first_flow 0 (cycles_of rules (nets_of s) (sizes_of s).inputs k rows st)) → answer ≡ done f → f.verdict ≡ clear → answer ≡ clear_after k
clear_answer rules s st k rows f is h e =
    let cs = cycles_of rules (nets_of s) (sizes_of s).inputs k rows st in
    let g : done (first_flow 0 cs) ≡ done f = sym is ∙ h in
    let v : (first_flow 0 cs).verdict ≡ clear = cc in
    is ∙ rw (clear_cycle (promised.first_flows cs) v, cycles_length rules s k rows st)

-- a number below 2^32 is no refusal
below_read : {A : Type 0} (n : ℕ) (x y : A) → n < 2 ^ 32 → cond (ltb n (2 ^ 32)) x y ≡ x
below_read n x y h = rw (lt-ltb n (2 ^ 32) h)

-- the number of a clear run
clear_read : (n : ℕ) → n < 2 ^ 32 → n % 65536 ≡ 65535 → run_read n ≡ done (record { cycle = n / 65536; verdict = clear })
clear_read n l m = rw (lt-ltb n (2 ^ 32) l, m)

run_is_clear : (s st : List ℕ) (k : ℕ) (rows outputs : List ℕ)
    → let n = answer_code first_flow_code (run_of s st k rows outputs).answer in
    n < 2 ^ 32 → n % 65536 ≡ 65535 → (run_of s st k rows outputs).answer ≡ clear_after k
unfolding as_run counting
run_is_clear s st k rows outputs l m =
    let h = sym (reads.run s st k rows outputs) ∙ clear_read _ l m in
    clear_answer plain s (registers_in s st) k rows _ (rw (run_accepted s st k rows outputs (run_taken s st k rows outputs h))) h refl

static_is_clear : (s st : List ℕ) (k : ℕ) (rows outputs : List ℕ)
    → let n = answer_code first_flow_code (static_run_of s st k rows outputs).answer in
    n < 2 ^ 32 → n % 65536 ≡ 65535 → (static_run_of s st k rows outputs).answer ≡ clear_after k
unfolding as_run
static_is_clear s st k rows outputs l m =
    let h = sym (reads.static_run s st k rows outputs) ∙ clear_read _ l m in
    clear_answer static s st k rows _ (rw (static_accepted s st k rows outputs (static_run_taken s st k rows outputs h))) h refl

-- THE FIGURES of the doubled netlist
module _ (s buf : List ℕ) where
  is_done : outcome_code (double_of s buf).refusal ≡ 0 → (double_of s buf).refusal ≡ none
  is_done h = sym (reads.double s buf) ∙ ap outcome_read h

  size_is : (o : Option Refusal) → (doubled_size_of s).refusal ≡ o → size_code (doubled_size_of s) < 2 ^ 32 → length buf ≡ 8 + 7 * size_code (doubled_size_of s)
      → (outcome_code (double_of s buf).refusal ≡ 0) × ((sizes_of (double_of s buf).buffer).nets ≡ size_code (doubled_size_of s))
  size_is none e h l =
      let a = size_accepted s (sym (size_given s) ∙ e) in
      let fits : length buf ≡ (doubled_size_of s).bytes = rw e at l ∙ rw a in
      let w : (double_of s buf).refusal ≡ none = promised.turns_back_alike s buf ∙ rw e ((length_none 16 _ buf).1 fits) in
      (ap outcome_code w, rw e (sym (promised.figures_written s buf w).nets))
  size_is (some r) e h l =
      let t = tabled s table.doubled_size_lem r (omega arith) e in
      absurd (let below = rw e at h in omega (arith, t.some_number))

  size_turned : (k : ℕ) (o : Option Refusal) → (doubled_size_of s).refusal ≡ o → 2 ^ 32 ≤ size_code (doubled_size_of s)
      → (outcome_code (double_of s buf).refusal ≡ size_code (doubled_size_of s)) × (kind_code (doubled_size_of s) k ≡ size_code (doubled_size_of s))
  size_turned k none e h = absurd (let above = rw e at h in omega (arith, few_nets s (sym (size_given s) ∙ e)))
  size_turned k (some r) e h = (rw (promised.turns_back_alike s buf, e), rw e)

  kind_is : (k : ℕ) → k ≤ 8 → (double_of s buf).refusal ≡ none → kind_code (doubled_size_of s) k ≡ count k (nets_of (double_of s buf).buffer)
  kind_is k l w = let f = promised.figures_written s buf w in rw f.accepted (f.kinds k l)

  no_kind : (k : ℕ) → 8 < k → (double_of s buf).refusal ≡ none → kind_code (doubled_size_of s) k ≡ 0
  no_kind k l w =
      let f = promised.figures_written s buf w in
      rw f.accepted (get_or-eq_default (doubled_size_of s).kinds 0 {n = k} (omega (arith, f.nine)))

pub says : NumbersSay
says =
    record {
      check = λ s. (
        λ h. (promised.when_accepted.check s).0 (sym (reads.check s) ∙ ap outcome_read h),
        λ a. ap outcome_code ((promised.when_accepted.check s).1 a),
      );
      power_up_kept = λ s st h. let t = turned_outcome _ h in promised.unchanged.power_up s st t.refusal t.is;
      step_kept = λ s st row nets h.
          let t = turned_answer verdict_code (λ v p. omega (arith, naming_small v p)) (step_answered s st row nets) h in
          promised.unchanged.step s st row nets t.refusal t.is;
      run_kept = λ s st k rows outputs h.
          let t = turned_answer first_flow_code among_small (run_answered s st k rows outputs) h in
          promised.unchanged.run s st k rows outputs t.refusal t.is;
      static_power_up_kept = λ s st h. let t = turned_outcome _ h in promised.unchanged.static_power_up s st t.refusal t.is;
      static_run_kept = λ s st k rows outputs h.
          let t = turned_answer first_flow_code among_small (static_run_answered s st k rows outputs) h in
          promised.unchanged.static_run s st k rows outputs t.refusal t.is;
      double_kept = λ s buf h. let t = turned_outcome _ h in promised.unchanged.double s buf t.refusal t.is;
      page_kept = λ s k outputs buf h. let t = turned_pages _ h in promised.unchanged.page s k outputs buf t.refusal t.is;
      page_written = λ s k outputs buf h.
          let w = pages_written (page_given s k outputs buf) h in (
            promised.page_shape s k outputs buf w,
            promised.page_heading s k outputs buf w,
            promised.page_net s k outputs buf w,
            promised.page_sign s k outputs buf w,
          );
      doubled_size_lem = λ s buf h l. size_is s buf _ refl h l;
      doubled_turned = λ s buf k. size_turned s buf k _ refl;
      doubled_kind = λ s buf k l h. kind_is s buf k l (is_done s buf h);
      doubled_no_kind = λ s buf k l h. no_kind s buf k l (is_done s buf h);
      step_clear = λ s st row nets h. step_unmarked s st row nets (sym (reads.step s st row nets) ∙ ap step_read h);
      step_flow = λ s st row nets h. step_marked s st row nets _ (sym (reads.step s st row nets) ∙ flow_read _ h);
      check_refused = λ s n p h k e. (promised.refusals s check (record { number = n; place = p })).0 (sym (reads.check s) ∙ ap outcome_read e ∙ refusal_read_lem n p h k);
      run_clear = λ s st st' k rows rows' outputs outputs' q p l m n.
          promised.clear_stays s st st' k rows rows' outputs outputs' q p l (run_is_clear s st k rows outputs m n);
      static_clear = λ s st st' k codes rows outputs outputs' p q l m n.
          promised.static_clear.run s st st' k codes rows outputs outputs' p q l (static_is_clear s st k codes outputs m n);
      static_powered_up = λ s a st h w. promised.static_clear.wakes s a st (sym (reads.static_power_up s a) ∙ ap outcome_read h) w;
      power_up_counted = λ s a h. promised.count_kept.power_up s a (sym (reads.power_up s a) ∙ ap outcome_read h);
      step_counted = λ s st row nets h. promised.count_kept.step s st row nets _ (sym (reads.step s st row nets) ∙ below_read _ _ _ h);
      run_counted = λ s st k rows outputs h. promised.count_kept.run s st k rows outputs _ (sym (reads.run s st k rows outputs) ∙ below_read _ _ _ h);
      powered_up_lem = λ s a st h w.
          let c = powered s a (sym (reads.power_up s a) ∙ ap outcome_read h) in
          ((promised.unknown_start s ((check_none s).1 c.0)).states a st c.1).0 w;
    }
