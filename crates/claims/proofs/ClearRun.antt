-- A clear run stays clear whatever the values of marked pins and marked registers, from any state.
use Prim.Native.Nat.{ℕ, zero, suc, ◌+◌, ◌*◌, ◌/◌, ◌%◌, ◌<◌}
use native.Mathlib.Nat.{suc-mul}
use native.Mathlib.Omega.{arith}
use mathlib.Core.Path.{◌≡◌, refl, ap}
use mathlib.Core.List.Forall₂
use mathlib.Core.List.{List, [], ◌∷◌, ◌++◌, map}
use mathlib.Core.Bool.{Bool, true, false}
use borrow.Author.Tests.{eqb-false}
use lib.ListN.{length, get_or, take, drop, get_or-append}
use lib.Seq.{get_or-append-add}
use Rattle.gates.specs.Kinds.{OUT}
use Rattle.gates.specs.Rules.{mark, gate_byte}
use Rattle.gates.specs.Relations.{AgreeByte, same, low_high, high_low}
use Rattle.image.specs.Image.{sizes_of, nets_of}
use Rattle.image.proofs.Pairs.{pairs_get_or}
use Rattle.image.proofs.Nets.{length_nets}
use Rattle.checking.proofs.Checked.{check_none}
use Rattle.cycle.specs.Cycle.{Rules, plain, Verdict, clear, cycle_of, cycles_of, outputs_of, FirstFlow, first_flow}
use Rattle.cycle.specs.State.{registers_in}
use Rattle.cycle.specs.Calls.{done, as_run, counting, run_of}
use Rattle.cycle.proofs.Calls.{Ready, lent_ready, run_none, run_accepted, first_ready, rest_ready}
use Rattle.claims.specs.NetBytes.{net_of, place_of}
use Rattle.claims.specs.Verdicts as judged
use Rattle.claims.specs.Verdicts.{Judged, First}
use Rattle.claims.specs.History.{run, ran, call_result, Finished}
use Rattle.claims.specs.TwoRun.{Matched}
use Rattle.claims.specs.InBytes.{clear_after, ClearStays}
use Rattle.claims.proofs.NetBytes.{net_bytes}
use Rattle.claims.proofs.Verdicts.{verdicts, first_flows}
use Rattle.claims.proofs.TwoRun.{demand3}
use Rattle.claims.proofs.Agreeing.{marks_agree, marks_agree_states, agree_marks_states}
use Rattle.claims.proofs.Taken.{run_taken}
use Rattle.claims.proofs.OneCall.{same_one}

-- OUTPUTS that agree are equal where the first is unmarked
unmarked_equal : {x y : ℕ} → AgreeByte x y → x / 2 % 2 ≡ 0 → x ≡ y
unmarked_equal same h = refl
unmarked_equal low_high h = absurd (omega arith)
unmarked_equal high_low h = absurd (omega arith)

-- VERDICTS that are all clear
clear_each : {vs : List Verdict} {f : FirstFlow} → First vs f → f.verdict ≡ clear → (c : ℕ) → c < length vs → get_or vs c clear ≡ clear
clear_each (judged.all_clear h) e = h
clear_each (judged.first l h b) e = absurd (let z : ◌≡◌ {A = ℕ} 0 1 = cc in omega arith)

-- a protected OUT of a clear cycle is unmarked
unmarked : (s bs : List ℕ) {v : Verdict} → Judged (nets_of s) bs v → v ≡ clear
    → (i : ℕ) → i < (sizes_of s).nets → (net_of s i).kind ≡ OUT → (net_of s i).b ≡ 1 → get_or bs i 0 / 2 % 2 ≡ 0
unfolding mark
unmarked s bs (judged.lowest m h) e i l k p = absurd (let z : ◌≡◌ {A = ℕ} 0 1 = cc in omega arith)
unmarked s bs (judged.none h) e i l k p =
    by_mark (mark (get_or bs i 0)) refl
  where
    by_mark : (t : Bool) → mark (get_or bs i 0) ≡ t → get_or bs i 0 / 2 % 2 ≡ 0
    by_mark true t = absurd (h i (record { below = omega (arith, length_nets s); out = k; protected = p; marked = t }))
    by_mark false t = let n = eqb-false (get_or bs i 0 / 2 % 2) 1 t in omega arith

-- CYCLES that are all clear: the outputs of k cycles, at the place of a protected OUT in cycle c
module _ (s : List ℕ) (i : ℕ) (l : i < (sizes_of s).nets) (out : (net_of s i).kind ≡ OUT) (protected : (net_of s i).b ≡ 1) where
  abbrev at : (c : ℕ) → ℕ
  at c = c * (sizes_of s).outputs + place_of OUT s i

  first_unmarked : (row st rest : List ℕ) → Ready s st (sizes_of s).inputs row → (cycle_of plain (nets_of s) row st).verdict ≡ clear
      → get_or ((cycle_of plain (nets_of s) row st).outputs ++ rest) (place_of OUT s i) 0 / 2 % 2 ≡ 0
  first_unmarked row st rest r e =
      let o = cycle_of plain (nets_of s) row st in
      let b = (net_bytes s row st ((check_none s).1 r.image) r.size r.registers.size).output_byte i l out in
      rw (get_or-append o.outputs rest 0 (place_of OUT s i) b.below, b.byte)
      (unmarked s o.bytes (verdicts gate_byte (nets_of s) row st) e i l out protected)

  later_place : (xs rest : List ℕ) (c : ℕ) → length xs ≡ (sizes_of s).outputs → get_or (xs ++ rest) (at (suc c)) 0 ≡ get_or rest (at c) 0
  later_place xs rest c h =
      let e : at (suc c) ≡ length xs + at c = omega (arith, suc-mul c (sizes_of s).outputs) in
      rw e (get_or-append-add xs rest (at c) 0)

  all_unmarked : (k : ℕ) (rows st : List ℕ) → Ready s st (k * (sizes_of s).inputs) rows
      → let cs = cycles_of plain (nets_of s) (sizes_of s).inputs k rows st in
      ((c : ℕ) → c < k → get_or (map (λ o. o.verdict) cs) c clear ≡ clear) → (c : ℕ) → c < k → get_or (outputs_of cs) (at c) 0 / 2 % 2 ≡ 0
  unfolding cycles_of outputs_of
  all_unmarked zero rows st r h c m = absurd (omega arith)
  all_unmarked (suc k) rows st r h zero m =
      let e : at 0 ≡ place_of OUT s i = omega arith in
      rw e (first_unmarked (take (sizes_of s).inputs rows) st _ (first_ready k r) (h 0 m))
  all_unmarked (suc k) rows st r h (suc c) m =
      let o = cycle_of plain (nets_of s) (take (sizes_of s).inputs rows) st in
      let f = first_ready k r in
      let n = (net_bytes s (take (sizes_of s).inputs rows) st ((check_none s).1 f.image) f.size f.registers.size).outputs in
      rw (later_place o.outputs (outputs_of (cycles_of plain (nets_of s) (sizes_of s).inputs k (drop (sizes_of s).inputs rows) o.state)) c n)
      (all_unmarked k (drop (sizes_of s).inputs rows) o.state (rest_ready k r) (λ d q. h (suc d) (omega arith)) c (omega arith))

-- how many cycles there are
pub cycles_length : (rules : Rules) (s : List ℕ) (k : ℕ) (rows st : List ℕ) → length (map (λ o. o.verdict) (cycles_of rules (nets_of s) (sizes_of s).inputs k rows st)) ≡ k
unfolding cycles_of
cycles_length rules s zero rows st = refl
cycles_length rules s (suc k) rows st = ap suc (cycles_length rules s k _ _)

-- the outputs of a clear run
run_unmarked : (s st : List ℕ) (k : ℕ) (rows outputs : List ℕ) → (run_of s st k rows outputs).answer ≡ clear_after k
    → (c i : ℕ) → c < k → i < (sizes_of s).nets → (net_of s i).kind ≡ OUT → (net_of s i).b ≡ 1
    → get_or (run_of s st k rows outputs).outputs (c * (sizes_of s).outputs + place_of OUT s i) 0 / 2 % 2 ≡ 0
unfolding as_run counting
run_unmarked s st k rows outputs h c i m l out protected =
    let t = run_taken s st k rows outputs h in
    let e = run_accepted s st k rows outputs t in
    let rs = registers_in s st in
    let cs = cycles_of plain (nets_of s) (sizes_of s).inputs k rows rs in
    let f : done (first_flow 0 cs) ≡ clear_after k = rw e at h in
    let v : (first_flow 0 cs).verdict ≡ clear = cc in
    let each = clear_each (first_flows cs) v in
    rw e (all_unmarked s i l out protected k rows rs (lent_ready ((run_none s st k rows outputs).0 t).0)
    (λ d q. each d (omega (arith, cycles_length plain s k rows rs))) c m)

pub clear_stays : ClearStays
unfolding call_result
clear_stays s st st' k rows rows' outputs outputs' q p l h =
    let r = ((run_none s st k rows outputs).0 (run_taken s st k rows outputs h)).0 in
    let matched = Forall₂.cons (Matched.runs {k = k} (marks_agree rows' r.codes p) l) Forall₂.nil in
    let two = demand3 s ((check_none s).1 r.image) (run k rows outputs ∷ []) (run k rows' outputs' ∷ []) matched in
    let ends : Finished (ran (run_of s st k rows outputs).answer) = rw h Finished.a_run in
    let t = same_one (two.from_states st st' (marks_agree_states st' r.state.registers.codes q)) ends in
    let e = t.answer in
    record {
      answer = cc;
      protected = λ d i m n out q.
          let u = run_unmarked s st k rows outputs h d i m n out q in
          (u, unmarked_equal (pairs_get_or (d * (sizes_of s).outputs + place_of OUT s i) 0 same t.buffer) u);
      state = agree_marks_states t.state;
    }
