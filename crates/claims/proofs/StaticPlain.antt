-- Without unknowns and without start 2, static calls are the plain ones: on bytes 0 to 3 there is one filling, and the static rule is the plain one.
use Prim.Native.Nat.{ℕ, suc, ◌≤◌}
use native.Mathlib.Omega.{arith}
use mathlib.Core.Path.{◌≡◌, refl, sym, ◌∙◌, ap, ap₂}
use mathlib.Core.List.{List, [], ◌∷◌, Forall₂}
use mathlib.Core.Option.{none}
use mathlib.Core.Bool.{Bool, true, false, cond}
use lib.Dec.{eqb}
use lib.ListN.{get_or}
use borrow.Author.Tests.{eqb-true, ne_eqb}
use Rattle.gates.specs.Kinds.{REG}
use Rattle.gates.specs.Rules.{mark, gate_byte}
use Rattle.gates.proofs.Laws.{gates_code}
use Rattle.unknowns.specs.Filling.{static_byte}
use Rattle.unknowns.specs.Covering.{Covers, CoversAll}
use Rattle.unknowns.proofs.Covered.{covers_itself}
use Rattle.unknowns.proofs.Known.{static_known}
use Rattle.image.specs.declared.image.Net.{Net}
use Rattle.image.specs.Image.{sizes_of, net, nets_of}
use Rattle.image.proofs.Pairs.{pairs_imp, pairs_equal}
use Rattle.checking.specs.Check.{check_refusal}
use Rattle.checking.proofs.Checked.{check_none}
use Rattle.cycle.specs.Cycle.{plain, Cycle, cycles_of, registers}
use Rattle.cycle.specs.State.{with_count}
use Rattle.cycle.specs.Calls.{start, starts, counting}
use Rattle.cycle.proofs.States.{state_registers}
use Rattle.cycle.proofs.Cycles.{Kept, Judged, judged_alike, Related, cycles_related}
use Rattle.cycle.proofs.Calls.{either_way, power_up_accepted, power_up_refused, powered_up_lem, run_accepted, run_refused, run_none}
use Rattle.static_run.specs.StaticCalls.{static, static_start, static_starts, static_power_up_refusal, static_run_refusal}
use Rattle.static_run.proofs.StaticRefused.{static_power_up_accepted, static_power_up_refused, static_accepted, static_refused, static_none}
use Rattle.claims.specs.Accepted.{NoneAbove3}
use Rattle.claims.specs.StaticPlain.{StaticPlain}
use Rattle.claims.proofs.Unchanged.{not_some}
use Rattle.claims.proofs.Taken.{powered}
use Rattle.claims.proofs.StaticCovered.{same_refusal, same_power_up}

-- two bytes are the same, 0 to 3
record Same (x y : ℕ) : Type 0 where
  equal : x ≡ y
  small : x ≤ 3

same_gate : (kind a a' b b' c c' : ℕ) → Same a a' → Same b b' → Same c c' → Same (static_byte kind a b c) (gate_byte kind a' b' c')
same_gate kind a a' b b' c c' p q r =
    let e = static_known kind a b c p.small q.small r.small in
    record {
      equal = rw (← p.equal, ← q.equal, ← r.equal) e;
      small = rw e (gates_code kind a a b b c c p.small q.small r.small);
    }

same_kept : Kept static.gate plain.gate Same
same_kept = record { const = λ a h. record { equal = refl; small = omega arith }; gate = same_gate }

same_judged : Judged static.marked plain.marked Same ◌≡◌
same_judged = judged_alike (record { equal = refl; small = omega arith }) (λ x y h. ap mark h.equal)

-- CYCLES
same_lists : {xs ys : List ℕ} → Forall₂ Same xs ys → xs ≡ ys
same_lists = pairs_equal (λ x y h. h.equal)

same_cycle : (c d : Cycle) → Related Same ◌≡◌ c d → c ≡ d
same_cycle c d h = λ i. record { bytes = same_lists h.bytes i; verdict = h.verdict i; outputs = same_lists h.outputs i; state = same_lists h.state i }

same_cycles : {cs ds : List Cycle} → Forall₂ (Related Same ◌≡◌) cs ds → cs ≡ ds
same_cycles = pairs_equal same_cycle

-- known bytes, one after the other
each_same : (xs : List ℕ) → NoneAbove3 xs → Forall₂ Same xs xs
each_same [] h = Forall₂.nil
each_same (x ∷ xs) h = Forall₂.cons (record { equal = refl; small = h 0 (omega arith) }) (each_same xs (λ i l. h (suc i) (omega arith)))

each_covers : (xs : List ℕ) → NoneAbove3 xs → CoversAll xs xs
each_covers xs h = pairs_imp same_covers (each_same xs h)
  where
    same_covers : (x y : ℕ) → Same x y → Covers x y
    same_covers x y s = rw (← s.equal) (covers_itself s.small)

-- POWER-UP
same_start : (b : ℕ) → (b ≡ 2 → ⊥) → static_start b ≡ start b
unfolding static_start
same_start b h = rw (ne_eqb b 2 h)

same_starts : (xs : List Net) → ((i : ℕ) → (get_or xs i (net 0 0 0 0)).kind ≡ REG → (get_or xs i (net 0 0 0 0)).b ≡ 2 → ⊥) → static_starts xs ≡ starts xs
unfolding static_starts starts registers
same_starts [] h = refl
same_starts (x ∷ xs) h = one (eqb x.kind REG) refl (same_starts xs (λ i. h (suc i)))
  where
    one : (c : Bool) → eqb x.kind REG ≡ c → {ys zs : List ℕ} → ys ≡ zs → cond c (static_start x.b ∷ ys) ys ≡ cond c (start x.b ∷ zs) zs
    one true e p = ap₂ (λ y ys. y ∷ ys) (same_start x.b (h 0 (eqb-true _ _ e))) p
    one false e p = p

pub static_plain : StaticPlain
static_plain s =
    record {
      power_up_refusal_lem = λ st st' l.
          let same = same_power_up s st st' l in
          either_way (static_power_up_refusal s st)
          (λ e. rw (static_power_up_accepted s st e, power_up_accepted s st' (sym same ∙ e)))
          (λ r e. rw (static_power_up_refused s st r e, power_up_refused s st' r (sym same ∙ e)));
      power_up = λ h st st' k k'.
          let p = powered s st' k' in
          either_way (static_power_up_refusal s st)
          (λ e. rw (static_power_up_accepted s st e, powered_up_lem s st' p.0 p.1, same_starts (nets_of s) h))
          (λ r e. absurd (not_some (sym (rw (static_power_up_refused s st r e) at k))));
      cycles = cycles_same;
      run = λ rs k rows outputs p q.
          let st = with_count rs in
          let same = same_refusal s k outputs outputs (each_covers rs q) (each_covers rows p) refl in
          either_way (static_run_refusal s rs k rows outputs)
          (λ e.
          let e' = sym same ∙ e in
          let back = state_registers rs ((static_none s rs k rows outputs).0 e).0.registers.size in
          run_accepted s st k rows outputs e'
          ∙ rw (static_accepted s rs k rows outputs e, back, cycles_same ((check_none s).1 ((run_none s st k rows outputs).0 e').0.image) k rows rs p q))
          (λ r e. run_refused s st k rows outputs r (sym same ∙ e) ∙ unfold counting in rw (static_refused s rs k rows outputs r e));
    }
  where
    cycles_same : check_refusal s ≡ none → (k : ℕ) (rows st : List ℕ) → NoneAbove3 rows → NoneAbove3 st
        → cycles_of static (nets_of s) (sizes_of s).inputs k rows st ≡ cycles_of plain (nets_of s) (sizes_of s).inputs k rows st
    cycles_same h k rows st p q =
        same_cycles (cycles_related static plain same_kept same_judged ((check_none s).0 h).nets (sizes_of s).inputs k (each_same rows p) (each_same st q))
