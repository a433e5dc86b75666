-- Demand 3: the two-run property of two lists of calls, and of the same calls on the doubled image.
use Prim.Native.Nat.{ℕ, zero, suc, ◌+◌, ◌*◌}
use native.Mathlib.Nat.{add-zero}
use mathlib.Core.Path.{◌≡◌, refl, sym, ap, ap₂, ◌∙◌}
use mathlib.Core.List.{List, map, Forall₂}
use mathlib.Core.Option.{Option, none, some}
use lib.Dec.{ltb}
use lib.ListN.{length, get_or}
use lib.Seq.{get_or-drop}
use Rattle.gates.specs.Relations.{AgreeByte, same, low_high, high_low, Agree}
use Rattle.gates.proofs.Meaning.{agree_means}
use Rattle.image.specs.Image.{sizes_of, nets_of}
use Rattle.image.proofs.Pairs.{pairs_get_or, pairs_length, pairs_append, pairs_square}
use Rattle.refusals.specs.declared.answer.Refusal.{Refusal}
use Rattle.refusals.specs.Refusals.{refuse, ◌then◌, plain_bytes, bad_byte, bad_length}
use Rattle.checking.specs.Check.{check_refusal}
use Rattle.checking.proofs.Checked.{Checked, check_none}
use Rattle.cycle.specs.State.{state_length, miscounted, AgreeStates}
use Rattle.cycle.specs.Cycle.{plain, Cycle, cycles_of, first_of, first_flow}
use Rattle.cycle.specs.Calls.{done, Stepped, power_up_of, as_step, state_refusal, lent_refusal, step_refusal, run_refusal}
use Rattle.cycle.proofs.Cycles.{Related, outputs_length, agree_outputs, agree_cycle, agree_cycles, outputs_of_related, state_after_related}
use Rattle.cycle.proofs.States.{count_agree, state_size, counted_state, counted_agree}
use Rattle.cycle.proofs.Calls.{Ready, lent_ready, step_none, run_none, starts_registers, powered_up_lem, first_ready, cycle_registers, rest_ready, run_registers}
use Rattle.groups.specs.Groups.{split}
use Rattle.doubling.proofs.Simulation.{split_length}
use Rattle.claims.specs.History.{Call, refusal_of, stepped, ran, call_result, history, cycles_in, Finished}
use Rattle.claims.specs.Pairing.{shown, Shows, AllPaired}
use Rattle.claims.specs.TwoRun.{Matched, steps, runs, SameCycle, SameCall, turned_back, finished, SameCalls, SameShown, AllSameDoubled, Demand3}
use Rattle.claims.proofs.Agreeing.{agree_refl, parts_length}
use Rattle.claims.proofs.History.{turns_back, made_refused, made_step, made_run, made}
use Rattle.claims.proofs.Splitting.{split_value, split_mark}
use Rattle.claims.proofs.Pairing.{demand2}

-- REFUSALS see only lengths and bytes above 3
same_length : (xs ys : List ℕ) (number n : ℕ) → length xs ≡ length ys → bad_length number n xs ≡ bad_length number n ys
unfolding bad_length
same_length xs ys number n h = rw h

same_byte : {xs ys : List ℕ} (number i : ℕ) → Agree xs ys → bad_byte (ltb 3) number i xs ≡ bad_byte (ltb 3) number i ys
unfolding bad_byte
same_byte number i Forall₂.nil = refl
same_byte number i (Forall₂.cons same t) = rw (same_byte number (suc i) t)
same_byte number i (Forall₂.cons low_high t) = rw (same_byte number (suc i) t)
same_byte number i (Forall₂.cons high_low t) = rw (same_byte number (suc i) t)

-- of states that agree: the bytes behind the registers are equal
same_behind : {s : List ℕ} (st st' : List ℕ) → AgreeStates s st st' → (i : ℕ) → get_or st ((sizes_of s).registers + i) 0 ≡ get_or st' ((sizes_of s).registers + i) 0
same_behind {s} st st' q i =
    let n = (sizes_of s).registers in
    sym (get_or-drop n st i 0) ∙ ap (λ l. get_or l i 0) q.counts ∙ get_or-drop n st' i 0

same_state : {s : List ℕ} (st st' : List ℕ) → AgreeStates s st st' → state_refusal (sizes_of s) st ≡ state_refusal (sizes_of s) st'
unfolding state_refusal miscounted
same_state {s} st st' q =
    rw (
      same_length st st' 10 (state_length (sizes_of s)) (parts_length (sizes_of s).registers st st' (pairs_length q.registers) q.counts),
      same_byte 11 0 q.registers,
      count_agree q.registers,
      rw add-zero at (same_behind st st' q 0),
      same_behind st st' q 1,
    )

same_lent : (pins filled : ℕ) {r r' : List ℕ} (b b' : List ℕ) → Agree r r' → length b ≡ length b'
    → lent_refusal plain_bytes pins filled r b ≡ lent_refusal plain_bytes pins filled r' b'
same_lent pins filled {r} {r'} b b' p h = rw (same_length r r' 12 pins (pairs_length p), same_byte 13 0 p, same_length b b' 14 filled h)

pub same_refusal : (s : List ℕ) {st st' : List ℕ} {c d : Call} → AgreeStates s st st' → Matched c d → refusal_of s st c ≡ refusal_of s st' d
unfolding refusal_of step_refusal run_refusal
same_refusal s {st} {st'} q (steps {b = b} {b'} p h) = ap₂ (λ o u. check_refusal s then (o then u)) (same_state st st' q) (same_lent _ _ b b' p h)
same_refusal s {st} {st'} q (runs {k} {b = b} {b'} p h) =
    ap₂ (λ o u. check_refusal s then (refuse (ltb 4096 k) 9 0 then (o then u))) (same_state st st' q) (same_lent _ _ b b' p h)

-- CYCLES that agree
first_equal : {cs cs' : List Cycle} (i : ℕ) → Forall₂ (Related AgreeByte ◌≡◌) cs cs' → first_flow i cs ≡ first_flow i cs'
unfolding first_flow
first_equal i Forall₂.nil = refl
first_equal i (Forall₂.cons h t) = ap₂ (first_of i) h.verdict (first_equal (suc i) t)

-- cycles whose registers are as many as the image has
as_steps : {s : List ℕ} (c c' : Cycle) → length c.state ≡ (sizes_of s).registers → Related AgreeByte ◌≡◌ c c' → SameCycle s (as_step c) (as_step c')
unfolding as_step
as_steps c c' l h = record { verdict = ap done h.verdict; nets = h.bytes; state = counted_agree l h.state }

all_as_steps : {s : List ℕ} (k : ℕ) {st rows : List ℕ} → Ready s st (k * (sizes_of s).inputs) rows → {cs : List Cycle}
    → Forall₂ (Related AgreeByte ◌≡◌) (cycles_of plain (nets_of s) (sizes_of s).inputs k rows st) cs
    → Forall₂ (SameCycle s) (map as_step (cycles_of plain (nets_of s) (sizes_of s).inputs k rows st)) (map as_step cs)
unfolding cycles_of
all_as_steps zero r Forall₂.nil = Forall₂.nil
all_as_steps (suc k) r (Forall₂.cons h t) = Forall₂.cons (as_steps _ _ (cycle_registers (first_ready k r)).size h) (all_as_steps k (rest_ready k r) t)

-- CALLS. One place of the two lists
pub record SamePlace (s st st' : List ℕ) (c d : Call) : Type 0 where
  pub call : SameCall s (call_result s st c) (call_result s st' d)
  pub state : AgreeStates s (call_result s st c).state (call_result s st' d).state
  pub cycles : Forall₂ (SameCycle s) (call_result s st c).cycles (call_result s st' d).cycles

same_place :
    (s : List ℕ) {st st' : List ℕ} {c d : Call} → AgreeStates s st st' → Matched c d
    → (o : Option Refusal) → refusal_of s st c ≡ o → refusal_of s st' d ≡ o → SamePlace s st st' c d
unfolding refusal_of
same_place s {st} {st'} {c} {d} q m (some r) h k =
    let e = made_refused s st c r h in
    let e' = made_refused s st' d r k in
    record {
      call = rw (e, e') (turned_back r (turns_back c r) (turns_back d r));
      state = rw (e, e') q;
      cycles = rw (e, e') Forall₂.nil;
    }
same_place s {st} {st'} q (steps {r} {r'} {b} {b'} p m) none h k =
    let e = made_step s st r b h in
    let e' = made_step s st' r' b' k in
    let l = lent_ready ((step_none s st r b).0 h).0 in
    let a = agree_cycle l.image.nets p q.registers in
    let t = Forall₂.cons (as_steps _ _ (cycle_registers l).size a) Forall₂.nil in
    record {
      call = rw (e, e') (finished Finished.a_step (ap (λ v. stepped (done v)) a.verdict) a.bytes t);
      state = rw (e, e') (counted_agree (cycle_registers l).size a.state);
      cycles = rw (e, e') t;
    }
same_place s {st} {st'} q (runs {k = n} {r} {r'} {b} {b'} p m) none h k =
    let e = made_run s st n r b h in
    let e' = made_run s st' n r' b' k in
    let l = lent_ready ((run_none s st n r b).0 h).0 in
    let a = agree_cycles l.image.nets (sizes_of s).inputs n p q.registers in
    let t = all_as_steps n l a in
    record {
      call =
          rw (e, e') (finished Finished.a_run (ap (λ f. ran (done f)) (first_equal 0 a)) (outputs_of_related a) t);
      state = rw (e, e') (counted_agree (run_registers n l).size (state_after_related q.registers a));
      cycles = rw (e, e') t;
    }

pub place : (s : List ℕ) {st st' : List ℕ} {c d : Call} → AgreeStates s st st' → Matched c d → SamePlace s st st' c d
place s {st} {c} q m = same_place s q m (refusal_of s st c) refl (sym (same_refusal s q m))

-- from any two states that agree
same_calls : (s : List ℕ) {cs ds : List Call} {st st' : List ℕ} → AgreeStates s st st' → Forall₂ Matched cs ds → SameCalls s st st' cs ds
same_calls s q Forall₂.nil = SameCalls.nil
same_calls s q (Forall₂.cons m ms) = let p = place s q m in SameCalls.cons (made s _ _) (made s _ _) p.call p.state (same_calls s p.state ms)

same_cycles :
    (s : List ℕ) {cs ds : List Call} {st st' : List ℕ} → AgreeStates s st st' → Forall₂ Matched cs ds
    → Forall₂ (SameCycle s) (cycles_in (history s st cs)) (cycles_in (history s st' ds))
unfolding history cycles_in
same_cycles s q Forall₂.nil = Forall₂.nil
same_cycles s q (Forall₂.cons m ms) = let p = place s q m in pairs_append p.cycles (same_cycles s p.state ms)

powered_agree : {s : List ℕ} → Checked s → (a b : List ℕ) → length a ≡ state_length (sizes_of s) → length b ≡ state_length (sizes_of s)
    → AgreeStates s (power_up_of s a).state (power_up_of s b).state
powered_agree {s} c a b l k = rw (powered_up_lem s a c l, powered_up_lem s b c k) (record { registers = agree_refl _; counts = refl })

-- THE DOUBLED IMAGE. Bytes that agree, split: the marks are equal, and the values where the mark is 0
at_place : {xs ys : List ℕ} (j : ℕ) → Agree xs ys → AgreeByte (get_or xs j 0) (get_or ys j 0)
at_place j a = pairs_get_or j 0 same a

marks_split : {xs ys : List ℕ} (j : ℕ) → Agree xs ys → get_or (split xs) (2 * j + 1) 0 ≡ get_or (split ys) (2 * j + 1) 0
marks_split {xs} {ys} j a = rw (split_mark xs j, split_mark ys j) (agree_means (at_place j a)).0

values_split : {xs ys : List ℕ} (j : ℕ) → Agree xs ys → get_or (split xs) (2 * j + 1) 0 ≡ 0 → get_or (split xs) (2 * j) 0 ≡ get_or (split ys) (2 * j) 0
values_split {xs} {ys} j a e = rw (split_value xs j, split_value ys j) ((agree_means (at_place j a)).1 (rw (split_mark xs j) at e))

-- two values for each output
shown_length : {s : List ℕ} → Checked s → (d : List ℕ) (x u : Stepped) → Shows s d x u → length (shown d u) ≡ 2 * (sizes_of s).outputs
shown_length {s} c d x u p = rw (p.pairs, split_length, outputs_length, c.outputs)

same_shown : {s : List ℕ} → Checked s → (d : List ℕ) (x y u v : Stepped) → Shows s d x u → Shows s d y v → SameCycle s x y → SameShown s d u v
same_shown {s} c d x y u v p q r =
    let a = agree_outputs 0 (nets_of s) r.nets in
    record {
      outputs = (shown_length c d x u p, shown_length c d y v q);
      marks = λ j l. rw (p.pairs, q.pairs) (marks_split j a);
      values = λ j l e. rw (p.pairs, q.pairs) (values_split j a (rw p.pairs at e));
    }

-- two lists that match, and their accepted calls made again
pub both_doubled : {s d st st' u u' : List ℕ} {cs ds : List Call} → Checked s → Forall₂ Matched cs ds → AgreeStates s st st' → AllPaired s d st u → AllPaired s d st' u'
    → AllSameDoubled s d st st' u u' cs ds
both_doubled {s} {d} {cs = cs} {ds} c m q x y cs' ds' p p' =
    let l = x cs cs' p in
    let r = y ds ds' p' in
    record {
      finished = (l.finished, r.finished);
      made = l.made_again;
      made' = r.made_again;
      shown = pairs_square (same_shown c d) l.cycles r.cycles (same_cycles s q m);
    }

pub demand3 : Demand3
demand3 s h cs ds m =
    let c = (check_none s).0 h in
    record {
      powered_up_lem = λ a l. (rw (powered_up_lem s a c l), rw (powered_up_lem s a c l) (state_size (counted_state (starts_registers c))));
      from_states = λ st st' q. same_calls s q m;
      from_power_up_lem = λ a b l k. same_calls s (powered_agree c a b l k) m;
      doubled = λ few buf g.
          let d = demand2 s h few buf g in
          record {
            written = d.written;
            from_states = λ st st' q. both_doubled c m q (d.from_state st) (d.from_state st');
            from_power_up_lem = λ a b a' b' l k l' k'.
                let x = d.from_power_up_lem a a' l l' in
                let y = d.from_power_up_lem b b' k k' in
                (x.1, y.1, both_doubled c m (powered_agree c a b l k) x.2 y.2);
          };
    }
