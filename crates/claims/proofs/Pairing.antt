-- Demand 2, its second sentence: the accepted calls of a list, made again on the doubled image, from any state and from power-up.
use Prim.Native.Nat.{ℕ, ◌*◌, ◌≤◌}
use mathlib.Core.Path.{◌≡◌, refl}
use mathlib.Core.List.{List, [], ◌∷◌, Forall₂}
use mathlib.Core.Option.{Option, none, some}
use native.Mathlib.Omega.{arith}
use lib.ListN.{length}
use Rattle.image.specs.Image.{sizes_of, nets_of}
use Rattle.image.proofs.Pairs.{pairs_append, pairs_map}
use Rattle.refusals.specs.declared.answer.Refusal.{Refusal}
use Rattle.checking.proofs.Checked.{Checked, check_none}
use Rattle.cycle.specs.Cycle.{Cycle}
use Rattle.cycle.specs.State.{state_length, with_count, registers_in}
use Rattle.cycle.specs.Calls.{power_up_of, as_step, step_refusal, run_refusal}
use Rattle.cycle.proofs.States.{IsRegisters, registers_back}
use Rattle.cycle.proofs.Calls.{Lent, lent_ready, ready_lent, step_none, run_none, starts_registers, powered_up_lem, cycle_registers, run_registers}
use Rattle.groups.specs.Groups.{split}
use Rattle.doubled.specs.Doubled.{doubled_size}
use Rattle.doubling.specs.Doubling.{doubled_image}
use Rattle.doubling.proofs.Checks.{doubled_sizes, doubled_checked, double_none, double_accepted}
use Rattle.doubling.proofs.Runs.{Carries, split_carries, Doubles, state_doubles, ready_again, cycle_doubles, cycles_double, starts_carry}
use Rattle.claims.specs.History.{Call, refusal_of, call_result, history, accepted, cycles_in, Finished, AllFinished}
use Rattle.claims.specs.Pairing.{Again, step_again, run_again, shown, Shows, AllPaired, Demand2}
use Rattle.claims.proofs.History.{made_refused, made_step, made_run, all_made, accepted_none, accepted_some}

doubles_show : (s : List ℕ) (c c' : Cycle) → Doubles s c c' → Shows s (doubled_image s) (as_step c) (as_step c')
unfolding shown as_step
doubles_show s c c' h = record { pairs = h.shows }

-- a state of the source and one of its doubled image: the registers carry their values and marks, and behind those of the doubled image stands their own count
pub record CarriesState (s st st' : List ℕ) : Type 0 where
  pub registers : List ℕ
  pub carried : Carries (registers_in s st) registers
  pub state : st' ≡ with_count registers

-- what accepted calls leave
carries_counted : {s rs rs' : List ℕ} → IsRegisters s rs → Carries rs rs' → CarriesState s (with_count rs) (with_count rs')
carries_counted {rs' = rs'} r h = record { registers = rs'; carried = rw (registers_back r) h; state = refl }

module _ (s : List ℕ) (c : Checked s) (few : doubled_size (nets_of s) ≤ 8192) where
  abbrev d : List ℕ
  d = doubled_image s

  -- one accepted call, and the same made again
  record CallAgain (st st' : List ℕ) (a a' : Call) : Type 0 where
    finished : Finished (call_result d st' a').answer
    shows : Forall₂ (Shows s d) (call_result s st a).cycles (call_result d st' a').cycles
    state : CarriesState s (call_result s st a).state (call_result d st' a').state

  call_again : {st st' : List ℕ} (a a' : Call) → CarriesState s st st' → refusal_of s st a ≡ none → Again d a a' → CallAgain st st' a a'
  unfolding refusal_of
  call_again {st} {st'} a a' t h (step_again {row} {b} {b'} l) =
      let r = lent_ready ((step_none s st row b).0 h).0 in
      let again = ready_again s c few (sizes_of s).inputs t.carried r in
      let lent : Lent d st' (2 * (sizes_of s).inputs) (split row) = rw t.state (ready_lent again) in
      let g : step_refusal d st' (split row) b' ≡ none = (step_none d st' (split row) b').1 (rw (doubled_sizes s) lent, l) in
      let back : registers_in d st' ≡ t.registers = rw t.state (registers_back again.registers) in
      let e = made_step s st row b h in
      let e' = rw back at (made_step d st' (split row) b' g) in
      let q = cycle_doubles s c few t.carried r in
      record {
        finished = rw e' Finished.a_step;
        shows = rw (e, e') (Forall₂.cons (doubles_show s _ _ q) Forall₂.nil);
        state = rw (e, e') (carries_counted (cycle_registers r) q.state);
      }
  call_again {st} {st'} a a' t h (run_again {k} {rows} {b} {b'} l) =
      let n = (run_none s st k rows b).0 h in
      let r = lent_ready n.0 in
      let again = ready_again s c few (k * (sizes_of s).inputs) t.carried r in
      let twice : 2 * (k * (sizes_of s).inputs) ≡ k * (2 * (sizes_of s).inputs) = omega arith in
      let lent : Lent d st' (k * (2 * (sizes_of s).inputs)) (split rows) = rw (t.state, ← twice) (ready_lent again) in
      let g : run_refusal d st' k (split rows) b' ≡ none = (run_none d st' k (split rows) b').1 (rw (doubled_sizes s) lent, n.1, l) in
      let back : registers_in d st' ≡ t.registers = rw t.state (registers_back again.registers) in
      let e = made_run s st k rows b h in
      let e' = rw back at (made_run d st' k (split rows) b' g) in
      let q = cycles_double s c few k t.carried r in
      record {
        finished = rw e' Finished.a_run;
        shows = rw (e, e') (pairs_map as_step (doubles_show s) q);
        state = rw (e, e') (carries_counted (run_registers k r) (state_doubles t.carried q));
      }

  record CallsAgain (st st' : List ℕ) (cs cs' : List Call) : Type 0 where
    finished : AllFinished (history d st' cs')
    cycles : Forall₂ (Shows s d) (cycles_in (history s st cs)) (cycles_in (history d st' cs'))

  abbrev From : List Call → Type 0
  From cs = (st st' : List ℕ) (cs' : List Call) → CarriesState s st st' → Forall₂ (Again d) (accepted s st cs) cs' → CallsAgain st st' cs cs'

  accepted_first :
      {st st' : List ℕ} (a : Call) (cs : List Call) {bs cs' : List Call} → CarriesState s st st' → refusal_of s st a ≡ none → From cs
      → bs ≡ accepted s (call_result s st a).state cs → Forall₂ (Again d) (a ∷ bs) cs' → CallsAgain st st' (a ∷ cs) cs'
  unfolding history cycles_in
  accepted_first a cs t h ih e (Forall₂.cons {b = a'} {l₂ = cs'} p ps) =
      let o = call_again a a' t h p in
      let rest = ih _ _ cs' o.state (rw e at ps) in
      record { finished = AllFinished.cons o.finished rest.finished; cycles = pairs_append o.shows rest.cycles }

  first_call : {st st' : List ℕ} (a : Call) (cs cs' : List Call) (q : Option Refusal) → refusal_of s st a ≡ q → CarriesState s st st' → From cs
      → Forall₂ (Again d) (accepted s st (a ∷ cs)) cs' → CallsAgain st st' (a ∷ cs) cs'
  first_call {st} a cs cs' none h t ih p = accepted_first a cs t h ih refl (rw (accepted_none s st a cs h) at p)
  first_call {st} {st'} a cs cs' (some r) h t ih p =
      let e = made_refused s st a r h in
      let rest = ih st st' cs' t (rw (accepted_some s st a cs r h) at p) in
      record { finished = rest.finished; cycles = unfold history cycles_in in rw e rest.cycles }

  no_call : (st st' : List ℕ) {cs' : List Call} → Forall₂ (Again d) [] cs' → CallsAgain st st' [] cs'
  unfolding history cycles_in
  no_call st st' Forall₂.nil = record { finished = AllFinished.nil; cycles = Forall₂.nil }

  calls_again : (cs : List Call) → From cs
  calls_again [] st st' cs' t p = unfold accepted in no_call st st' p
  calls_again (a ∷ cs) st st' cs' t p = first_call a cs cs' (refusal_of s st a) refl t (calls_again cs) p

  -- from any state, and a state of the doubled image that has its values and marks
  pub pairs : {st st' : List ℕ} → CarriesState s st st' → AllPaired s d st st'
  pairs {st} {st'} t cs cs' p =
      let r = calls_again cs st st' cs' t p in
      record { made = all_made s st cs; made_again = all_made d st' cs'; finished = r.finished; cycles = r.cycles }

  -- each from its own power-up
  powered_pairs : (a b : List ℕ) → length a ≡ state_length (sizes_of s) → length b ≡ state_length (sizes_of d)
      → ((power_up_of s a).refusal ≡ none) × ((power_up_of d b).refusal ≡ none) × AllPaired s d (power_up_of s a).state (power_up_of d b).state
  powered_pairs a b la lb =
      let e = powered_up_lem s a c la in
      let e' = powered_up_lem d b (doubled_checked s c few) lb in
      (rw e, rw e', rw (e, e') (pairs (carries_counted (starts_registers c) (starts_carry s c few))))

pub demand2 : Demand2
demand2 s h few buf l =
    let c = (check_none s).0 h in
    let e = double_accepted s buf ((double_none s buf).1 (c, few, l)) in
    record {
      written = rw e;
      from_state = rw e (λ st. pairs s c few (record { registers = split (registers_in s st); carried = split_carries (registers_in s st); state = refl }));
      from_power_up_lem = rw e (powered_pairs s c few);
    }
