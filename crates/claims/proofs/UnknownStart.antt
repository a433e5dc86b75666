-- Whatever the registers without a start held, all calls give the same; and the doubled netlist shows the same, since what it may wake with has the values and marks of what its
-- source may wake with.
use Prim.Native.Nat.{ℕ, ◌≤◌}
use mathlib.Core.Path.{◌≡◌, refl, sym, ap, ◌∙◌}
use mathlib.Core.List.{List, [], ◌∷◌, Forall₂}
use mathlib.Core.Option.{none}
use Rattle.image.specs.Image.{nets_of}
use Rattle.image.proofs.Pairs.{pairs_length}
use Rattle.checking.specs.Check.{check_refusal}
use Rattle.checking.proofs.Checked.{check_none}
use Rattle.cycle.specs.State.{with_count, registers_in, AgreeStates}
use Rattle.cycle.specs.Calls.{starts, power_up_of}
use Rattle.cycle.proofs.States.{state_registers, counted_state, state_size, counted_agree}
use Rattle.cycle.proofs.Calls.{either_way, starts_registers, powered_up_lem}
use Rattle.doubled.specs.Doubled.{doubled_size}
use Rattle.doubling.specs.Doubling.{doubled_image}
use Rattle.doubling.proofs.Checks.{doubled_checked, double_none, double_accepted}
use Rattle.doubling.proofs.Waking.{joined, joins}
use Rattle.doubling.proofs.Runs.{starts_again}
use Rattle.claims.specs.PowerUp.{Wakes}
use Rattle.claims.specs.History.{Call, refusal_of, accepted}
use Rattle.claims.specs.TwoRun.{Matched, AllSameDoubled}
use Rattle.claims.specs.UnknownStart.{UnknownStarts}
use Rattle.claims.proofs.History.{accepted_none, accepted_some}
use Rattle.claims.proofs.Pairing.{CarriesState, pairs}
use Rattle.claims.proofs.TwoRun.{same_refusal, place, both_doubled, demand3}
use Rattle.claims.proofs.Agreeing.{agree_refl, agree_marks_states}
use Rattle.claims.proofs.ClearRun.{clear_stays}
use Rattle.claims.proofs.Waking.{wakes_agree, marks_wake, wakes_powered, starts_agree, woken_state}

-- THE DOUBLED NETLIST. What it may wake with has the values and marks of what its source may wake with
record WokenPair (s u : List ℕ) : Type 0 where
  source : List ℕ
  wakes : Wakes s source
  carries : CarriesState s source u

woken_pair : (s u : List ℕ) → check_refusal s ≡ none → doubled_size (nets_of s) ≤ 8192 → Wakes (doubled_image s) u → WokenPair s u
woken_pair s u h few w =
    let c = (check_none s).0 h in
    let d = doubled_image s in
    let cd = doubled_checked s c few in
    let xs = starts (nets_of s) in
    let rs = registers_in d u in
    let woken = woken_state cd w in
    let j = joins xs (starts_registers c).codes (rw (starts_again s c few) at (starts_agree cd w)) in
    let l = (starts_registers c).size in
    let full = state_size (counted_state (starts_registers c)) in
    record {
      source = with_count (joined rs);
      wakes = marks_wake s (with_count xs) h full (with_count (joined rs)) (rw (powered_up_lem s (with_count xs) c full) (agree_marks_states (counted_agree l j.agree)));
      carries = record {
        registers = rs;
        carried = rw (state_registers (joined rs) (sym (pairs_length j.agree) ∙ l)) (record { values = j.values; codes = λ k. woken.registers.codes });
        state = woken.counted;
      };
    }

-- states that agree accept the same calls
matched_itself : (c : Call) → Matched c c
matched_itself (Call.step row nets) = Matched.steps (agree_refl row) refl
matched_itself (Call.run k rows outputs) = Matched.runs (agree_refl rows) refl

same_accepted : (s : List ℕ) (cs : List Call) {st st' : List ℕ} → AgreeStates s st st' → accepted s st cs ≡ accepted s st' cs
same_accepted s [] q = unfold accepted in refl
same_accepted s (c ∷ cs) {st} {st'} q =
    let e = same_refusal s q (matched_itself c) in
    either_way (refusal_of s st c)
    (λ h. rw (accepted_none s st c cs h, accepted_none s st' c cs (sym e ∙ h)) (ap (λ ds. c ∷ ds) (same_accepted s cs (place s q (matched_itself c)).state)))
    (λ r h. rw (accepted_some s st c cs r h, accepted_some s st' c cs r (sym e ∙ h)) (same_accepted s cs q))

woken_doubled : (s : List ℕ) → check_refusal s ≡ none → doubled_size (nets_of s) ≤ 8192
    → let d = doubled_image s in
    (st st' u u' : List ℕ) → Wakes s st → Wakes s st' → Wakes d u → Wakes d u'
    → (cs ds : List Call) → Forall₂ Matched cs ds → AllSameDoubled s d st st' u u' cs ds
woken_doubled s h few st st' u u' w w' v v' cs ds m cs' ds' p p' =
    let c = (check_none s).0 h in
    let x = woken_pair s u h few v in
    let y = woken_pair s u' h few v' in
    both_doubled c m (wakes_agree c x.wakes y.wakes) (pairs s c few x.carries) (pairs s c few y.carries) cs' ds'
    (rw (same_accepted s cs (wakes_agree c w x.wakes)) at p)
    (rw (same_accepted s ds (wakes_agree c w' y.wakes)) at p')

pub unknown_start : UnknownStarts
unknown_start s h =
    let c = (check_none s).0 h in
    record {
      states = λ a st l. (λ w. agree_marks_states (wakes_powered s a h l w), marks_wake s a h l st);
      calls = λ st st' w w' cs ds m. (demand3 s h cs ds m).from_states st st' (wakes_agree c w w');
      clear = λ a st k rows rows' outputs outputs' l w p m.
          clear_stays s (power_up_of s a).state st k rows rows' outputs outputs' (agree_marks_states (wakes_powered s a h l w)) p m;
      doubled = λ few buf l. rw (double_accepted s buf ((double_none s buf).1 (c, few, l))) (woken_doubled s h few);
    }
