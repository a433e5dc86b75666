-- Images without inverted pins: every call gives what reading their pins plainly gives; images that were accepted before are such; and others were refused by every call.
use Prim.Native.Nat.{ℕ, ◌+◌, ◌*◌, ◌≤◌, ◌<◌}
use native.Mathlib.Nat.{eq-or-lt_of_le}
use native.Mathlib.Omega.{arith}
use mathlib.Core.Logic.{⊎_elim}
use mathlib.Core.Path.{◌≡◌, refl, sym, ap, ◌∙◌}
use mathlib.Core.List.{List}
use mathlib.Core.Option.{Option, none, some}
use lib.Dec.{ltb}
use Rattle.image.specs.declared.image.Net.{Net}
use Rattle.image.specs.Image.{sizes_of, net, nets_of}
use Rattle.image.proofs.Nets.{length_nets}
use Rattle.refusals.specs.declared.answer.Refusal.{Refusal}
use Rattle.refusals.specs.Refusals.{refuse, ◌then◌, plain_bytes, bad_length}
use Rattle.refusals.proofs.Refusals.{then_none, refuse_none, not_above, accepted}
use Rattle.checking.specs.Check.{check_refusal}
use Rattle.checking.proofs.Checked.{Checked, check_none}
use Rattle.cycle.specs.State.{state_length, registers_in}
use Rattle.cycle.specs.Calls.{power_up_refusal, power_up_of, state_refusal, lent_refusal, as_step, step_refusal, step_of, as_run, counting, run_refusal, run_of}
use Rattle.cycle.proofs.Calls.{either_way, power_up_accepted, power_up_refused, step_accepted, step_refused, step_none, run_accepted, run_refused, run_none}
use Rattle.doubled.specs.Doubled.{doubled_size, doubled_nets}
use Rattle.figures.specs.Figures.{size_refusal, doubled_size_of}
use Rattle.figures.proofs.Refusing.{size_none, size_accepted, size_refused}
use Rattle.doubling.specs.Doubling.{double_refusal, double_of}
use Rattle.doubling.proofs.Checks.{doubled_checked, double_none, double_refused, double_accepted}
use Rattle.claims.specs.Reading.{net_of}
use Rattle.claims.specs.Plain.{plain_net_refusal, plain_nets_refusal, plain_check, plain_power_up, plain_step, plain_run, plain_image, plain_size, plain_double}
use Rattle.claims.specs.Upright.{Upright, AllUpright, AsBefore, RefusedBefore, Uprights}
use Rattle.claims.proofs.Accepted.{conditions}
use Rattle.claims.proofs.InTurn.{InTurn, none_drawn}
use Rattle.claims.proofs.Plainly.{check_same, accepted_plain, AllPlain, cycle_plain, cycles_plain, groups_plain, image_plain, recheck_same}

-- THE CALLS, each accepted or refused
module _ (s : List ℕ) (u : AllUpright s) where
  same : check_refusal s ≡ plain_check s
  same = check_same s u

  nets_of_lem : Checked s → AllPlain (nets_of s)
  nets_of_lem c = accepted_plain s u (sym same ∙ (check_none s).1 c)

  power_up_chain : (st : List ℕ) {o : Option Refusal} → power_up_refusal s st ≡ o → (plain_check s then bad_length 10 (state_length (sizes_of s)) st) ≡ o
  unfolding power_up_refusal
  power_up_chain st h = rw same at h

  power_up_same : (st : List ℕ) → power_up_of s st ≡ plain_power_up s st
  unfolding plain_power_up
  power_up_same st =
      either_way (power_up_refusal s st)
      (λ h. power_up_accepted s st h ∙ sym (rw (power_up_chain st h, plain_power_up)))
      (λ r h. power_up_refused s st r h ∙ sym (rw (power_up_chain st h, plain_power_up)))

  module _ (st row nets : List ℕ) where
    step_chain : {o : Option Refusal} → step_refusal s st row nets ≡ o
        → (plain_check s then state_refusal (sizes_of s) st then lent_refusal plain_bytes (sizes_of s).inputs (sizes_of s).nets row nets) ≡ o
    unfolding step_refusal
    step_chain h = rw same at h

    step_same : step_of s st row nets ≡ plain_step s st row nets
    unfolding plain_step
    step_same =
        either_way (step_refusal s st row nets)
        (λ h.
        step_accepted s st row nets h
        ∙ ap as_step (cycle_plain (nets_of_lem ((step_none s st row nets).0 h).0.image) row (registers_in s st))
        ∙ sym (rw (step_chain h, plain_step)))
        (λ r h. step_refused s st row nets r h ∙ sym (rw (step_chain h, plain_step)))

  module _ (st : List ℕ) (k : ℕ) (rows outputs : List ℕ) where
    run_chain : {o : Option Refusal} → run_refusal s st k rows outputs ≡ o
        → (plain_check s then refuse (ltb 4096 k) 9 0 then state_refusal (sizes_of s) st then lent_refusal plain_bytes (k * (sizes_of s).inputs) (k * (sizes_of s).outputs) rows outputs) ≡ o
    unfolding run_refusal
    run_chain h = rw same at h

    run_same : run_of s st k rows outputs ≡ plain_run s st k rows outputs
    unfolding plain_run
    run_same =
        either_way (run_refusal s st k rows outputs)
        (λ h.
        run_accepted s st k rows outputs h
        ∙ ap (λ cs. counting (as_run (registers_in s st) cs)) (cycles_plain (nets_of_lem ((run_none s st k rows outputs).0 h).0.image) (sizes_of s).inputs k rows (registers_in s st))
        ∙ sym (rw (run_chain h, plain_run)))
        (λ r h. run_refused s st k rows outputs r h ∙ sym (rw (run_chain h, plain_run)))

  size_chain : {o : Option Refusal} → size_refusal s ≡ o → (plain_check s then refuse (ltb 8192 (doubled_size (nets_of s))) 15 0) ≡ o
  unfolding size_refusal
  size_chain h = rw same at h

  size_same : doubled_size_of s ≡ plain_size s
  unfolding plain_size doubled_nets
  size_same =
      either_way (size_refusal s)
      (λ h. size_accepted s h ∙ sym (rw (size_chain h, plain_size) (rw (groups_plain (nets_of s) 0 (nets_of_lem ((size_none s).0 h).0)))))
      (λ r h. size_refused s r h ∙ sym (rw (size_chain h, plain_size)))

  module _ (buf : List ℕ) where
    double_chain : {o : Option Refusal} → double_refusal s buf ≡ o
        → (plain_check s then refuse (ltb 8192 (doubled_size (nets_of s))) 15 0 then bad_length 16 (8 + 7 * doubled_size (nets_of s)) buf) ≡ o
    unfolding double_refusal
    double_chain h = rw same at h

    double_same : double_of s buf ≡ plain_double s buf
    unfolding plain_double
    double_same =
        either_way (double_refusal s buf)
        (λ h.
        let t = (double_none s buf).0 h in
        let ps = nets_of_lem t.0 in
        let passes : plain_check (plain_image s) ≡ none = sym (recheck_same s t.0 t.1 ps) ∙ (check_none _).1 (doubled_checked s t.0 t.1) in
        double_accepted s buf h ∙ sym (rw (double_chain h, plain_double) (rw (passes, image_plain s ps))))
        (λ r h. double_refused s buf r h ∙ sym (rw (double_chain h, plain_double)))

  as_before : AsBefore s
  as_before = record { check = same; power_up = power_up_same; step = step_same; run = run_same; doubled_size_lem = size_same; double = double_same }

-- IMAGES ACCEPTED BEFORE
plain_in_turn : (n : ℕ) → InTurn (plain_net_refusal n) (plain_nets_refusal n)
unfolding plain_nets_refusal
plain_in_turn n = record { at_end = λ i. refl; next = λ i x xs. refl }

net_upright : (n i : ℕ) (x : Net) → n ≤ 8192 → i < n → plain_net_refusal n i x ≡ none → Upright x
unfolding plain_net_refusal
net_upright n i x few l h =
    let t = simp (then_none, refuse_none, not_above) at h in
    let p = simp conditions at t.1.0 in
    record {
      a = λ two eight. ⊎_elim (λ o. let q = p.0.0.0 (sym o) in omega arith) (λ three. let q = p.0.0.1 (three, eight) in omega arith) (eq-or-lt_of_le two);
      b = λ four seven. let q = p.0.1 (four, seven) in omega arith;
      c = λ o. let q = p.1 o in omega arith;
    }

accepted_upright : (s : List ℕ) → plain_check s ≡ none → AllUpright s
unfolding plain_check
accepted_upright s h i l =
    let t = simp accepted at h in
    net_upright (sizes_of s).nets i (net_of s i) t.1.0.1 l (none_drawn (net 0 0 0 0) (plain_in_turn _) (nets_of s) t.1.1.1.0 i (omega (arith, length_nets s)))

-- IMAGES REFUSED BEFORE
refused_before : (s : List ℕ) (r : Refusal) → plain_check s ≡ some r → RefusedBefore s r
unfolding plain_power_up plain_step plain_run plain_size plain_double
refused_before s r h =
    record {
      power_up = λ st. rw (h, plain_power_up);
      step = λ st row nets. rw (h, plain_step);
      run = λ st k rows outputs. rw (h, plain_run);
      doubled_size_lem = rw (h, plain_size);
      double = λ buf. rw (h, plain_double);
    }

pub upright : Uprights
upright =
    record {
      same = as_before;
      before = accepted_upright;
      accepted_before = λ s h. as_before s (accepted_upright s h);
      refused_before = refused_before;
    }
