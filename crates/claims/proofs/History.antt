-- What a call of a list gives, where it is refused and where it is accepted.
use Prim.Native.Nat.{ℕ}
use mathlib.Core.Path.{◌≡◌, refl, sym, ap, ◌∙◌}
use mathlib.Core.List.{List, [], ◌∷◌, map}
use mathlib.Core.Option.{none, some}
use Rattle.image.specs.Image.{sizes_of, nets_of}
use Rattle.refusals.specs.declared.answer.Refusal.{Refusal}
use Rattle.cycle.specs.Cycle.{plain, cycle_of, cycles_of, outputs_of, state_after, first_flow}
use Rattle.cycle.specs.State.{with_count, registers_in}
use Rattle.cycle.specs.Calls.{done, refused, as_step, step_refusal, as_run, counting, run_refusal}
use Rattle.cycle.proofs.Calls.{either_way, step_accepted, step_refused, run_accepted, run_refused}
use Rattle.claims.specs.History.{Call, step, run, lent, refusal_of, CallAnswer, stepped, ran, call_result, history, accepted, cycles_in, CallResult, TurnedBack, Made, AllMade, Histories}
use Rattle.claims.proofs.Unchanged.{not_refused}
use Rattle.claims.proofs.Steps.{run_is_steps}

unfoldable pub turned : Call → Refusal → CallAnswer
turned (step row nets) r = stepped (refused r)
turned (run k rows outputs) r = ran (refused r)

pub turns_back : (c : Call) (r : Refusal) → TurnedBack r (turned c r)
unfolding turned
turns_back (step row nets) r = TurnedBack.a_step
turns_back (run k rows outputs) r = TurnedBack.a_run

pub made_refused :
    (s st : List ℕ) (c : Call) (r : Refusal) → refusal_of s st c ≡ some r
    → call_result s st c ≡ record { answer = turned c r; buffer = lent c; state = st; cycles = [] }
unfolding call_result refusal_of turned lent
made_refused s st (step row nets) r h = rw (h, step_refused s st row nets r h)
made_refused s st (run k rows outputs) r h = rw (h, run_refused s st k rows outputs r h)

pub made_step :
    (s st row nets : List ℕ) → step_refusal s st row nets ≡ none
    → let c = cycle_of plain (nets_of s) row (registers_in s st) in
    call_result s st (step row nets) ≡ record { answer = stepped (done c.verdict); buffer = c.bytes; state = with_count c.state; cycles = as_step c ∷ [] }
unfolding call_result as_step
made_step s st row nets h = rw (h, step_accepted s st row nets h)

pub made_run :
    (s st : List ℕ) (k : ℕ) (rows outputs : List ℕ) → run_refusal s st k rows outputs ≡ none
    → let rs = registers_in s st in
    let cs = cycles_of plain (nets_of s) (sizes_of s).inputs k rows rs in
    call_result s st (run k rows outputs) ≡ record { answer = ran (done (first_flow 0 cs)); buffer = outputs_of cs; state = with_count (state_after rs cs); cycles = map as_step cs }
unfolding call_result as_run counting
made_run s st k rows outputs h = rw (h, run_accepted s st k rows outputs h, (run_is_steps s st k rows outputs h).cycles)

-- so every call gives what the step or run gives, and so does every call of a list, from the state that the one before it left
pub made : (s st : List ℕ) (c : Call) → Made s st c (call_result s st c)
unfolding call_result as_step as_run counting
made s st (step row nets) =
    either_way (step_refusal s st row nets)
    (λ h. rw (call_result, h) (Made.step_done refl (ap (λ o. o.answer) (step_accepted s st row nets h))))
    (λ r h. let e = step_refused s st row nets r h in rw (call_result, h, e) (Made.step_refused (sym e) refl))
made s st (run k rows outputs) =
    either_way (run_refusal s st k rows outputs)
    (λ h. rw (call_result, h) (Made.run_done refl (ap (λ o. o.answer) (run_accepted s st k rows outputs h)) (run_is_steps s st k rows outputs h)))
    (λ r h. let e = run_refused s st k rows outputs r h in rw (call_result, h, e) (Made.run_refused (sym e) refl))

-- and it gives nothing else
pub made_is : {s st : List ℕ} {c : Call} {m : CallResult} → Made s st c m → m ≡ call_result s st c
unfolding turned lent refusal_of as_step as_run counting
made_is {s} {st} (Made.step_refused {row} {nets} e h) =
    either_way (step_refusal s st row nets)
    (λ n. absurd (not_refused (rw (e, step_accepted s st row nets n) at h)))
    (λ r n. rw (made_refused s st (step row nets) r n, e, step_refused s st row nets r n))
made_is {s} {st} (Made.step_done {row} {nets} e h) =
    either_way (step_refusal s st row nets)
    (λ n. rw (made_step s st row nets n, e, step_accepted s st row nets n))
    (λ r n. absurd (not_refused (sym (rw (e, step_refused s st row nets r n) at h))))
made_is {s} {st} (Made.run_refused {k} {rows} {outputs} e h) =
    either_way (run_refusal s st k rows outputs)
    (λ n. absurd (not_refused (rw (e, run_accepted s st k rows outputs n) at h)))
    (λ r n. rw (made_refused s st (run k rows outputs) r n, e, run_refused s st k rows outputs r n))
made_is {s} {st} (Made.run_done {k} {rows} {outputs} e h a) =
    either_way (run_refusal s st k rows outputs)
    (λ n. rw (made_run s st k rows outputs n, a.cycles, e, run_accepted s st k rows outputs n))
    (λ r n. absurd (not_refused (sym (rw (e, run_refused s st k rows outputs r n) at h))))

pub all_made : (s st : List ℕ) (cs : List Call) → AllMade s st cs (history s st cs) (cycles_in (history s st cs))
unfolding history cycles_in
all_made s st [] = AllMade.nil
all_made s st (c ∷ cs) = AllMade.cons (made s st c) (all_made s (call_result s st c).state cs)

pub histories : Histories
histories = record { made = all_made; one_result = λ p q. made_is p ∙ sym (made_is q) }

-- the calls that are not refused
pub accepted_none : (s st : List ℕ) (c : Call) (cs : List Call) → refusal_of s st c ≡ none → accepted s st (c ∷ cs) ≡ c ∷ accepted s (call_result s st c).state cs
unfolding accepted
accepted_none s st c cs h = rw (h, accepted)

pub accepted_some : (s st : List ℕ) (c : Call) (cs : List Call) (r : Refusal) → refusal_of s st c ≡ some r → accepted s st (c ∷ cs) ≡ accepted s st cs
unfolding accepted
accepted_some s st c cs r h = rw (h, accepted, made_refused s st c r h)
