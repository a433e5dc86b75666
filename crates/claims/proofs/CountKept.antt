-- The count stands after power-up and after every accepted call, so that no call of a list draws 20.
use Prim.Native.Nat.{ℕ, ◌+◌, ◌*◌, ◌/◌, ◌%◌}
use native.Mathlib.Omega.{arith}
use mathlib.Core.Path.{◌≡◌, refl, ap, ap₂, ◌∙◌}
use mathlib.Core.List.{List, [], ◌∷◌}
use mathlib.Core.Option.{none}
use lib.ListN.{get_or}
use Rattle.image.specs.Image.{sizes_of, encode}
use Rattle.refusals.specs.declared.answer.Refusal.{Refusal}
use Rattle.cycle.specs.State.{marked_count, registers_in}
use Rattle.cycle.specs.Calls.{Answer, refused, power_up_of}
use Rattle.cycle.proofs.States as states
use Rattle.cycle.proofs.States.{low_byte, count_read, IsState, counted_state, behind_two}
use Rattle.cycle.proofs.Calls.{either_way, lent_ready, step_none, run_none, starts_registers, powered_up_lem, cycle_registers, run_registers}
use Rattle.claims.specs.Accepted.{RightCount}
use Rattle.claims.specs.Refused.{AnyCall, BadNet, kind, pin, value, unlisted, BadImage, short, no_nets, many_nets, inexact, bad_net, miscounted, BadLent, state_size, state_byte, state_count, row_size, row_byte, buffer_size, Refused, bad_image, bad_step, many_cycles, bad_run}
use Rattle.claims.specs.History.{Call, step, run, stepped, ran, refusal_of, call_result, history, TurnedBack}
use Rattle.claims.specs.CountKept.{CountStands, NoneDraws20, nil, cons, woken, CountExamples, CountKept}
use Rattle.claims.proofs.Examples.{gating, checking, running}
use Rattle.claims.proofs.History.{made_refused, made_step, made_run}
use Rattle.claims.proofs.Refused.{refusals}
use Rattle.claims.proofs.Taken.{powered, step_taken, run_taken}

-- a state that calls accept
stands : {s st : List ℕ} → IsState s st → CountStands s st
stands {s} {st} a =
    let n = (sizes_of s).registers in
    let rs = registers_in s st in
    let low = ap (λ l. get_or l n 0) a.counted ∙ low_byte rs a.registers.size in
    record {
      size = states.state_size a;
      low = omega (arith, low);
      count = ap (λ l. get_or l n 0 + 256 * get_or l (n + 1) 0) a.counted ∙ count_read rs a.registers.size;
    }

-- and the two bytes are those of the number
right : {s st : List ℕ} → CountStands s st → RightCount s st
right {s} {st} c =
    let n = marked_count (registers_in s st) in
    let low : get_or st (sizes_of s).registers 0 ≡ n % 256 = omega (arith, c.low, c.count) in
    let high : get_or st ((sizes_of s).registers + 1) 0 ≡ n / 256 = omega (arith, c.low, c.count) in
    behind_two (sizes_of s).registers st c.size ∙ ap₂ (λ x y. x ∷ y ∷ []) low high

-- WHICH NUMBERS a call draws where the count stands
net_no_20 : {n i : ℕ} {x : _} {number : ℕ} → BadNet n i x number → number ≡ 20 → ⊥
net_no_20 (kind h) e = absurd (omega arith)
net_no_20 (pin h k) e = absurd (omega arith)
net_no_20 (value h k l) e = absurd (omega arith)
net_no_20 (unlisted h k l m) e = absurd (omega arith)

image_no_20 : {s : List ℕ} {number place : ℕ} → BadImage s number place → number ≡ 20 → ⊥
image_no_20 (short h) e = absurd (omega arith)
image_no_20 (no_nets h k) e = absurd (omega arith)
image_no_20 (many_nets h k) e = absurd (omega arith)
image_no_20 (inexact h k l m) e = absurd (omega arith)
image_no_20 (bad_net z l m b) e = net_no_20 b e
image_no_20 (miscounted z h k) e = absurd (omega arith)

lent_no_20 : {s : List ℕ} {rowBytes filled : ℕ} {st rows buffer : List ℕ} {number place : ℕ} → RightCount s st → BadLent s rowBytes filled st rows buffer number place
    → number ≡ 20 → ⊥
lent_no_20 r (state_size h) e = absurd (omega arith)
lent_no_20 r (state_byte l w) e = absurd (omega arith)
lent_no_20 r (state_count l c h) e = h r
lent_no_20 r (row_size q h) e = absurd (omega arith)
lent_no_20 r (row_byte q l w) e = absurd (omega arith)
lent_no_20 r (buffer_size q l h) e = absurd (omega arith)

step_no_20 : {s st row nets : List ℕ} {number place : ℕ} → RightCount s st → Refused s (AnyCall.step st row nets) number place → number ≡ 20 → ⊥
step_no_20 r (bad_image b) e = image_no_20 b e
step_no_20 r (bad_step a b) e = lent_no_20 r b e

run_no_20 : {s st : List ℕ} {k : ℕ} {rows outputs : List ℕ} {number place : ℕ} → RightCount s st → Refused s (AnyCall.run st k rows outputs) number place → number ≡ 20 → ⊥
run_no_20 r (bad_image b) e = image_no_20 b e
run_no_20 r (many_cycles a h) e = absurd (omega arith)
run_no_20 r (bad_run a l b) e = lent_no_20 r b e

-- an answer that is a refusal
step_back : {r : Refusal} {a : Answer _} → TurnedBack r (stepped a) → a ≡ refused r
step_back TurnedBack.a_step = refl

run_back : {r : Refusal} {a : Answer _} → TurnedBack r (ran a) → a ≡ refused r
run_back TurnedBack.a_run = refl

not_drawn : (s st : List ℕ) → RightCount s st → (c : Call) (r : Refusal) → TurnedBack r (call_result s st c).answer → r.number ≡ 20 → ⊥
unfolding call_result
not_drawn s st c (step row nets) r b = step_no_20 c ((refusals s (AnyCall.step st row nets) r).0 (step_back b))
not_drawn s st c (run k rows outputs) r b = run_no_20 c ((refusals s (AnyCall.run st k rows outputs) r).0 (run_back b))

-- WHAT CALLS LEAVE: a state in which the count stands
accepted_leaves : (s st : List ℕ) (c : Call) → refusal_of s st c ≡ none → CountStands s (call_result s st c).state
unfolding refusal_of
accepted_leaves s st (step row nets) h =
    rw (made_step s st row nets h) (stands (counted_state (cycle_registers (lent_ready ((step_none s st row nets).0 h).0))))
accepted_leaves s st (run k rows outputs) h =
    rw (made_run s st k rows outputs h) (stands (counted_state (run_registers k (lent_ready ((run_none s st k rows outputs).0 h).0))))

leaves : (s st : List ℕ) → CountStands s st → (c : Call) → CountStands s (call_result s st c).state
leaves s st a c = either_way (refusal_of s st c) (accepted_leaves s st c) (λ r h. rw (made_refused s st c r h) a)

never_20 : (s st : List ℕ) → CountStands s st → (cs : List Call) → NoneDraws20 (history s st cs)
unfolding history
never_20 s st a [] = nil
never_20 s st a (c ∷ cs) = cons (not_drawn s st (right a) c) (never_20 s (call_result s st c).state (leaves s st a c) cs)

power_up_leaves : (s a : List ℕ) → (power_up_of s a).refusal ≡ none → CountStands s (power_up_of s a).state
power_up_leaves s a h = let p = powered s a h in rw (powered_up_lem s a p.0 p.1) (stands (counted_state (starts_registers p.0)))

examples : CountExamples
unfolding gating checking running encode woken
examples =
    record {
      powered_up_lem = refl;
      stepped = refl;
      ran = refl;
      too_high = refl;
      exchanged = refl;
      after_11 = refl;
      no_11 = refl;
    }

pub count_kept : CountKept
unfolding refusal_of call_result
count_kept =
    record {
      power_up = power_up_leaves;
      step = λ s st row nets v h. accepted_leaves s st (step row nets) (step_taken s st row nets h);
      run = λ s st k rows outputs f h. accepted_leaves s st (run k rows outputs) (run_taken s st k rows outputs h);
      never_20 = never_20;
      from_power_up_lem = λ s a h. never_20 s _ (power_up_leaves s a h);
      examples = examples;
    }
