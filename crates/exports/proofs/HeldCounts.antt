-- The promise about the count of marked registers, used by its parts, as in Held; and the refusals of a state, in plain facts.
use Prim.Native.Nat.{ℕ, ◌+◌, ◌*◌, ◌/◌, ◌%◌, ◌≤◌, ◌<◌}
use mathlib.Core.Path.{◌≡◌, refl}
use mathlib.Core.List.{List, [], ◌∷◌, ◌++◌}
use mathlib.Core.Option.{none, some}
use lib.ListN.{length, get_or, take, drop, replicate}
use Rattle.image.specs.Image.{sizes_of, u16}
use Rattle.refusals.specs.declared.answer.Refusal.{Refusal}
use Rattle.refusals.specs.Refusals.{refusal}
use Rattle.cycle.specs.State.{state_length, marked_count, with_count}
use Rattle.cycle.specs.Cycle.{Verdict, FirstFlow}
use Rattle.cycle.specs.Calls.{done, refused, power_up_of, step_of, step_refusal, run_of}
use Rattle.claims.specs.Accepted.{AcceptedImage}
use Rattle.claims.specs.Refused as table
use Rattle.claims.specs.History.{Call, CallResult, history, TurnedBack, step, run, call_result}
use Rattle.claims.specs.CountKept.{CountStands, NoneDraws20, woken}
use Rattle.codes.specs.Codes.{outcome_code, verdict_code, first_flow_code, answer_code}
use Rattle.codes.proofs.Says.{says}
use Rattle.claims.proofs.Promised.{promised}

-- TERMS. What is counted, and where the number stands
counted : (x : ℕ) (xs : List ℕ) → (marked_count [] ≡ 0) × (x / 2 % 2 ≡ 1 → marked_count (x ∷ xs) ≡ 1 + marked_count xs) × (x / 2 % 2 ≡ 0 → marked_count (x ∷ xs) ≡ marked_count xs)
counted x xs = let t = promised.terms in (t.marked_none, t.marked_one x xs, t.marked_other x xs)

state_is : (s rs : List ℕ) → (state_length (sizes_of s) ≡ (sizes_of s).registers + 2) × (with_count rs ≡ rs ++ u16 (marked_count rs))
state_is s rs = let t = promised.terms in (t.state_length_lem s, t.state rs)

low_byte_first : (n : ℕ) → u16 n ≡ n % 256 ∷ n / 256 ∷ []
low_byte_first = promised.terms.two_bytes

-- THE COUNT STANDS in a state, in bytes
two_bytes : {s st : List ℕ} → CountStands s st
    → let r = (sizes_of s).registers in
    (length st ≡ r + 2) × (get_or st r 0 < 256) × (get_or st r 0 + 256 * get_or st (r + 1) 0 ≡ marked_count (take r st))
two_bytes c = (c.size, c.low, c.count)

after_power_up : (s st : List ℕ) → (power_up_of s st).refusal ≡ none → CountStands s (power_up_of s st).state
after_power_up = promised.count_kept.power_up

after_step : (s st row nets : List ℕ) (v : Verdict) → (step_of s st row nets).answer ≡ done v → CountStands s (step_of s st row nets).state
after_step = promised.count_kept.step

after_run : (s st : List ℕ) (k : ℕ) (rows outputs : List ℕ) (f : FirstFlow) → (run_of s st k rows outputs).answer ≡ done f → CountStands s (run_of s st k rows outputs).state
after_run = promised.count_kept.run

-- LISTS OF CALLS: of two, neither draws 20
neither_draws : {m n : CallResult} → NoneDraws20 (m ∷ n ∷ []) → (r : Refusal) → r.number ≡ 20 → (TurnedBack r m.answer → ⊥) × (TurnedBack r n.answer → ⊥)
neither_draws (NoneDraws20.cons h (NoneDraws20.cons k more)) r e = (λ t. h r t e, λ t. k r t e)

no_20 : (s st a : List ℕ) (cs : List Call) → let r = (sizes_of s).registers in
    length st ≡ r + 2 → get_or st r 0 < 256 → get_or st r 0 + 256 * get_or st (r + 1) 0 ≡ marked_count (take r st) → (power_up_of s a).refusal ≡ none
    → NoneDraws20 (history s st cs) × NoneDraws20 (history s (power_up_of s a).state cs)
no_20 s st a cs l b n h = let c = promised.count_kept in (c.never_20 s st (record { size = l; low = b; count = n }) cs, c.from_power_up_lem s a h cs)

-- REFUSALS of a state: 10 by its length; then 11 by its first R bytes alone; then 20 by the two behind them, whatever the row and the buffer are
module _ (s st row nets : List ℕ) (a : AcceptedImage s) where
  draws_10 : (length st ≡ (sizes_of s).registers + 2 → ⊥) → (step_of s st row nets).answer ≡ refused (refusal 10 0)
  draws_10 h = (promised.refusals s (table.step st row nets) (refusal 10 0)).1 (table.bad_step a (table.state_size h))

  draws_11 : (i : ℕ) → length st ≡ (sizes_of s).registers + 2
      → let rs = take (sizes_of s).registers st in
      i < length rs → 3 < get_or rs i 0 → ((j : ℕ) → j < i → get_or rs j 0 ≤ 3) → (step_of s st row nets).answer ≡ refused (refusal 11 i)
  draws_11 i l b h f = (promised.refusals s (table.step st row nets) (refusal 11 i)).1 (table.bad_step a (table.state_byte l (record { below = b; above = h; first = f })))

  module _ (l : length st ≡ (sizes_of s).registers + 2) (c : (i : ℕ) → i < length (take (sizes_of s).registers st) → get_or (take (sizes_of s).registers st) i 0 ≤ 3) where
    draws_20 : (drop (sizes_of s).registers st ≡ u16 (marked_count (take (sizes_of s).registers st)) → ⊥) → (step_of s st row nets).answer ≡ refused (refusal 20 0)
    draws_20 h = (promised.refusals s (table.step st row nets) (refusal 20 0)).1 (table.bad_step a (table.state_count l c h))

    run_draws_20 : (k : ℕ) (rows outputs : List ℕ) → k ≤ 4096 → (drop (sizes_of s).registers st ≡ u16 (marked_count (take (sizes_of s).registers st)) → ⊥)
        → (run_of s st k rows outputs).answer ≡ refused (refusal 20 0)
    run_draws_20 k rows outputs f h = (promised.refusals s (table.run st k rows outputs) (refusal 20 0)).1 (table.bad_run a f (table.state_count l c h))

    accepted : drop (sizes_of s).registers st ≡ u16 (marked_count (take (sizes_of s).registers st)) → length row ≡ (sizes_of s).inputs
        → ((i : ℕ) → i < length row → get_or row i 0 ≤ 3) → length nets ≡ (sizes_of s).nets → step_refusal s st row nets ≡ none
    accepted e m d n = (promised.when_accepted.step s st row nets).1 (a, record { size = l; codes = c; count = e }, record { size = m; codes = d }, n)

-- EXAMPLES
left : ((power_up_of woken (9 ∷ 9 ∷ 9 ∷ 9 ∷ [])).state ≡ 2 ∷ 1 ∷ 1 ∷ 0 ∷ [])
    × ((step_of woken (2 ∷ 1 ∷ 1 ∷ 0 ∷ []) (3 ∷ []) (replicate 3 9)).state ≡ 3 ∷ 3 ∷ 2 ∷ 0 ∷ [])
    × ((run_of woken (2 ∷ 1 ∷ 1 ∷ 0 ∷ []) 2 (3 ∷ 0 ∷ []) []).state ≡ 0 ∷ 0 ∷ 0 ∷ 0 ∷ [])
left = let e = promised.count_kept.examples in (e.powered_up_lem, e.stepped, e.ran)

drawn : ((step_of woken (2 ∷ 1 ∷ 2 ∷ 0 ∷ []) (0 ∷ 0 ∷ []) (replicate 3 9)).answer ≡ refused (refusal 20 0))
    × ((step_of woken (2 ∷ 1 ∷ 0 ∷ 1 ∷ []) (0 ∷ []) (replicate 3 9)).answer ≡ refused (refusal 20 0))
    × ((step_of woken (4 ∷ 1 ∷ 9 ∷ 9 ∷ []) (0 ∷ []) (replicate 3 9)).answer ≡ refused (refusal 11 0))
    × ((step_of woken (2 ∷ 1 ∷ 9 ∷ 0 ∷ []) (0 ∷ []) (replicate 3 9)).answer ≡ refused (refusal 20 0))
drawn = let e = promised.count_kept.examples in (e.too_high, e.exchanged, e.after_11, e.no_11)

-- of a list of any length: the first call doesn't draw 20, nor do those behind it
first_and_rest : {m : CallResult} {ms : List CallResult} → NoneDraws20 (m ∷ ms) → ((r : Refusal) → TurnedBack r m.answer → r.number ≡ 20 → ⊥) × NoneDraws20 ms
first_and_rest (NoneDraws20.cons h t) = (h, t)

-- so a step and a run from a state in which the count stands
step_not_20 : (s st row nets : List ℕ) → CountStands s st → (place : ℕ) → (step_of s st row nets).answer ≡ refused (refusal 20 place) → ⊥
unfolding history call_result
step_not_20 s st row nets c place e = (first_and_rest (promised.count_kept.never_20 s st c (step row nets ∷ []))).0 (refusal 20 place) (rw e TurnedBack.a_step) refl

run_not_20 : (s st : List ℕ) (k : ℕ) (rows outputs : List ℕ) → CountStands s st → (place : ℕ) → (run_of s st k rows outputs).answer ≡ refused (refusal 20 place) → ⊥
unfolding history call_result
run_not_20 s st k rows outputs c place e = (first_and_rest (promised.count_kept.never_20 s st c (run k rows outputs ∷ []))).0 (refusal 20 place) (rw e TurnedBack.a_run) refl

-- 10 at power-up, and 10 and 11 of a run
power_up_draws_10 : (s st : List ℕ) → AcceptedImage s → (length st ≡ (sizes_of s).registers + 2 → ⊥) → (power_up_of s st).refusal ≡ some (refusal 10 0)
power_up_draws_10 s st a h = (promised.refusals s (table.power_up st) (refusal 10 0)).1 (table.bad_state a h)

run_draws_11 : (s st : List ℕ) (k : ℕ) (rows outputs : List ℕ) → AcceptedImage s → k ≤ 4096 → (i : ℕ) → length st ≡ (sizes_of s).registers + 2
    → let rs = take (sizes_of s).registers st in
    i < length rs → 3 < get_or rs i 0 → ((j : ℕ) → j < i → get_or rs j 0 ≤ 3) → (run_of s st k rows outputs).answer ≡ refused (refusal 11 i)
run_draws_11 s st k rows outputs a m i l b h f = (promised.refusals s (table.run st k rows outputs) (refusal 11 i)).1 (table.bad_run a m (table.state_byte l (record { below = b; above = h; first = f })))

-- the same, for a caller who sees numbers
numbers_counted : (s a st row nets : List ℕ) (k : ℕ) (rows outputs : List ℕ)
    → (outcome_code (power_up_of s a).refusal ≡ 0 → CountStands s (power_up_of s a).state)
    × (answer_code verdict_code (step_of s st row nets).answer < 4294967296 → CountStands s (step_of s st row nets).state)
    × (answer_code first_flow_code (run_of s st k rows outputs).answer < 4294967296 → CountStands s (run_of s st k rows outputs).state)
numbers_counted s a st row nets k rows outputs = (says.power_up_counted s a, says.step_counted s st row nets, says.run_counted s st k rows outputs)
