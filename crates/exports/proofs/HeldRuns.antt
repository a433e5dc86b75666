-- The promises about lists of calls, two runs, and registers that wake unknown, used by their parts, as in Held.
use Prim.Native.Nat.{ℕ, ◌+◌, ◌*◌, ◌/◌, ◌%◌, ◌≤◌, ◌<◌}
use mathlib.Core.Path.{◌≡◌, refl}
use mathlib.Core.List.{List, [], ◌∷◌, Forall₂}
use mathlib.Core.Option.{none}
use lib.ListN.{length, get_or, take, drop}
use Rattle.gates.specs.Kinds.{REG, OUT}
use Rattle.gates.specs.Relations.{Agree}
use Rattle.image.specs.Image.{sizes_of, nets_of, u16}
use Rattle.refusals.specs.declared.answer.Refusal.{Refusal}
use Rattle.checking.specs.Check.{check_refusal}
use Rattle.cycle.specs.Cycle.{Verdict, FirstFlow}
use Rattle.cycle.specs.State.{state_length, marked_count, with_count, registers_in, AgreeStates}
use Rattle.cycle.specs.Calls.{done, power_up_of, Stepped, step_of, step_refusal, Ran, run_of, Answer, refused, run_refusal}
use Rattle.cycle.proofs.Calls.{step_accepted}
use Rattle.groups.specs.Groups.{split}
use Rattle.doubled.specs.Doubled.{doubled_size}
use Rattle.doubling.specs.Doubling.{double_of}
use Rattle.claims.specs.NetBytes.{net_of, place_of}
use Rattle.claims.specs.PowerUp.{WakesWith, unknown_0, unknown_1, Wakes}
use Rattle.claims.specs.History.{Call, step, run, CallResult, call_result, accepted, history, cycles_in, TurnedBack, AllFinished, Made, AllMade, stepped, ran}
use Rattle.claims.specs.Pairing.{Again, shown}
use Rattle.claims.specs.TwoRun.{Matched, SameCycle, SameCall, turned_back, finished, SameCalls, SameShown, SameDoubled}
use Rattle.claims.specs.InBytes.{from_power_up, clear_after, SameMarks, SameStates, StaysClear}
use Rattle.claims.proofs.History.{made_step, made_is}
use Rattle.claims.proofs.Agreeing.{agree_marks}
use Rattle.claims.specs.Steps.{steps_of}
use Rattle.claims.proofs.Promised.{promised}

-- LISTS OF CALLS. A call gives one result, and each call takes the state that the one before it left
handed_on : (s st : List ℕ) (cs : List Call) → AllMade s st cs (history s st cs) (cycles_in (history s st cs))
handed_on = promised.histories.made

one_result : {s st : List ℕ} {c : Call} {m n : CallResult} → Made s st c m → Made s st c n → m ≡ n
one_result = promised.histories.one_result

two_made : (s st : List ℕ) (c d : Call) → history s st (c ∷ d ∷ []) ≡ call_result s st c ∷ call_result s (call_result s st c).state d ∷ []
unfolding history
two_made s st c d = refl

-- the cycle of an accepted step is that step
step_cycle : (s st row nets : List ℕ) → step_refusal s st row nets ≡ none → cycles_in (history s st (step row nets ∷ [])) ≡ step_of s st row nets ∷ []
unfolding history cycles_in
step_cycle s st row nets h = rw (made_step s st row nets h, step_accepted s st row nets h)

-- TWO RUNS. Of a list of two calls, the second is made from the states that the first left
second_call : {s st st' : List ℕ} {c c' d d' : Call} → SameCalls s st st' (c ∷ c' ∷ []) (d ∷ d' ∷ [])
    → SameCall s (call_result s (call_result s st c).state c') (call_result s (call_result s st' d).state d')
second_call (SameCalls.cons p q t a (SameCalls.cons p' q' t' a' n)) = rw (← (made_is p), ← (made_is q), ← (made_is p'), ← (made_is q')) t'

call_parts : {s : List ℕ} {m n : CallResult} {A : Type 0} → SameCall s m n → ((r : Refusal) → TurnedBack r m.answer → TurnedBack r n.answer → A)
    → (m.answer ≡ n.answer → Agree m.buffer n.buffer → Forall₂ (SameCycle s) m.cycles n.cycles → A) → A
call_parts (turned_back r t u) f g = f r t u
call_parts (finished t e b c) f g = g e b c

-- states that agree: this of the register bytes, and the two bytes behind them equal, and nothing else
to_agree : {s st st' : List ℕ} → let r = (sizes_of s).registers in Agree (take r st) (take r st') → drop r st ≡ drop r st' → AgreeStates s st st'
to_agree a e = record { registers = a; counts = e }

same_cycle : {s : List ℕ} {o o' : Stepped} → let r = (sizes_of s).registers in
    SameCycle s o o' → (o.answer ≡ o'.answer) × Agree o.nets o'.nets × Agree (take r o.state) (take r o'.state) × (drop r o.state ≡ drop r o'.state)
same_cycle c = (c.verdict, c.nets, c.state.registers, c.state.counts)

-- after each call too
after_call : {s st st' : List ℕ} {c d : Call} → SameCalls s st st' (c ∷ []) (d ∷ []) → AgreeStates s (call_result s st c).state (call_result s st' d).state
after_call (SameCalls.cons p q t a n) = rw (← (made_is p), ← (made_is q)) a

same_shown : {s d : List ℕ} {o o' : Stepped} → SameShown s d o o' → (j : ℕ) → j < (sizes_of s).outputs
    → (get_or (shown d o) (2 * j + 1) 0 ≡ get_or (shown d o') (2 * j + 1) 0)
    × (get_or (shown d o) (2 * j + 1) 0 ≡ 0 → get_or (shown d o) (2 * j) 0 ≡ get_or (shown d o') (2 * j) 0)
same_shown c j l = (c.marks j l, c.values j l)

shown_lengths : {s d : List ℕ} {o o' : Stepped} → SameShown s d o o' → (length (shown d o) ≡ 2 * (sizes_of s).outputs) × (length (shown d o') ≡ 2 * (sizes_of s).outputs)
shown_lengths c = c.outputs

powered : (s a : List ℕ) → check_refusal s ≡ none → length a ≡ state_length (sizes_of s) → (power_up_of s a).refusal ≡ none
powered s a h l = ((promised.demand3 s h [] [] Forall₂.nil).powered_up_lem a l).0

-- any two rows that agree may stand in the two lists, also with bytes above 3
matched_steps : {r r' b b' : List ℕ} → Agree r r' → length b ≡ length b' → Matched (step r b) (step r' b')
matched_steps = Matched.steps

matched_runs : {k : ℕ} {r r' b b' : List ℕ} → Agree r r' → length b ≡ length b' → Matched (run k r b) (run k r' b')
matched_runs = Matched.runs

any_states : (s : List ℕ) (cs ds : List Call) → check_refusal s ≡ none → Forall₂ Matched cs ds → (st st' : List ℕ) → AgreeStates s st st' → SameCalls s st st' cs ds
any_states s cs ds h m = (promised.demand3 s h cs ds m).from_states

powered_states : (s a b : List ℕ) (cs ds : List Call) → check_refusal s ≡ none → Forall₂ Matched cs ds → length a ≡ state_length (sizes_of s) → length b ≡ state_length (sizes_of s)
    → SameCalls s (power_up_of s a).state (power_up_of s b).state cs ds
powered_states s a b cs ds h m = (promised.demand3 s h cs ds m).from_power_up_lem a b

-- the doubled half of demand 3, from any two states that agree and from power-up
module _ (s : List ℕ) (h : check_refusal s ≡ none) (few : doubled_size (nets_of s) ≤ 8192) (buf : List ℕ) (l : length buf ≡ 8 + 7 * doubled_size (nets_of s))
    (cs ds cs' ds' : List Call) (m : Forall₂ Matched cs ds) where
  abbrev d : List ℕ
  d = (double_of s buf).buffer

  both_written : (double_of s buf).refusal ≡ none
  both_written = ((promised.demand3 s h cs ds m).doubled few buf l).written

  both_shown : {st st' : List ℕ} → SameDoubled s d st st' cs' ds' → Forall₂ (SameShown s d) (cycles_in (history d st cs')) (cycles_in (history d st' ds'))
  both_shown t = t.shown

  both_made : {st st' : List ℕ} → SameDoubled s d st st' cs' ds'
      → AllFinished (history d st cs') × AllFinished (history d st' ds')
      × AllMade d st cs' (history d st cs') (cycles_in (history d st cs')) × AllMade d st' ds' (history d st' ds') (cycles_in (history d st' ds'))
  both_made t = (t.finished.0, t.finished.1, t.made, t.made')

  doubled_lists : (st st' : List ℕ) → AgreeStates s st st' → Forall₂ (Again d) (accepted s st cs) cs' → Forall₂ (Again d) (accepted s st' ds) ds'
      → SameDoubled s d (with_count (split (registers_in s st))) (with_count (split (registers_in s st'))) cs' ds'
  doubled_lists st st' q = ((promised.demand3 s h cs ds m).doubled few buf l).from_states st st' q cs' ds'

  powered_lists :
      (a b a' b' : List ℕ) → length a ≡ state_length (sizes_of s) → length b ≡ state_length (sizes_of s) → length a' ≡ state_length (sizes_of d) → length b' ≡ state_length (sizes_of d)
      → Forall₂ (Again d) (accepted s (power_up_of s a).state cs) cs' → Forall₂ (Again d) (accepted s (power_up_of s b).state ds) ds'
      → ((power_up_of d a').refusal ≡ none) × ((power_up_of d b').refusal ≡ none) × SameDoubled s d (power_up_of d a').state (power_up_of d b').state cs' ds'
  powered_lists a b a' b' p q p' q' x y = let t = ((promised.demand3 s h cs ds m).doubled few buf l).from_power_up_lem a b a' b' p q p' q' in (t.0, t.1, t.2 cs' ds' x y)

-- IN BYTES ALONE. Bytes that agree are bytes that differ at most in the values of marked ones
differ_at_most : {xs ys : List ℕ} → Agree xs ys → SameMarks xs ys
differ_at_most = agree_marks

states_differ : {s st st' : List ℕ} → let r = (sizes_of s).registers in SameMarks (take r st) (take r st') → drop r st ≡ drop r st' → SameStates s st st'
states_differ m e = record { registers = m; counts = e }

states_are : {s st st' : List ℕ} → let r = (sizes_of s).registers in SameStates s st st' → SameMarks (take r st) (take r st') × (drop r st ≡ drop r st')
states_are m = (m.registers, m.counts)

steps_same : (s st st' row row' nets nets' : List ℕ) (v : Verdict) → SameStates s st st' → SameMarks row row' → length nets ≡ length nets'
    → (step_of s st row nets).answer ≡ done v
    → let o = step_of s st row nets in
    let o' = step_of s st' row' nets' in
    (o.answer ≡ o'.answer) × SameMarks o.nets o'.nets × SameStates s o.state o'.state
steps_same s st st' row row' nets nets' v q p l h = let t = promised.steps_agree s st st' row row' nets nets' v q p l h in (t.answer, t.nets, t.state)

stays_clear : {s : List ℕ} {k : ℕ} {o o' : Ran} → StaysClear s k o o' → (o'.answer ≡ clear_after k) × SameStates s o.state o'.state
stays_clear c = (c.answer, c.state)

stays_unmarked : {s : List ℕ} {k : ℕ} {o o' : Ran} → StaysClear s k o o'
    → (c i : ℕ) → c < k → i < (sizes_of s).nets → (net_of s i).kind ≡ OUT → (net_of s i).b ≡ 1
    → let j = c * (sizes_of s).outputs + place_of OUT s i in (get_or o.outputs j 0 / 2 % 2 ≡ 0) × (get_or o.outputs j 0 ≡ get_or o'.outputs j 0)
stays_unmarked c = c.protected

-- REGISTERS THAT WAKE UNKNOWN-TRUSTED, with either value
either_value : WakesWith 2 2 × WakesWith 2 3
either_value = (unknown_0, unknown_1)

module _ (s : List ℕ) (h : check_refusal s ≡ none) where
  woken_count : (st : List ℕ) → Wakes s st → let r = (sizes_of s).registers in (length st ≡ r + 2) × (drop r st ≡ u16 (marked_count (take r st)))
  woken_count st w = (w.size, w.count)

  any_value : (st : List ℕ) → Wakes s st → (i : ℕ) → i < (sizes_of s).nets → (net_of s i).kind ≡ REG → WakesWith (net_of s i).b (get_or st (place_of REG s i) 0)
  any_value st w = w.register

  woken_states : (a st : List ℕ) → length a ≡ state_length (sizes_of s) → SameStates s (power_up_of s a).state st → Wakes s st
  woken_states a st l = ((promised.unknown_start s h).states a st l).1

  woken_calls : (st st' : List ℕ) → Wakes s st → Wakes s st' → (cs ds : List Call) → Forall₂ Matched cs ds → SameCalls s st st' cs ds
  woken_calls = (promised.unknown_start s h).calls

  woken_clear :
      (a st : List ℕ) (k : ℕ) (rows rows' outputs outputs' : List ℕ)
      → length a ≡ state_length (sizes_of s) → Wakes s st → SameMarks rows rows' → length outputs ≡ length outputs'
      → (from_power_up s a k rows outputs).answer ≡ clear_after k → StaysClear s k (from_power_up s a k rows outputs) (run_of s st k rows' outputs')
  woken_clear = (promised.unknown_start s h).clear

  woken_doubled :
      doubled_size (nets_of s) ≤ 8192 → (buf : List ℕ) → length buf ≡ 8 + 7 * doubled_size (nets_of s)
      → let d = (double_of s buf).buffer in
      (st st' u u' : List ℕ) → Wakes s st → Wakes s st' → Wakes d u → Wakes d u' → (cs ds cs' ds' : List Call) → Forall₂ Matched cs ds
      → Forall₂ (Again d) (accepted s st cs) cs' → Forall₂ (Again d) (accepted s st' ds) ds' → SameDoubled s d u u' cs' ds'
  woken_doubled few buf l st st' u u' w w' v v' cs ds cs' ds' m = (promised.unknown_start s h).doubled few buf l st st' u u' w w' v v' cs ds m cs' ds'

-- what a call of a list gives is what the step or run gives
a_step_gives : (s st row nets : List ℕ)
    → let m = call_result s st (step row nets) in
    let o = step_of s st row nets in
    (m.answer ≡ stepped o.answer) × (m.buffer ≡ o.nets) × (m.state ≡ o.state)
unfolding call_result
a_step_gives s st row nets = (refl, refl, refl)

a_run_gives : (s st : List ℕ) (k : ℕ) (rows outputs : List ℕ)
    → let m = call_result s st (run k rows outputs) in
    let o = run_of s st k rows outputs in
    (m.answer ≡ ran o.answer) × (m.buffer ≡ o.outputs) × (m.state ≡ o.state) × (run_refusal s st k rows outputs ≡ none → m.cycles ≡ steps_of s st k rows)
unfolding call_result
a_run_gives s st k rows outputs = (refl, refl, refl, λ h. rw (call_result, h))

step_back : {r : Refusal} {a : Answer Verdict} → TurnedBack r (stepped a) → a ≡ refused r
step_back TurnedBack.a_step = refl

run_back : {r : Refusal} {a : Answer FirstFlow} → TurnedBack r (ran a) → a ≡ refused r
run_back TurnedBack.a_run = refl
