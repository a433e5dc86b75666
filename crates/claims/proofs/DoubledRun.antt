-- A run of the doubled netlist shows the values and marks of the source's run.
use Prim.Native.Nat.{ℕ, ◌+◌, ◌*◌, ◌/◌, ◌%◌}
use native.Mathlib.Omega.{arith}
use mathlib.Core.Path.{◌≡◌, refl, sym, ap, ap₂, ◌∙◌}
use mathlib.Core.List.{List, [], ◌∷◌, ◌++◌, map, map-append, append-nil, Forall₂}
use mathlib.Core.Option.{none}
use lib.ListN.{length, get_or, get_or-map, take-append-drop}
use Rattle.gates.specs.Rules.{mark}
use Rattle.image.specs.Image.{sizes_of, nets_of, u16}
use Rattle.refusals.proofs.Refusals.{Codes}
use Rattle.cycle.specs.State.{marked_count, with_count, registers_in}
use Rattle.checking.proofs.Checked.{check_none}
use Rattle.cycle.specs.Cycle.{FirstFlow, outputs_from}
use Rattle.cycle.specs.Calls.{Answer, done, Stepped, run_of, run_refusal}
use Rattle.cycle.proofs.Calls.{run_none}
use Rattle.groups.specs.Groups.{split}
use Rattle.doubling.specs.Doubling.{double_of}
use Rattle.doubling.proofs.Checks.{doubled_sizes, double_none, double_accepted}
use Rattle.doubling.proofs.Simulation.{split_append}
use Rattle.claims.specs.Steps.{steps_of, outputs_in}
use Rattle.claims.specs.History.{run, ran, CallResult, call_result, refusal_of, accepted, Finished, AllFinished, AllMade}
use Rattle.claims.specs.Pairing.{Again, run_again, split_state, shown, Shows, Paired, AllPaired}
use Rattle.claims.specs.InBytes.{StateInTwo, ShowsInTwo, RunsShow, DoubledShows}
use Rattle.claims.proofs.Steps.{run_is_steps}
use Rattle.claims.proofs.History.{made_run, made_is, accepted_none}
use Rattle.claims.proofs.Splitting.{split_value, split_mark, in_two}
use Rattle.claims.proofs.Pairing.{demand2}
use Rattle.claims.proofs.Taken.{powered, run_taken, double_taken}

-- CYCLES that show the same: so do the outputs of all of them
outputs_shown : (s d : List ℕ) {os os' : List Stepped} → Forall₂ (Shows s d) os os' → map (λ x. x % 2) (outputs_in d os') ≡ split (outputs_in s os)
unfolding outputs_in shown split
outputs_shown s d Forall₂.nil = refl
outputs_shown s d (Forall₂.cons {a = o} {b = o'} {l₁ = os} {l₂ = os'} h t) =
    map-append (λ x. x % 2) (outputs_from 0 (nets_of d) o'.nets) (outputs_in d os')
    ∙ ap₂ (λ p q. p ++ q) h.pairs (outputs_shown s d t)
    ∙ sym (split_append (outputs_from 0 (nets_of s) o.nets) (outputs_in s os))

in_one : {A B : Type 0} {R : A → B → Type 0} {xs : List A} {ys : List B} → Forall₂ R (xs ++ []) (ys ++ []) → Forall₂ R xs ys
in_one {xs = xs} {ys} h = rw (append-nil xs, append-nil ys) at h

-- ONE CALL, a run that is done
record OneMade (s st : List ℕ) (k : ℕ) (rows outputs : List ℕ) (all : List Stepped) : Type 0 where
  cycles : all ≡ steps_of s st k rows ++ []
  outs : (run_of s st k rows outputs).outputs ≡ outputs_in s (steps_of s st k rows)

one_made : (s st : List ℕ) (k : ℕ) (rows outputs : List ℕ) {ms : List CallResult} {all : List Stepped} {f : FirstFlow}
    → AllMade s st (run k rows outputs ∷ []) ms all → (run_of s st k rows outputs).answer ≡ done f → OneMade s st k rows outputs all
one_made s st k rows outputs (AllMade.cons p AllMade.nil) h =
    let t = run_taken s st k rows outputs h in
    let a = run_is_steps s st k rows outputs t in
    record { cycles = rw (made_is p, made_run s st k rows outputs t, a.cycles); outs = a.outs }

-- a run that is finished has a first flow
record Some (a : Answer FirstFlow) : Type 0 where
  first : FirstFlow
  is : a ≡ done first

some_flow : {a : Answer FirstFlow} → Finished (ran a) → Some a
some_flow (Finished.a_run {f}) = record { first = f; is = refl }

one_finished : (s st : List ℕ) (k : ℕ) (rows outputs : List ℕ) {ms : List CallResult} {all : List Stepped}
    → AllMade s st (run k rows outputs ∷ []) ms all → AllFinished ms → Some (run_of s st k rows outputs).answer
unfolding call_result
one_finished s st k rows outputs (AllMade.cons p AllMade.nil) (AllFinished.cons t u) = some_flow (rw (made_is p) at t)

-- bytes whose values are these: one of them
plain_at : (xs : List ℕ) {ys : List ℕ} → map (λ x. x % 2) xs ≡ ys → (j : ℕ) → get_or xs j 0 % 2 ≡ get_or ys j 0
plain_at xs e j = sym (get_or-map (λ x. x % 2) xs j 0) ∙ ap (λ ys. get_or ys j 0) e

-- demand 2 of one run, on any image d that shows the same
shows_run : (s d st st' : List ℕ) (k : ℕ) (rows outputs outputs' : List ℕ) (f : FirstFlow)
    → Paired s d st st' (run k rows outputs ∷ []) (run k (split rows) outputs' ∷ []) → (run_of s st k rows outputs).answer ≡ done f
    → ShowsInTwo (run_of s st k rows outputs) (run_of d st' k (split rows) outputs')
shows_run s d st st' k rows outputs outputs' f p h =
    let again = one_finished d st' k (split rows) outputs' p.made_again p.finished in
    let m = one_made s st k rows outputs p.made h in
    let n = one_made d st' k (split rows) outputs' p.made_again again.is in
    let all = outputs_shown s d (in_one (rw (m.cycles, n.cycles) at p.cycles)) in
    let e : map (λ x. x % 2) (run_of d st' k (split rows) outputs').outputs ≡ split (run_of s st k rows outputs).outputs = rw (m.outs, n.outs) all in
    let byte = plain_at (run_of d st' k (split rows) outputs').outputs e in
    record {
      first = again.first;
      answer = again.is;
      values = λ j l. byte (2 * j) ∙ split_value (run_of s st k rows outputs).outputs j;
      marks = λ j l. byte (2 * j + 1) ∙ split_mark (run_of s st k rows outputs).outputs j;
    }

the_run : (s st d : List ℕ) (k : ℕ) (rows outputs outputs' : List ℕ) → run_refusal s st k rows outputs ≡ none → length outputs' ≡ k * (sizes_of d).outputs
    → Forall₂ (Again d) (accepted s st (run k rows outputs ∷ [])) (run k (split rows) outputs' ∷ [])
unfolding refusal_of accepted
the_run s st d k rows outputs outputs' h l = rw (accepted_none s st (run k rows outputs) [] h) (Forall₂.cons (run_again l) Forall₂.nil)

runs_show : {s d st st' : List ℕ} → (sizes_of d).outputs ≡ 2 * (sizes_of s).outputs → AllPaired s d st st' → RunsShow s d st st'
runs_show {s} {d} {st} {st'} e again k rows rows' outputs outputs' f t l h =
    let r = run_taken s st k rows outputs h in
    let o = ((run_none s st k rows outputs).0 r).2 in
    let twice : k * (2 * (sizes_of s).outputs) ≡ 2 * (k * (sizes_of s).outputs) = omega arith in
    let size : length outputs' ≡ k * (sizes_of d).outputs = rw e (l ∙ ap (λ m. 2 * m) o ∙ sym twice) in
    rw (in_two rows rows' t) (shows_run s d st st' k rows outputs outputs' f (again _ _ (the_run s st d k rows outputs outputs' r size)) h)

-- a state that stands so: where its source's registers are codes, none of its registers is marked
split_unmarked : {xs : List ℕ} → Codes xs → marked_count (split xs) ≡ 0
unfolding split marked_count mark
split_unmarked Forall₂.nil = refl
split_unmarked (Forall₂.cons {a = x} h t) =
    let value : x % 2 / 2 % 2 ≡ 0 = omega arith in
    let above : x / 2 / 2 % 2 ≡ 0 = omega arith in
    rw (value, above, split_unmarked t)

state_in_two : {s d st st' : List ℕ} → Codes (registers_in s st) → StateInTwo s d st st' → st' ≡ split_state s st
unfolding with_count
state_in_two {s} {d} {st} {st'} c t =
    sym (take-append-drop (sizes_of d).registers st')
    ∙ ap₂ ◌++◌ (in_two (registers_in s st) (registers_in d st') t.registers) (t.count ∙ ap u16 (sym (split_unmarked c)))

pub doubled_shows : DoubledShows
doubled_shows s buf w =
    let g = double_taken s buf w in
    let n = (double_none s buf).0 g in
    let d = (double_of s buf).buffer in
    let pairs = demand2 s ((check_none s).1 n.0) n.1 buf n.2 in
    let outputs : (sizes_of d).outputs ≡ 2 * (sizes_of s).outputs = rw (double_accepted s buf g, doubled_sizes s) in
    record {
      from_power_up_lem = λ a a' p p'. runs_show outputs (pairs.from_power_up_lem a a' (powered s a p).1 (powered d a' p').1).2;
      from_state = λ st st' t k rows rows' os os' f u l h.
          let r = ((run_none s st k rows os).0 (run_taken s st k rows os h)).0 in
          rw (state_in_two r.state.registers.codes t) (runs_show outputs (pairs.from_state st) k rows rows' os os' f u l h);
    }
