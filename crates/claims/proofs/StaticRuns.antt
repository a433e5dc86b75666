-- What a static run says holds of every run that it covers.
use Prim.Native.Nat.{ℕ, ◌+◌, ◌*◌, ◌≤◌}
use native.Mathlib.Omega.{arith}
use mathlib.Core.Path.{◌≡◌, refl, sym, ◌∙◌, ap}
use mathlib.Core.List.{List, Forall₂}
use mathlib.Core.Option.{none, some}
use mathlib.Core.Bool.{Bool, true, false, cond, false≢true}
use lib.Dec.{eqb, lit≤}
use lib.ListN.{length}
use borrow.Author.Tests.{eqb-true}
use Rattle.gates.specs.Rules.{bit, byte}
use Rattle.gates.specs.Relations.{AgreeByte, same, low_high, high_low, Agree}
use Rattle.unknowns.specs.Covering.{Covers, CoversAll}
use Rattle.unknowns.proofs.Covered.{covers_itself, covers_every}
use Rattle.image.specs.Image.{sizes_of, nets_of}
use Rattle.image.proofs.Pairs.{pairs_imp, pairs_length}
use Rattle.checking.proofs.Checked.{Checked}
use Rattle.refusals.specs.declared.answer.Refusal.{Refusal}
use Rattle.cycle.specs.Cycle.{plain, Cycle, cycles_of, FirstFlow}
use Rattle.cycle.specs.State.{with_count, registers_in}
use Rattle.cycle.specs.Calls.{done, start, starts, as_run, counting, run_refusal, run_of}
use Rattle.cycle.proofs.States.{state_length_lem, state_registers}
use Rattle.cycle.proofs.Cycles.{Related, ClearAfter, registers_related, cycles_related, outputs_of_related, state_after_related, first_clear}
use Rattle.cycle.proofs.Calls.{either_way, power_up_accepted, power_up_refused, power_up_none, run_accepted, run_refused, run_none, start_code}
use Rattle.static_run.specs.StaticCalls.{static, static_start, static_starts, static_power_up_refusal, static_run_refusal, static_run_of}
use Rattle.static_run.proofs.StaticRefused.{static_power_up_accepted, static_power_up_refused, static_accepted, static_refused, static_none}
use Rattle.claims.specs.PowerUp.{Wakes}
use Rattle.claims.specs.StaticRuns.{CoversCycle, CoversState, SoundCycles, SoundRun, StaticSound, StaticWakes, RunPair, AllCovered, no_more, one_more, SoundRuns, nil, cons, StaticRuns}
use Rattle.claims.proofs.StaticCovered.{covers_kept, covers_judged, same_refusal, same_power_up}
use Rattle.claims.proofs.Waking.{starts_agree, woken_state}

-- a cycle as the claim has it
covers_cycle : (c d : Cycle) → Related Covers ClearAfter c d → CoversCycle c d
covers_cycle c d h = record { nets = h.bytes; verdict = h.verdict; outputs = h.outputs; state = h.state }

done_is : {f g : FirstFlow} → done f ≡ done g → f ≡ g
done_is h = cc

-- a static run from st, and a concrete one from the state of register bytes rs that st covers
module _ (s : List ℕ) {st rs : List ℕ} (k : ℕ) {codes rows : List ℕ} (b b' : List ℕ)
    (p : CoversAll st rs) (q : CoversAll codes rows) (l : length b ≡ length b') where
  abbrev st' : List ℕ
  st' = with_count rs

  both_refuse : static_run_refusal s st k codes b ≡ run_refusal s st' k rows b'
  both_refuse = same_refusal s k b b' p q l

  -- accepted
  module _ (h : static_run_refusal s st k codes b ≡ none) where
    h' : run_refusal s st' k rows b' ≡ none
    h' = sym both_refuse ∙ h

    back : registers_in s st' ≡ rs
    back = state_registers rs (sym (pairs_length p) ∙ ((static_none s st k codes b).0 h).0.registers.size)

    covered : Forall₂ (Related Covers ClearAfter) (cycles_of static (nets_of s) (sizes_of s).inputs k codes st) (cycles_of plain (nets_of s) (sizes_of s).inputs k rows (registers_in s st'))
    covered = cycles_related static plain covers_kept covers_judged ((run_none s st' k rows b').0 h').0.image.nets (sizes_of s).inputs k q (rw back p)

    sound_cycles : SoundCycles s st st' k codes rows b b'
    unfolding as_run counting
    sound_cycles =
        record {
          cycles = pairs_imp covers_cycle covered;
          outputs = rw (static_accepted s st k codes b h, run_accepted s st' k rows b' h') (outputs_of_related covered);
          clears = λ {n} e.
              rw (run_accepted s st' k rows b' h')
              (ap done (first_clear 0 n covered (done_is (rw (static_accepted s st k codes b h) at e))));
        }

    state_accepted : CoversState (static_run_of s st k codes b).state (run_of s st' k rows b').state
    unfolding as_run counting
    state_accepted =
        rw (static_accepted s st k codes b h, run_accepted s st' k rows b' h')
        (let begins : CoversAll st (registers_in s st') = rw back p in record { registers = _; covered = state_after_related begins covered; state = refl })

  state_refused : (r : Refusal) → static_run_refusal s st k codes b ≡ some r → CoversState (static_run_of s st k codes b).state (run_of s st' k rows b').state
  state_refused r h = rw (static_refused s st k codes b r h, run_refused s st' k rows b' r (sym both_refuse ∙ h)) (record { registers = rs; covered = p; state = refl })

  sound_run : SoundRun s st st' k codes rows b b'
  sound_run = record { refusal = both_refuse; accepted = sound_cycles; state = either_way (static_run_refusal s st k codes b) state_accepted state_refused }

pub static_sound : StaticSound
static_sound s st st' k codes rows b b' p q l = rw p.state (sound_run s k b b' p.covered q l)

-- POWER-UP
covers_start : (b : ℕ) → Covers (static_start b) (start b)
unfolding static_start
covers_start b = either (eqb b 2) (start_code b)
  where
    either : (c : Bool) {x : ℕ} → x ≤ 3 → Covers (cond c 6 x) x
    either true h = covers_every h
    either false h = covers_itself h

covers_starts : (s : List ℕ) → CoversAll (static_starts (nets_of s)) (starts (nets_of s))
unfolding static_starts starts
covers_starts s = registers_related Covers (λ x. covers_start x.b) (nets_of s)

not_some : {A : Type 0} {r : Refusal} → some r ≡ none → A
not_some h = absurd (false≢true (ap (λ o. elim o [ none ↦ true | some r ↦ false ]) h))

-- what the array may wake with, register by register: a register without a start is unknown, and every other has its start
data Wakened : (code first : ℕ) → Type 0 where
  unknown : Wakened 6 2
  given : {x : ℕ} → x ≤ 1 → Wakened x x

wakened : (b : ℕ) → Wakened (static_start b) (start b)
unfolding static_start start byte
wakened b = by (eqb b 2) refl
  where
    trusted : (one : Bool) → Wakened (bit one + 2 * bit false) (bit one + 2 * bit false)
    trusted true = given (lit≤ tt)
    trusted false = given (lit≤ tt)

    by : (two : Bool) → eqb b 2 ≡ two → Wakened (cond two 6 (bit (eqb b 1) + 2 * bit two)) (bit (eqb b 1) + 2 * bit two)
    by true e = rw (eqb-true b 2 e) unknown
    by false e = trusted (eqb b 1)

covers_agreeing : {code x y : ℕ} → Wakened code x → AgreeByte x y → Covers code y
covers_agreeing unknown same = covers_every (lit≤ tt)
covers_agreeing unknown low_high = covers_every (lit≤ tt)
covers_agreeing (given h) same = covers_itself (omega arith)
covers_agreeing (given h) low_high = absurd (omega arith)
covers_agreeing (given h) high_low = absurd (omega arith)

each_covers : {cs xs ys : List ℕ} → Forall₂ Wakened cs xs → Agree xs ys → CoversAll cs ys
each_covers Forall₂.nil Forall₂.nil = Forall₂.nil
each_covers (Forall₂.cons w ws) (Forall₂.cons h hs) = Forall₂.cons (covers_agreeing w h) (each_covers ws hs)

covers_woken : {s : List ℕ} → Checked s → {st : List ℕ} → Wakes s st → CoversState (static_starts (nets_of s)) st
unfolding static_starts starts
covers_woken {s} c {st} w =
    record {
      registers = registers_in s st;
      covered = each_covers (registers_related Wakened (λ x. wakened x.b) (nets_of s)) (starts_agree c w);
      state = (woken_state c w).counted;
    }

pub static_wakes : StaticWakes
static_wakes s a a' l =
    let e = same_power_up s a a' l in
    either_way (static_power_up_refusal s a)
    (λ h.
    let p = static_power_up_accepted s a h in
    let q = power_up_accepted s a' (sym e ∙ h) in
    let c = ((power_up_none s a').0 (sym e ∙ h)).0 in
    record { refusal = rw (p, q); state = λ k. rw (p, q) (record { registers = starts (nets_of s); covered = covers_starts s; state = refl }); wakes = λ k st w. rw p (covers_woken c w) })
    (λ r h.
    let p = static_power_up_refused s a r h in
    let q = power_up_refused s a' r (sym e ∙ h) in
    record { refusal = rw (p, q); state = λ k. not_some (rw q at k); wakes = λ k st w. not_some (rw q at k) })

-- LISTS OF RUNS
all_sound : (s : List ℕ) {rs : List RunPair} {st st' : List ℕ} → CoversState st st' → AllCovered rs → SoundRuns s st st' rs
all_sound s p no_more = nil
all_sound s p (one_more {r} q l more) = let h = static_sound s _ _ r.k _ _ r.outputs r.outputs' p q l in cons h (all_sound s h.state more)

pub static_runs : StaticRuns
static_runs s rs all =
    record {
      covered = λ st st' p. all_sound s p all;
      from_power_up_lem = λ a a' l h. all_sound s ((static_wakes s a a' l).state h) all;
      from_wakes = λ a st h w. let p = static_wakes s a (with_count a) (state_length_lem a) in all_sound s (p.wakes (sym p.refusal ∙ h) st w) all;
    }
