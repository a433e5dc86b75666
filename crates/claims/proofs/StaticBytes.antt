-- One static run in bytes alone, from what it covers; and static power-up, register by register.
use Prim.Native.Nat.{ℕ, ◌/◌, ◌%◌, ◌≤◌, ◌<◌}
use native.Mathlib.Omega.{arith}
use mathlib.Core.Path.{◌≡◌, refl, sym, ◌∙◌}
use mathlib.Core.List.{List}
use mathlib.Core.Bool.{Bool, true, false}
use lib.Dec.{eqb, lit≤}
use lib.ListN.{length, get_or}
use borrow.Author.Tests.{not-true, eqb-true, eqb-false, lt-ltb, ltb-true}
use Rattle.gates.specs.Kinds.{REG}
use Rattle.gates.specs.Rules.{value, mark, byte}
use Rattle.unknowns.specs.Covering.{Covers, CoversAll}
use Rattle.unknowns.proofs.SixCodes.{IsCode, a_byte, unknown, untrusted, by_number}
use Rattle.unknowns.proofs.Covered.{covers_itself, covers_every, covers_trusted}
use Rattle.image.specs.Image.{sizes_of, nets_of}
use Rattle.image.proofs.Pairs.{pairs_places, pairs_get_or, pairs_length}
use Rattle.checking.proofs.Checked.{Checked, check_none}
use Rattle.cycle.specs.State.{with_count}
use Rattle.cycle.specs.Calls.{start}
use Rattle.cycle.proofs.States.{state_length_lem}
use Rattle.cycle.proofs.Cycles.{registers_length}
use Rattle.cycle.proofs.Selections.{registers_selected}
use Rattle.static_run.specs.StaticCalls.{static_start, static_starts, static_power_up_of}
use Rattle.static_run.proofs.StaticRefused.{static_power_up_none, static_power_up_accepted}
use Rattle.claims.specs.NetBytes.{net_of, Counted}
use Rattle.claims.specs.StaticBytes.{FilledBy, ToldBy, ToldState, StaticClear, StaticPowerUpAll}
use Rattle.claims.specs.StaticRuns.{CoversState}
use Rattle.claims.proofs.NetBytes.{selected}
use Rattle.claims.proofs.Accepted.{code}
use Rattle.claims.proofs.StaticRuns.{static_sound, static_wakes}
use Rattle.claims.proofs.Taken.{static_run_taken}

-- FROM FILLING TO COVERING
filled_covered : {x y : ℕ} → IsCode x → (x ≤ 3 → y ≡ x) → (x ≡ 4 → y ≤ 1) → (x ≡ 6 → (2 ≤ y) × (y ≤ 3)) → Covers x y
filled_covered (a_byte h) f g k = rw (f h) (covers_itself h)
filled_covered unknown f g k = covers_trusted (g refl)
filled_covered untrusted f g k = covers_every (k refl).1

covered : {codes bytes : List ℕ} → FilledBy codes bytes → CoversAll codes bytes
covered {codes} {bytes} f =
    pairs_places codes bytes 0 f.size
    (λ i l. let c = f.codes_are i l in filled_covered (by_number (get_or codes i 0) c.0 c.1) (f.known i l) (f.unknown_trusted i l) (f.unknown_untrusted i l))

-- AND FROM COVERING TO WHAT IS TOLD
same_bit : (x y : ℕ) → x < 2 → y < 2 → eqb x 1 ≡ eqb y 1 → x ≡ y
same_bit x y h k e = by (eqb y 1) refl
  where
    by : (b : Bool) → eqb y 1 ≡ b → x ≡ y
    by true t = eqb-true x 1 (e ∙ t) ∙ sym (eqb-true y 1 t)
    by false t = let p = eqb-false x 1 (e ∙ t) in let q = eqb-false y 1 t in omega (arith, p, q)

value_told : {x y : ℕ} → Covers x y → x ≤ 3 → y % 2 ≡ x % 2
unfolding value
value_told {x} {y} c h = same_bit (y % 2) (x % 2) (omega arith) (omega arith) (c.values (lt-ltb x 4 (omega arith)))

mark_told : {x y : ℕ} → Covers x y → x / 2 % 2 ≡ 0 → y / 2 ≡ 0
unfolding mark
mark_told {x} {y} c h = by (eqb (y / 2 % 2) 1) refl
  where
    by : (b : Bool) → eqb (y / 2 % 2) 1 ≡ b → y / 2 ≡ 0
    by true t = let z = eqb-true (x / 2 % 2) 1 (c.marks t) in absurd (omega arith)
    by false t = let z = eqb-false (y / 2 % 2) 1 t in omega (arith, z, c.small)

told : {codes bytes : List ℕ} → CoversAll codes bytes → ToldBy codes bytes
told {codes} {bytes} h =
    record {
      size = pairs_length h;
      codes_are = λ i l. (code (get_or codes i 0)).0 (not-true _ (at i).exists);
      bytes_are = λ i l. (at i).small;
      values = λ i l. value_told (at i);
      marks = λ i l. mark_told (at i);
    }
  where
    at : (i : ℕ) → Covers (get_or codes i 0) (get_or bytes i 0)
    at i = pairs_get_or i 0 (covers_itself (lit≤ tt)) h

-- AND BACK
told_covers : {x y : ℕ} → (x ≡ 5 → ⊥) × (x ≤ 6) → y ≤ 3 → (x ≤ 3 → y % 2 ≡ x % 2) → (x / 2 % 2 ≡ 0 → y / 2 ≡ 0) → Covers x y
unfolding value mark
told_covers {x} {y} c s v m =
    record {
      exists = rw ((code x).1 c);
      values = λ k. let e = v (omega (arith, ltb-true x 4 k)) in rw e;
      marks = by (eqb (x / 2 % 2) 1) refl;
      small = s;
    }
  where
    by : (b : Bool) → eqb (x / 2 % 2) 1 ≡ b → eqb (y / 2 % 2) 1 ≡ true → eqb (x / 2 % 2) 1 ≡ true
    by true e t = e
    by false e t =
        let z = eqb-false (x / 2 % 2) 1 e in
        let u = eqb-true (y / 2 % 2) 1 t in
        let o = m (omega (arith, z)) in
        absurd (omega (arith, u, o))

all_covered : {codes bytes : List ℕ} → ToldBy codes bytes → CoversAll codes bytes
all_covered {codes} {bytes} t =
    pairs_places codes bytes 0 t.size (λ i l. told_covers (t.codes_are i l) (t.bytes_are i l) (t.values i l) (t.marks i l))

told_state : {codes st : List ℕ} → CoversState codes st → ToldState codes st
told_state h = record { registers = h.registers; told = told h.covered; state = h.state }

pub static_clear : StaticClear
static_clear =
    record {
      run = λ s st st' k codes rows b b' p q l h.
          let sound = static_sound s st st' k codes rows b b' (record { registers = p.registers; covered = all_covered p.told; state = p.state }) (covered q) l in
          let cycles = sound.accepted (static_run_taken s st k codes b h) in
          record { answer = cycles.clears h; outputs = told cycles.outputs; state = told_state sound.state };
      fills = λ codes bytes f. told (covered f);
      wakes = λ s a st h w. let p = static_wakes s a (with_count a) (state_length_lem a) in told_state (p.wakes (sym p.refusal ∙ h) st w);
    }

-- POWER-UP
register : {s : List ℕ} (st : List ℕ) → Checked s → length st ≡ (sizes_of s).registers
    → (i : ℕ) → i < (sizes_of s).nets → (net_of s i).kind ≡ REG → Counted REG s i (static_power_up_of s st).state (static_start (net_of s i).b)
unfolding static_starts
register {s} st c l i h e =
    rw (static_power_up_accepted s st ((static_power_up_none s st).1 (c, l))) (selected i h (registers_selected (λ x. static_start x.b)) e)

-- the code of each start
start_codes : (static_start 0 ≡ 0) × (static_start 1 ≡ 1) × (static_start 2 ≡ 6)
unfolding static_start start byte
start_codes = (refl, refl, refl)

pub static_starts_lem : StaticPowerUpAll
unfolding static_starts
static_starts_lem s st h l =
    let c = (check_none s).0 h in
    let e = static_power_up_accepted s st ((static_power_up_none s st).1 (c, l)) in
    record {
      done = rw e;
      size = rw e (registers_length _ (nets_of s) ∙ sym c.registers);
      start_0 = λ i m k b. rw (b, start_codes.0) at (register st c l i m k);
      start_1 = λ i m k b. rw (b, start_codes.1) at (register st c l i m k);
      none_given = λ i m k b. rw (b, start_codes.2) at (register st c l i m k);
    }
