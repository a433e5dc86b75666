-- The states with which an array may wake are those that agree with power-up.
use Prim.Native.Nat.{ℕ, zero, suc, ◌/◌, ◌%◌, ◌≤◌, ◌<◌}
use native.Mathlib.Omega.{arith}
use mathlib.Core.Path.{◌≡◌, refl, sym, ap, ◌∙◌}
use mathlib.Core.List.{List}
use mathlib.Core.Option.{none}
use lib.Dec.{lit≤}
use lib.ListN.{length}
use lib.Seq.{length-take-le, get_or-take}
use Rattle.gates.specs.Kinds.{REG}
use Rattle.gates.specs.Relations.{AgreeByte, Agree}
use Rattle.gates.proofs.Meaning.{relations_mean}
use Rattle.image.specs.Image.{sizes_of, net, nets_of, u16}
use Rattle.image.proofs.Nets.{length_nets}
use Rattle.image.proofs.Pairs.{pairs_length, pairs_places}
use Rattle.checking.specs.Check.{check_refusal}
use Rattle.checking.proofs.Checked.{Checked, check_none}
use Rattle.cycle.specs.State.{state_length, registers_in, AgreeStates}
use Rattle.cycle.specs.Calls.{starts, power_up_of}
use Rattle.cycle.proofs.States.{count_agree, IsState, registers_back, counted_state, right_count, counted_is}
use Rattle.cycle.proofs.Calls.{starts_registers, powered_up_lem}
use Rattle.cycle.proofs.Selections.{place_below, place_found}
use Rattle.claims.specs.NetBytes.{place_of}
use Rattle.claims.specs.PowerUp.{WakesWith, unknown_0, unknown_1, Wakes}
use Rattle.claims.specs.InBytes.{SameStates}
use Rattle.claims.proofs.Agreeing.{codes_agree, marks_agree, parts_length}
use Rattle.claims.proofs.Accepted.{when_accepted}
use Rattle.claims.proofs.PowerUp.{power_up_starts}

-- a register's mark goes by its start, and so does its value where it is unmarked
wakes_as : {b x : ℕ} → WakesWith b x → (x ≤ 3) × (x / 2 ≡ b / 2) × (b / 2 ≡ 0 → x % 2 ≡ b)
wakes_as WakesWith.zero = (lit≤ tt, refl, λ h. refl)
wakes_as WakesWith.one = (lit≤ tt, refl, λ h. refl)
wakes_as unknown_0 = (lit≤ tt, refl, λ h. absurd (omega arith))
wakes_as unknown_1 = (lit≤ tt, refl, λ h. absurd (omega arith))

wake_alike : {b x y : ℕ} → WakesWith b x → WakesWith b y → AgreeByte x y
wake_alike {b} {x} {y} v w =
    let p = wakes_as v in
    let q = wakes_as w in
    (relations_mean.agree x y p.0 q.0).1 (p.1 ∙ sym q.1, λ h. let z = sym p.1 ∙ h in p.2 z ∙ sym (q.2 z))

-- two states: their register bytes agree, and so their counts are equal
registers_size : {s st : List ℕ} → Wakes s st → length (registers_in s st) ≡ (sizes_of s).registers
registers_size {st = st} w = length-take-le _ st (omega (arith, w.size))

registers_agree : {s st st' : List ℕ} → Checked s → Wakes s st → Wakes s st' → Agree (registers_in s st) (registers_in s st')
registers_agree {s} {st} {st'} c w w' =
    pairs_places (registers_in s st) (registers_in s st') 0 (registers_size w ∙ sym (registers_size w'))
    (λ p l.
    let r : p < (sizes_of s).registers = omega (arith, registers_size w) in
    let f = place_found REG (nets_of s) (net 0 0 0 0) p (omega (arith, c.registers)) in
    let below : f.net < (sizes_of s).nets = omega (arith, f.below, length_nets s) in
    rw (get_or-take _ st p 0 r, get_or-take _ st' p 0 r)
    (rw f.place at (wake_alike (w.register f.net below f.kind) (w'.register f.net below f.kind))))

pub wakes_agree : {s st st' : List ℕ} → Checked s → Wakes s st → Wakes s st' → AgreeStates s st st'
wakes_agree c w w' = let a = registers_agree c w w' in record { registers = a; counts = w.count ∙ ap u16 (count_agree a) ∙ sym w'.count }

-- POWER-UP x of a register with start b, and a byte z that differs from it at most in the value of a marked one
unknown_with : (z : ℕ) → z / 2 ≡ 1 → WakesWith 2 z
unknown_with zero h = absurd (omega arith)
unknown_with (suc zero) h = absurd (omega arith)
unknown_with (suc (suc zero)) h = unknown_0
unknown_with (suc (suc (suc zero))) h = unknown_1
unknown_with (suc (suc (suc (suc z)))) h = absurd (omega arith)

wakes_with : (b x z : ℕ) → b ≤ 2 → (b ≡ 0 → x ≡ 0) → (b ≡ 1 → x ≡ 1) → (b ≡ 2 → x ≡ 2) → x / 2 ≡ z / 2 → (x / 2 ≡ 0 → x % 2 ≡ z % 2) → WakesWith b z
wakes_with zero x z l p q r m v = let o = p refl in let e : z ≡ 0 = omega (arith, v (omega arith)) in rw e WakesWith.zero
wakes_with (suc zero) x z l p q r m v = let o = q refl in let e : z ≡ 1 = omega (arith, v (omega arith)) in rw e WakesWith.one
wakes_with (suc (suc zero)) x z l p q r m v = let o = r refl in unknown_with z (omega arith)
wakes_with (suc (suc (suc b))) x z l p q r m v = absurd (omega arith)

module _ (s a : List ℕ) (h : check_refusal s ≡ none) (l : length a ≡ state_length (sizes_of s)) where
  up_state : IsState s (power_up_of s a).state
  up_state = let c = (check_none s).0 h in rw (powered_up_lem s a c l) (counted_state (starts_registers c))

  pub marks_wake : (st : List ℕ) → SameStates s (power_up_of s a).state st → Wakes s st
  marks_wake st m =
      let t = power_up_starts s a h l in
      let listed = ((when_accepted.check s).0 h).nets in
      let same = marks_agree (registers_in s st) up_state.registers.codes m.registers in
      record {
        size = sym (parts_length (sizes_of s).registers (power_up_of s a).state st m.registers.size m.counts) ∙ t.size;
        count = sym m.counts ∙ right_count up_state ∙ ap u16 (count_agree same);
        register = λ i n k.
            let p = place_of REG s i in
            let below : p < (sizes_of s).registers = rw ((check_none s).0 h).registers (place_below REG (nets_of s) i _ (omega (arith, length_nets s)) k) in
            let there : p < length (registers_in s (power_up_of s a).state) = omega (arith, up_state.registers.size) in
            let here = get_or-take _ st p 0 below in
            wakes_with _ _ _ ((listed i n).values.start k)
            (λ b. (t.start_0 i n k b).byte)
            (λ b. (t.start_1 i n k b).byte)
            (λ b. (t.none_given i n k b).byte)
            (rw here at (m.registers.marks p there))
            (rw here at (m.registers.values p there));
      }

  powered_wakes : Wakes s (power_up_of s a).state
  powered_wakes = marks_wake _ (record { registers = record { size = refl; marks = λ i m. refl; values = λ i m o. refl }; counts = refl })

  pub wakes_powered : {st : List ℕ} → Wakes s st → AgreeStates s (power_up_of s a).state st
  wakes_powered w = wakes_agree ((check_none s).0 h) powered_wakes w

-- so its register bytes agree with the starts, and it is a state that calls accept
pub starts_agree : {s st : List ℕ} → Checked s → Wakes s st → Agree (starts (nets_of s)) (registers_in s st)
starts_agree {s} {st} c w =
    let up = rw (powered_up_lem s st c w.size) at (wakes_powered s st ((check_none s).1 c) w.size w) in
    rw (registers_back (starts_registers c)) at up.registers

pub woken_state : {s st : List ℕ} → Checked s → Wakes s st → IsState s st
woken_state c w =
    let up = starts_agree c w in
    counted_is (record { size = sym (pairs_length up) ∙ (starts_registers c).size; codes = codes_agree (starts_registers c).codes up }) w.count
