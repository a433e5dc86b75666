-- What a net is that passes: its kind, with the bounds on its operands.
use Prim.Native.Nat.{ℕ, zero, suc, ◌≤◌, ◌<◌}
use mathlib.Core.Path.{◌≡◌, refl}
use mathlib.Core.Option.{none}
use mathlib.Core.Bool.{false, ◌&&◌, not}
use native.Mathlib.Omega.{arith}
use lib.Dec.{eqb, leb, ltb, lit≤}
use borrow.Author.Tests.{ltb-false, leb-false, le-ltb, lt-leb}
use Rattle.gates.specs.Kinds.{CONST, REG, OUT}
use Rattle.image.specs.declared.image.Net.{Net}
use Rattle.image.specs.Image.{net}
use Rattle.image.specs.Pins.{pin_net}
use Rattle.image.specs.Writing.{Fits}
use Rattle.image.proofs.PinNets.{net_most, pin_most}
use Rattle.refusals.proofs.Refusals.{not_other, accepted}
use Rattle.net_checking.specs.Operands.{lists_a, lists_b, lists_c, pin_a, pin_b, pin_c}
use Rattle.net_checking.specs.NetCheck.{net_refusal}

-- net x passes as net i of n
pub data Passes (n i : ℕ) : Net → Type 0 where
  is_const : {a : ℕ} → a ≤ 1 → Passes n i (net 0 a 0 0)
  is_input : Passes n i (net 1 0 0 0)
  is_reg : {a b : ℕ} → pin_net a < n → b ≤ 2 → Passes n i (net 2 a b 0)
  is_not : {a : ℕ} → pin_net a < i → Passes n i (net 3 a 0 0)
  is_and : {a b : ℕ} → pin_net a < i → pin_net b < i → Passes n i (net 4 a b 0)
  is_or : {a b : ℕ} → pin_net a < i → pin_net b < i → Passes n i (net 5 a b 0)
  is_xor : {a b : ℕ} → pin_net a < i → pin_net b < i → Passes n i (net 6 a b 0)
  is_mux : {a b c : ℕ} → pin_net a < i → pin_net b < i → pin_net c < i → Passes n i (net 7 a b c)
  is_out : {a b : ℕ} → pin_net a < i → b ≤ 1 → Passes n i (net 8 a b 0)

pub kind_most : {n i : ℕ} {x : Net} → Passes n i x → x.kind ≤ 8
kind_most (is_const h) = lit≤ tt
kind_most is_input = lit≤ tt
kind_most (is_reg h k) = lit≤ tt
kind_most (is_not h) = lit≤ tt
kind_most (is_and h k) = lit≤ tt
kind_most (is_or h k) = lit≤ tt
kind_most (is_xor h k) = lit≤ tt
kind_most (is_mux h k l) = lit≤ tt
kind_most (is_out h k) = lit≤ tt

-- the operands of a net that passes, as pins, whether they are or not: they name nets below 8,192
pub record Small (x : Net) : Type 0 where
  pub a : pin_net x.a < 8192
  pub b : pin_net x.b < 8192
  pub c : pin_net x.c < 8192

number_small : (a : ℕ) → a < 8192 → pin_net a < 8192
number_small a h = omega (arith, net_most a)

pub operands_small : {n i : ℕ} {x : Net} → n ≤ 8192 → i < 8192 → Passes n i x → Small x
operands_small h l (is_const {a} k) = omega (arith, number_small a (omega arith), number_small 0 (omega arith))
operands_small h l is_input = omega (arith, number_small 0 (omega arith))
operands_small h l (is_reg {b = b} k m) = omega (arith, number_small b (omega arith), number_small 0 (omega arith))
operands_small h l (is_not k) = omega (arith, number_small 0 (omega arith))
operands_small h l (is_and k m) = omega (arith, number_small 0 (omega arith))
operands_small h l (is_or k m) = omega (arith, number_small 0 (omega arith))
operands_small h l (is_xor k m) = omega (arith, number_small 0 (omega arith))
operands_small h l (is_mux k m o) = omega arith
operands_small h l (is_out {b = b} k m) = omega (arith, number_small b (omega arith), number_small 0 (omega arith))

-- and so they fit 16 bits
pub fits_small : {x : Net} → Small x → Fits x
fits_small {x} s = omega (arith, s.a, s.b, s.c, pin_most x.a, pin_most x.b, pin_most x.c)

-- the tests of a net, one by one
record Tests (n i k a b c : ℕ) : Type 0 where
  kind : k ≤ 8
  clock : (eqb k REG && leb n (pin_net a)) ≡ false
  pin_a_lem : (pin_a k && leb i (pin_net a)) ≡ false
  pin_b_lem : (pin_b k && leb i (pin_net b)) ≡ false
  pin_c_lem : (pin_c k && leb i (pin_net c)) ≡ false
  const : (eqb k CONST && ltb 1 a) ≡ false
  start : (eqb k REG && ltb 2 b) ≡ false
  policy : (eqb k OUT && ltb 1 b) ≡ false
  no_a : (not (lists_a k) && not (eqb a 0)) ≡ false
  no_b : (not (lists_b k) && not (eqb b 0)) ≡ false
  no_c : (not (lists_c k) && not (eqb c 0)) ≡ false

zero_is : (a : ℕ) → not (eqb a 0) ≡ false → a ≡ 0
zero_is a = (not_other a 0).0

by_kind : (n i k a b c : ℕ) → Tests n i k a b c → Passes n i (net k a b c)
by_kind n i zero a b c t = rw (zero_is b t.no_b, zero_is c t.no_c) (is_const (ltb-false 1 a t.const))
by_kind n i (suc zero) a b c t = rw (zero_is a t.no_a, zero_is b t.no_b, zero_is c t.no_c) is_input
by_kind n i (suc (suc zero)) a b c t = rw (zero_is c t.no_c) (is_reg (leb-false n (pin_net a) t.clock) (ltb-false 2 b t.start))
by_kind n i (suc (suc (suc zero))) a b c t = rw (zero_is b t.no_b, zero_is c t.no_c) (is_not (leb-false i (pin_net a) t.pin_a_lem))
by_kind n i (suc (suc (suc (suc zero)))) a b c t = rw (zero_is c t.no_c) (is_and (leb-false i (pin_net a) t.pin_a_lem) (leb-false i (pin_net b) t.pin_b_lem))
by_kind n i (suc (suc (suc (suc (suc zero))))) a b c t = rw (zero_is c t.no_c) (is_or (leb-false i (pin_net a) t.pin_a_lem) (leb-false i (pin_net b) t.pin_b_lem))
by_kind n i (suc (suc (suc (suc (suc (suc zero)))))) a b c t = rw (zero_is c t.no_c) (is_xor (leb-false i (pin_net a) t.pin_a_lem) (leb-false i (pin_net b) t.pin_b_lem))
by_kind n i (suc (suc (suc (suc (suc (suc (suc zero))))))) a b c t = is_mux (leb-false i (pin_net a) t.pin_a_lem) (leb-false i (pin_net b) t.pin_b_lem) (leb-false i (pin_net c) t.pin_c_lem)
by_kind n i (suc (suc (suc (suc (suc (suc (suc (suc zero)))))))) a b c t = rw (zero_is c t.no_c) (is_out (leb-false i (pin_net a) t.pin_a_lem) (ltb-false 1 b t.policy))
by_kind n i (suc (suc (suc (suc (suc (suc (suc (suc (suc k))))))))) a b c t = absurd (omega arith)

pub passes : (n i : ℕ) (x : Net) → net_refusal n i x ≡ none → Passes n i x
unfolding net_refusal
passes n i x h =
    let t4 = simp accepted at h in
    let t5 = t4.1.0 in
    let t6 = t4.1.1.0 in
    let t7 = t4.1.1.1 in
    by_kind n i x.kind x.a x.b x.c
    (record {
      kind = t4.0;
      clock = t5.0.0.0;
      pin_a_lem = t5.0.0.1;
      pin_b_lem = t5.0.1;
      pin_c_lem = t5.1;
      const = t6.0.0;
      start = t6.0.1;
      policy = t6.1;
      no_a = t7.0.0;
      no_b = t7.0.1;
      no_c = t7.1;
    })

pub no_refusal : {n i : ℕ} {x : Net} → Passes n i x → net_refusal n i x ≡ none
unfolding net_refusal
no_refusal {n} {i} (is_const {a} h) = rw (le-ltb 1 a h)
no_refusal {n} {i} is_input = refl
no_refusal {n} {i} (is_reg {a} {b} h k) = rw (lt-leb n (pin_net a) h, le-ltb 2 b k)
no_refusal {n} {i} (is_not {a} h) = rw (lt-leb i (pin_net a) h)
no_refusal {n} {i} (is_and {a} {b} h k) = rw (lt-leb i (pin_net a) h, lt-leb i (pin_net b) k)
no_refusal {n} {i} (is_or {a} {b} h k) = rw (lt-leb i (pin_net a) h, lt-leb i (pin_net b) k)
no_refusal {n} {i} (is_xor {a} {b} h k) = rw (lt-leb i (pin_net a) h, lt-leb i (pin_net b) k)
no_refusal {n} {i} (is_mux {a} {b} {c} h k l) = rw (lt-leb i (pin_net a) h, lt-leb i (pin_net b) k, lt-leb i (pin_net c) l)
no_refusal {n} {i} (is_out {a} {b} h k) = rw (lt-leb i (pin_net a) h, le-ltb 1 b k)

-- the pin of a REG names a net below N
pub register_pin : {n i : ℕ} {x : Net} → Passes n i x → x.kind ≡ REG → pin_net x.a < n
register_pin (is_const p) h = absurd (omega arith)
register_pin is_input h = absurd (omega arith)
register_pin (is_reg p q) h = p
register_pin (is_not p) h = absurd (omega arith)
register_pin (is_and p q) h = absurd (omega arith)
register_pin (is_or p q) h = absurd (omega arith)
register_pin (is_xor p q) h = absurd (omega arith)
register_pin (is_mux p q r) h = absurd (omega arith)
register_pin (is_out p q) h = absurd (omega arith)
