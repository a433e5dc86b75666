-- The converse of agreement (`gates_agree`), for a gate that is marked exactly where it can be changed: each byte that agrees with its own is its byte for some pins that agree with its pins.
use Prim.Native.Nat.{ℕ, ◌/◌, ◌%◌, ◌≤◌}
use mathlib.Core.Path.{◌≡◌, refl}
use Rattle.gates.specs.Kinds.{NOT, AND, OR, XOR, MUX, OUT}
use Rattle.gates.specs.Rules.{gate_byte}
use Rattle.gates.specs.Relations.{AgreeByte, same, low_high, high_low}
use Rattle.gates.specs.Meaning.{Exact}
use Rattle.gates.proofs.Laws.{gates_agree}
use Rattle.gates.proofs.Meaning.{either, Keeps, marks_exact}

-- of a byte there is one other that agrees with it, and only if it is marked
pub agree_marked : {x y : ℕ} → AgreeByte x y → (x ≡ y → ⊥) → x / 2 ≡ 1
agree_marked same n = absurd (n refl)
agree_marked low_high n = refl
agree_marked high_low n = refl

one_other : {x y z : ℕ} → AgreeByte x y → AgreeByte x z → (x ≡ y → ⊥) → (z % 2 ≡ x % 2 → ⊥) → z ≡ y
one_other same b n c = absurd (n refl)
one_other low_high same n c = absurd (c refl)
one_other low_high low_high n c = refl
one_other high_low same n c = absurd (c refl)
one_other high_low high_low n c = refl

-- pins that agree with a, b and c, and with which the gate f has the byte y
pub record Pins (f : (a b c : ℕ) → ℕ) (a b c y : ℕ) : Type 0 where
  pub pin_a_lem : ℕ
  pub pin_b_lem : ℕ
  pub pin_c_lem : ℕ
  pub agree_a : AgreeByte a pin_a_lem
  pub agree_b : AgreeByte b pin_b_lem
  pub agree_c : AgreeByte c pin_c_lem
  pub gives : f pin_a_lem pin_b_lem pin_c_lem ≡ y

abbrev pub Onto : ((a b c : ℕ) → ℕ) → Type 0
Onto f = (a b c : ℕ) → a ≤ 3 → b ≤ 3 → c ≤ 3 → (y : ℕ) → AgreeByte (f a b c) y → Pins f a b c y

pub onto : {f : (a b c : ℕ) → ℕ} → Keeps f AgreeByte → Exact f → Onto f
onto {f} keeps exact a b c h k l y g =
    either (f a b c) y
    (λ e. record { pin_a_lem = a; pin_b_lem = b; pin_c_lem = c; agree_a = same; agree_b = same; agree_c = same; gives = e })
    (λ n.
    let d = (exact a b c h k l).0 (agree_marked g n) in
    record {
      pin_a_lem = d.other_a;
      pin_b_lem = d.other_b;
      pin_c_lem = d.other_c;
      agree_a = d.agree_a;
      agree_b = d.agree_b;
      agree_c = d.agree_c;
      gives = one_other g (keeps a _ b _ c _ d.agree_a d.agree_b d.agree_c) n d.changed;
    })

-- EVERY GATE, and OUT
pub not_onto : Onto (gate_byte NOT)
unfolding gate_byte
not_onto = onto (gates_agree NOT) marks_exact.not

pub and_onto : Onto (gate_byte AND)
unfolding gate_byte
and_onto = onto (gates_agree AND) marks_exact.and

pub or_onto : Onto (gate_byte OR)
unfolding gate_byte
or_onto = onto (gates_agree OR) marks_exact.or

pub xor_onto : Onto (gate_byte XOR)
unfolding gate_byte
xor_onto = onto (gates_agree XOR) marks_exact.xor

pub mux_onto : Onto (gate_byte MUX)
unfolding gate_byte
mux_onto = onto (gates_agree MUX) marks_exact.mux

pub out_onto : Onto (gate_byte OUT)
unfolding gate_byte
out_onto a b c h k l y g = record { pin_a_lem = y; pin_b_lem = b; pin_c_lem = c; agree_a = g; agree_b = same; agree_c = same; gives = refl }
