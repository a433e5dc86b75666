-- What a pin reads, and the byte of a gate from the list of what its pins read, are onto: each byte that agrees with theirs is theirs, for some bytes that agree with those given.
use Prim.Native.Nat.{ℕ, ◌≤◌}
use native.Mathlib.Omega.{arith}
use mathlib.Core.Path.{◌≡◌, refl}
use mathlib.Core.List.{List, [], ◌∷◌, Forall₂}
use mathlib.Core.Bool.{Bool, true, false, cond}
use lib.Dec.{lit≤}
use lib.ListN.{length, get_or}
use Rattle.gates.specs.Kinds.{NOT}
use Rattle.gates.specs.Rules.{gate_byte}
use Rattle.gates.specs.Relations.{AgreeByte, same, Agree}
use Rattle.gates.proofs.Laws.{Code, gates_code}
use Rattle.gates.proofs.Onto.{Onto, not_onto}
use Rattle.image.specs.Pins.{inverted}

pub by_test : {A : Type 0} (b : Bool) → (b ≡ true → A) → (b ≡ false → A) → A
by_test true f g = f refl
by_test false f g = g refl

pub cond_keeps : (P : ℕ → Type 0) (b : Bool) {x y : ℕ} → P x → P y → P (cond b x y)
cond_keeps P true h k = h
cond_keeps P false h k = k

-- a 0 that is no pin stays
no_pin : (f : ℕ → ℕ) {c y : ℕ} → AgreeByte 0 c → f c ≡ y → f 0 ≡ y
no_pin f same e = e

no_pins : (f : ℕ → ℕ → ℕ) {b c y : ℕ} → AgreeByte 0 b → AgreeByte 0 c → f b c ≡ y → f 0 0 ≡ y
no_pins f same same e = e

-- A PIN. What it reads of the byte x of its net, that this is a code if x is, and that it is every byte that agrees with it for some byte that agrees with x
abbrev pub pin_reads : (p x : ℕ) → ℕ
pin_reads p x = cond (inverted p) (gate_byte NOT x 0 0) x

pub pin_code : (p x : ℕ) → x ≤ 3 → pin_reads p x ≤ 3
pin_code p x h = cond_keeps (λ y. y ≤ 3) (inverted p) (gates_code NOT x x 0 0 0 0 h (lit≤ tt) (lit≤ tt)) h

pub record Read (p x y : ℕ) : Type 0 where
  pub byte : ℕ
  pub agrees : AgreeByte x byte
  pub reads : pin_reads p byte ≡ y

pub pin_onto : (p x y : ℕ) → x ≤ 3 → AgreeByte (pin_reads p x) y → Read p x y
pin_onto p x y h g = by_test (inverted p) top plain
  where
    top : inverted p ≡ true → Read p x y
    top e =
        let o = not_onto x 0 0 h (lit≤ tt) (lit≤ tt) y (rw e at g) in
        record { byte = o.pin_a_lem; agrees = o.agree_a; reads = rw e (no_pins (gate_byte NOT o.pin_a_lem) o.agree_b o.agree_c o.gives) }

    plain : inverted p ≡ false → Read p x y
    plain e = record { byte = y; agrees = rw e at g; reads = rw e }

-- A GATE. The byte of a gate or OUT from the list of what its pins read
abbrev pub of_pins : (kind : ℕ) → List ℕ → ℕ
of_pins kind xs = gate_byte kind (get_or xs 0 0) (get_or xs 1 0) (get_or xs 2 0)

pub record Hit (kind : ℕ) (xs : List ℕ) (y : ℕ) : Type 0 where
  pub bytes : List ℕ
  pub agrees : Agree xs bytes
  pub gives : of_pins kind bytes ≡ y

pub listed : {kind : ℕ} → Onto (gate_byte kind) → {xs : List ℕ} → Forall₂ Code xs xs → 1 ≤ length xs → length xs ≤ 3 → (y : ℕ) → AgreeByte (of_pins kind xs) y → Hit kind xs y
listed o Forall₂.nil m l y g = absurd (omega arith)
listed {kind} o (Forall₂.cons a Forall₂.nil) m l y g =
    let p = o _ 0 0 a (lit≤ tt) (lit≤ tt) y g in
    record { bytes = p.pin_a_lem ∷ []; agrees = Forall₂.cons p.agree_a Forall₂.nil; gives = no_pins (gate_byte kind p.pin_a_lem) p.agree_b p.agree_c p.gives }
listed {kind} o (Forall₂.cons a (Forall₂.cons b Forall₂.nil)) m l y g =
    let p = o _ _ 0 a b (lit≤ tt) y g in
    record {
      bytes = p.pin_a_lem ∷ p.pin_b_lem ∷ [];
      agrees = Forall₂.cons p.agree_a (Forall₂.cons p.agree_b Forall₂.nil);
      gives = no_pin (gate_byte kind p.pin_a_lem p.pin_b_lem) p.agree_c p.gives;
    }
listed o (Forall₂.cons a (Forall₂.cons b (Forall₂.cons c Forall₂.nil))) m l y g =
    let p = o _ _ _ a b c y g in
    record {
      bytes = p.pin_a_lem ∷ p.pin_b_lem ∷ p.pin_c_lem ∷ [];
      agrees = Forall₂.cons p.agree_a (Forall₂.cons p.agree_b (Forall₂.cons p.agree_c Forall₂.nil));
      gives = p.gives;
    }
listed o (Forall₂.cons a (Forall₂.cons b (Forall₂.cons c (Forall₂.cons d t)))) m l y g = absurd (omega arith)
