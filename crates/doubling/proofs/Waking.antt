-- The doubled netlist at power-up: registers 2j and 2j + 1 have the byte of register j and its mark. Whatever it wakes with that agrees with this has the values and marks of
-- a state of the source that agrees with the source's power-up.
use Prim.Native.Nat.{ℕ, ◌+◌, ◌*◌, ◌/◌, ◌%◌, ◌≤◌}
use native.Mathlib.Omega.{arith}
use mathlib.Core.Path.{◌≡◌, refl}
use mathlib.Core.List.{List, [], ◌∷◌, Forall₂}
use lib.ListN.{length}
use Rattle.gates.specs.Relations.{AgreeByte, same, low_high, high_low, Agree}
use Rattle.gates.proofs.Laws.{SameValue}
use Rattle.image.specs.declared.image.Net.{Net}
use Rattle.refusals.proofs.Refusals.{Codes}
use Rattle.checking.proofs.Checked.{AllPass}
use Rattle.cycle.specs.Cycle.{registers}
use Rattle.cycle.specs.Calls.{start, starts}
use Rattle.groups.specs.Groups.{split}
use Rattle.groups.proofs.Groups.{reg_starts}
use Rattle.doubled.specs.Doubled.{value_pin, mark_pin, doubled_nets}
use Rattle.doubling.proofs.Simulation.{Twice, registers_twice}

-- POWER-UP. Each byte, and its mark behind it; so a value register wakes marked where its source does
pub woken : List ℕ → List ℕ
woken [] = []
woken (x ∷ xs) = x ∷ x / 2 ∷ woken xs

woken_twice : Twice woken
unfolding woken
woken_twice = record { first = λ x. x; second = λ x. x / 2; none = refl; next = λ x xs. refl }

pub starts_woken : {xs : List Net} {n : ℕ} → AllPass n 0 xs → n ≡ length xs → starts (doubled_nets xs) ≡ woken (starts xs)
unfolding starts registers woken
starts_woken {xs} ps e =
    registers_twice (λ x. start x.b) (λ x. start x.b) woken_twice xs
    (λ a b h. reg_starts (value_pin xs a) (mark_pin xs a) b) ps e

-- VALUES of it
plain_value : (x : ℕ) → SameValue (x % 2) x
plain_value x = record { values = omega arith }

pub woken_values : (xs : List ℕ) → Forall₂ SameValue (split xs) (woken xs)
unfolding split woken
woken_values [] = Forall₂.nil
woken_values (x ∷ xs) = Forall₂.cons (plain_value x) (Forall₂.cons (record { values = refl }) (woken_values xs))

-- ANY STATE with which it may wake, as a state of the source
pub joined : List ℕ → List ℕ
joined [] = []
joined (v ∷ []) = []
joined (v ∷ t ∷ u) = (v % 2 + 2 * (t % 2)) ∷ joined u

pub record Joins (xs u : List ℕ) : Type 0 where
  pub agree : Agree xs (joined u)
  pub values : Forall₂ SameValue (split (joined u)) u

joined_byte : {x v m t : ℕ} → x ≤ 3 → m ≡ x / 2 → AgreeByte x v → AgreeByte m t → AgreeByte x (v % 2 + 2 * (t % 2))
joined_byte {x} {m = m} l e same same = let j : x % 2 + 2 * (m % 2) ≡ x = omega arith in rw j same
joined_byte {m = m} l e low_high same = let j : 3 % 2 + 2 * (m % 2) ≡ 3 = omega arith in rw j low_high
joined_byte {m = m} l e high_low same = let j : 2 % 2 + 2 * (m % 2) ≡ 2 = omega arith in rw j high_low
joined_byte l e a low_high = absurd (omega arith)
joined_byte l e a high_low = absurd (omega arith)

joins_two : {x v t : ℕ} {xs u : List ℕ} → x ≤ 3 → AgreeByte x v → AgreeByte (x / 2) t → Joins xs u → Joins (x ∷ xs) (v ∷ t ∷ u)
unfolding joined split
joins_two {v = v} {t} l a b h =
    let rest : (v % 2 + 2 * (t % 2)) % 2 ≡ v % 2 = omega arith in
    let half : (v % 2 + 2 * (t % 2)) / 2 ≡ t % 2 = omega arith in
    let value : SameValue ((v % 2 + 2 * (t % 2)) % 2) v = rw rest (plain_value v) in
    let mark : SameValue ((v % 2 + 2 * (t % 2)) / 2) t = rw half (plain_value t) in
    record {
      agree = Forall₂.cons (joined_byte l refl a b) h.agree;
      values = Forall₂.cons value (Forall₂.cons mark h.values);
    }

pub joins : (xs : List ℕ) {u : List ℕ} → Codes xs → Agree (woken xs) u → Joins xs u
unfolding woken joined split
joins [] c Forall₂.nil = record { agree = Forall₂.nil; values = Forall₂.nil }
joins (x ∷ xs) (Forall₂.cons l c) (Forall₂.cons a (Forall₂.cons b r)) = joins_two l a b (joins xs c r)
