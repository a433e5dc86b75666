-- The rule by filling is exact at a gate: no code that covers the gate's byte for all fillings of its pins says more.
use Rattle.std.specs.Prelude.{ℕ, ◌≡◌, true}
use mathlib.Core.List.{Memᴰ}
use Rattle.gates.specs.Rules.{value, mark, gate_byte}
use Rattle.unknowns.specs.Filling.{is_code, known, fillings, static_byte}
use Rattle.unknowns.specs.Covering.{Covers}

-- what the code x says, y says too: a value that x knows, y knows, and y is marked only if x is
pub record SaysNoMore (x y : ℕ) : Type 0 where
  pub values : known x ≡ true → (known y ≡ true) × (value y ≡ value x)
  pub marks : mark y ≡ true → mark x ≡ true

-- the rule covers the gate's byte for every filling of its pins, and a code that does so says no more
pub record Exact (kind a b c : ℕ) : Type 0 where
  pub covers :
      (p q r : ℕ) → Memᴰ p (fillings a) → Memᴰ q (fillings b) → Memᴰ r (fillings c)
      → Covers (static_byte kind a b c) (gate_byte kind p q r)
  pub least :
      (x : ℕ)
      → ((p q r : ℕ) → Memᴰ p (fillings a) → Memᴰ q (fillings b) → Memᴰ r (fillings c) → Covers x (gate_byte kind p q r))
      → SaysNoMore x (static_byte kind a b c)

-- at every gate and for all codes of its pins; proved as `static_exact`
abbrev pub StaticExact : Type 0
StaticExact = (kind a b c : ℕ) → is_code a ≡ true → is_code b ≡ true → is_code c ≡ true → Exact kind a b c
