-- What the gate rules mean, without the rules: values by arithmetic, marks by what other values of marked pins would change, and the two relations of bytes by
-- values and marks. A byte is value + 2 × mark, so x % 2 is its value and x / 2 its mark.
use Rattle.std.specs.Prelude.{ℕ, ◌+◌, ◌*◌, ◌/◌, ◌%◌, ◌≤◌, ◌↔◌, ◌≡◌}
use Rattle.gates.specs.Rules.{not_byte, and_byte, or_byte, xor_byte, mux_byte, gate_byte}
use Rattle.gates.specs.Relations.{AgreeByte, BelowByte}

-- the value of each gate; a MUX "gives a if c is 0, b if c is 1"; proved as `gate_values`
pub record GateValues : Type 0 where
  pub not : (a : ℕ) → a ≤ 3 → not_byte a % 2 ≡ (1 + a) % 2
  pub and : (a b : ℕ) → a ≤ 3 → b ≤ 3 → and_byte a b % 2 ≡ (a * b) % 2
  pub or : (a b : ℕ) → a ≤ 3 → b ≤ 3 → or_byte a b % 2 ≡ (a + b + a * b) % 2
  pub xor : (a b : ℕ) → a ≤ 3 → b ≤ 3 → xor_byte a b % 2 ≡ (a + b) % 2
  pub mux_a : (a b c : ℕ) → a ≤ 3 → b ≤ 3 → c ≤ 3 → c % 2 ≡ 0 → mux_byte a b c % 2 ≡ a % 2
  pub mux_b : (a b c : ℕ) → a ≤ 3 → b ≤ 3 → c ≤ 3 → c % 2 ≡ 1 → mux_byte a b c % 2 ≡ b % 2

-- other values of its marked pins change the value of a gate f: at bytes that agree with those of its pins it has another value
pub record Changed (f : (a b c : ℕ) → ℕ) (a b c : ℕ) : Type 0 where
  pub other_a : ℕ
  pub other_b : ℕ
  pub other_c : ℕ
  pub agree_a : AgreeByte a other_a
  pub agree_b : AgreeByte b other_b
  pub agree_c : AgreeByte c other_c
  pub changed : f other_a other_b other_c % 2 ≡ f a b c % 2 → ⊥

-- a gate f is marked exactly if they do, which is what the GLIFT paper means by a mark
abbrev pub Exact : ((a b c : ℕ) → ℕ) → Type 0
Exact f = (a b c : ℕ) → a ≤ 3 → b ≤ 3 → c ≤ 3 → (f a b c / 2 ≡ 1) ↔ Changed f a b c

-- every gate is so; proved as `marks_exact`
pub record MarksExact : Type 0 where
  pub not : Exact (λ a b c. not_byte a)
  pub and : Exact (λ a b c. and_byte a b)
  pub or : Exact (λ a b c. or_byte a b)
  pub xor : Exact (λ a b c. xor_byte a b)
  pub mux : Exact mux_byte

-- more marks at the pins of a gate never take its mark away; proved as `gates_monotone`
abbrev pub GatesMonotone : Type 0
GatesMonotone =
    (kind a a' b b' c c' : ℕ) → BelowByte a a' → BelowByte b b' → BelowByte c c'
    → BelowByte (gate_byte kind a b c) (gate_byte kind a' b' c')

-- two bytes from 0 to 3 agree exactly if their marks are equal, and their values too where the mark is 0; the first is below the second exactly if their values are equal, and
-- its mark is 1 only if the second's is. Proved as `relations_mean`
pub record RelationsMean : Type 0 where
  pub agree : (x y : ℕ) → x ≤ 3 → y ≤ 3 → AgreeByte x y ↔ ((x / 2 ≡ y / 2) × (x / 2 ≡ 0 → x % 2 ≡ y % 2))
  pub below : (x y : ℕ) → x ≤ 3 → y ≤ 3 → BelowByte x y ↔ ((x % 2 ≡ y % 2) × (x / 2 ≤ y / 2))
