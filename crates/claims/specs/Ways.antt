-- The ways that lead from one net to another (document 02, L5): "Every pin of a gate counts as a way, used or not; a register's own pin counts as none, since it acts only at the clock."
use Rattle.std.specs.Prelude.{ℕ, zero, suc, ◌+◌, ◌≤◌, ◌<◌, ◌≡◌, List, [], ◌∷◌, ◌++◌, map, cond, eqb}
use Rattle.std.proofs.Math.Option.{none}
use Rattle.image.specs.declared.image.Net.{Net}
use Rattle.image.specs.Image.{sizes_of}
use Rattle.image.specs.Pins.{pin_net}
use Rattle.net_checking.specs.Operands.{pin_a, pin_b, pin_c}
use Rattle.checking.specs.Check.{check_refusal}
use Rattle.claims.specs.Reading.{net_of}

-- the pins that count as ways to a net: those of a gate or OUT, by its kind alone, two on one net as two; and no others, so that a register's own pin is none of them
unfoldable pub pins_of : Net → List ℕ
pins_of x = cond (pin_a x.kind) (x.a ∷ []) [] ++ cond (pin_b x.kind) (x.b ∷ []) [] ++ cond (pin_c x.kind) (x.c ∷ []) []

abbrev pub sum : List ℕ → ℕ
sum [] = 0
sum (n ∷ ns) = n + sum ns

-- how many ways of fewer than n pins lead from net j to net i: one from j to itself, and to another net, through each of its pins, as many as lead to the net that the pin names
unfoldable pub ways_below : (s : List ℕ) (n j i : ℕ) → ℕ
ways_below s zero j i = 0
ways_below s (suc n) j i = cond (eqb i j) 1 (sum (map (λ p. ways_below s n j (pin_net p)) (pins_of (net_of s i))))

-- how many ways lead from net j to net i. A pin names a lower net than its own, so that no way has N pins
unfoldable pub ways : (s : List ℕ) (j i : ℕ) → ℕ
ways s j i = ways_below s (sizes_of s).nets j i

-- so they are counted on a drawing. The kinds are 0 CONST, 1 INPUT, 2 REG, 3 NOT, 4 AND, 5 OR, 6 XOR, 7 MUX, 8 OUT
pub record WaysCounted (s : List ℕ) (j i : ℕ) (x : Net) : Type 0 where
  pub itself : i ≡ j → ways s j i ≡ 1
  pub no_pin : (i ≡ j → ⊥) → x.kind ≤ 2 → ways s j i ≡ 0
  pub not : (i ≡ j → ⊥) → x.kind ≡ 3 → ways s j i ≡ ways s j (pin_net x.a)
  pub two_pins : (i ≡ j → ⊥) → 4 ≤ x.kind → x.kind ≤ 6 → ways s j i ≡ ways s j (pin_net x.a) + ways s j (pin_net x.b)
  pub mux : (i ≡ j → ⊥) → x.kind ≡ 7 → ways s j i ≡ ways s j (pin_net x.a) + ways s j (pin_net x.b) + ways s j (pin_net x.c)
  pub out : (i ≡ j → ⊥) → x.kind ≡ 8 → ways s j i ≡ ways s j (pin_net x.a)

-- from any net to any net of an accepted image; proved as `ways_counted`
abbrev pub WaysCountedAll : Type 0
WaysCountedAll = (s : List ℕ) → check_refusal s ≡ none → (j i : ℕ) → i < (sizes_of s).nets → WaysCounted s j i (net_of s i)
