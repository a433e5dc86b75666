-- The small terms by which the other statements are made, each by what it gives and not by its definition.
use Rattle.std.specs.Prelude.{ℕ, ◌+◌, ◌/◌, ◌%◌, ◌≤◌, ◌↔◌, ◌≡◌, List, [], ◌∷◌, ◌++◌, true}
use Rattle.gates.specs.Kinds.{CONST, INPUT, REG, NOT, AND, OR, XOR, MUX, OUT}
use Rattle.gates.specs.Rules.{mark}
use Rattle.gates.specs.Relations.{AgreeByte}
use Rattle.image.specs.declared.image.Net.{Net}
use Rattle.image.specs.Image.{sizes_of, nets_of, count, u16}
use Rattle.cycle.specs.State.{state_length, marked_count, with_count}
use Rattle.cycle.specs.Cycle.{plain, cycle_of, outputs_from}
use Rattle.doubled.specs.Doubled.{doubled_size, value_net}

-- proved as `terms`
pub record Terms : Type 0 where
  -- the kinds have the numbers of document 01's table
  pub kinds : (CONST ≡ 0) × (INPUT ≡ 1) × (REG ≡ 2) × (NOT ≡ 3) × (AND ≡ 4) × (OR ≡ 5) × (XOR ≡ 6) × (MUX ≡ 7) × (OUT ≡ 8)
  -- `count k` counts the nets of kind k, and no others
  pub count_none : (k : ℕ) → count k [] ≡ 0
  pub count_one : (x : Net) (xs : List Net) → count x.kind (x ∷ xs) ≡ 1 + count x.kind xs
  pub count_other : (k : ℕ) (x : Net) (xs : List Net) → (x.kind ≡ k → ⊥) → count k (x ∷ xs) ≡ count k xs
  -- a byte has mark 1 exactly if it is 2 or 3
  pub marked : (x : ℕ) → x ≤ 3 → (mark x ≡ true) ↔ (x / 2 ≡ 1)
  -- `marked_count` counts the bytes with mark 1, and no others
  pub marked_none : marked_count [] ≡ 0
  pub marked_one : (x : ℕ) (xs : List ℕ) → x / 2 % 2 ≡ 1 → marked_count (x ∷ xs) ≡ 1 + marked_count xs
  pub marked_other : (x : ℕ) (xs : List ℕ) → x / 2 % 2 ≡ 0 → marked_count (x ∷ xs) ≡ marked_count xs
  -- a state is two bytes longer than its registers: these, and behind them their count, low byte first
  pub state_length_lem : (s : List ℕ) → state_length (sizes_of s) ≡ (sizes_of s).registers + 2
  pub two_bytes : (n : ℕ) → u16 n ≡ n % 256 ∷ n / 256 ∷ []
  pub state : (rs : List ℕ) → with_count rs ≡ rs ++ u16 (marked_count rs)
  -- every byte agrees with itself, also one above 3
  pub same : (x : ℕ) → AgreeByte x x
  -- the outputs that are taken from the net bytes of a cycle are its outputs
  pub outputs : (xs : List Net) (row st : List ℕ) → outputs_from 0 xs (cycle_of plain xs row st).bytes ≡ (cycle_of plain xs row st).outputs
  -- the doubled size is where the groups end
  pub size : (s : List ℕ) → doubled_size (nets_of s) ≡ value_net (nets_of s) (sizes_of s).nets
