-- What a pin names and reads, and what it becomes in the doubled netlist, in numbers (document 02, L3): "A pin of kinds 2 to 8 with its top bit set (32,768) names the net in the
-- other bits and reads its value inverted, its mark unchanged." A byte is value + 2 × mark, so x % 2 is its value and x / 2 its mark.
use Rattle.std.specs.Prelude.{ℕ, ◌+◌, ◌/◌, ◌%◌, ◌≤◌, ◌<◌, ◌≡◌, List, get_or}
use Rattle.gates.specs.Rules.{not_byte, gate_byte}
use Rattle.image.specs.declared.image.Net.{Net}
use Rattle.image.specs.Pins.{pin_net}
use Rattle.cycle.specs.Cycle.{pin_byte}
use Rattle.doubled.specs.Doubled.{value_net, mark_net, value_pin, mark_pin}

-- proved as `pins_mean`
pub record PinsMean : Type 0 where
  -- a pin without the bit names the net of its number, and reads its byte
  pub names : (j : ℕ) → j < 32768 → pin_net j ≡ j
  pub reads : (bs : List ℕ) (j : ℕ) → j < 32768 → pin_byte gate_byte bs j ≡ get_or bs j 0
  -- with the bit it names the same net, reads its value inverted, and its mark
  pub names_inverted : (j : ℕ) → j < 32768 → pin_net (32768 + j) ≡ j
  pub reads_value : (bs : List ℕ) (j : ℕ) → j < 32768 → get_or bs j 0 ≤ 3 → pin_byte gate_byte bs (32768 + j) % 2 ≡ (1 + get_or bs j 0) % 2
  pub reads_mark : (bs : List ℕ) (j : ℕ) → j < 32768 → get_or bs j 0 ≤ 3 → pin_byte gate_byte bs (32768 + j) / 2 ≡ get_or bs j 0 / 2
  -- which is what a NOT of that net gives
  pub as_not : (bs : List ℕ) (j : ℕ) → j < 32768 → pin_byte gate_byte bs (32768 + j) ≡ not_byte (get_or bs j 0)
  -- in the doubled netlist of the nets xs, a value pin names the value net, and keeps the bit
  pub value_pin_lem : (xs : List Net) (j : ℕ) → j < 32768 → value_pin xs j ≡ value_net xs j
  pub value_inverted : (xs : List Net) (j : ℕ) → j < 32768 → value_pin xs (32768 + j) ≡ 32768 + value_net xs j
  -- a mark pin names the mark net, and drops it
  pub mark_pin_lem : (xs : List Net) (j : ℕ) → j < 32768 → mark_pin xs j ≡ mark_net xs j
  pub mark_inverted : (xs : List Net) (j : ℕ) → j < 32768 → mark_pin xs (32768 + j) ≡ mark_net xs j
