-- Terms of the contracts of `table` and `gate_byte`: the gate rules as a table, with a code for each kind, 0 to 8, and for each byte of the three pins.
use Rattle.std.specs.Prelude.{ℕ, ◌+◌, ◌*◌, ◌<◌, ◌≡◌, List, length, get_or}
use Rattle.gates.specs.Rules.{gate_byte}

-- where a code stands: by kind, then by the bytes of the pins a, b and c
abbrev pub code_index : (kind a b c : ℕ) → ℕ
code_index kind a b c = ((kind * 4 + a) * 4 + b) * 4 + c

-- a table whose every code is the gate's byte; at kinds 0 to 2, which are no gates, that is the byte of pin a
pub record GateTable (t : List ℕ) : Type 0 where
  pub size : length t ≡ 576
  pub codes : (kind a b c : ℕ) → kind < 9 → a < 4 → b < 4 → c < 4 → get_or t (code_index kind a b c) 0 ≡ gate_byte kind a b c
