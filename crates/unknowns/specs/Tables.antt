-- Terms of the contracts of the two constant tables of codes: "MUX is read from a table of all 216 code triples, its rule shown over the whole table."
use Rattle.std.specs.Prelude.{ℕ, ◌+◌, ◌*◌, ◌<◌, ◌≡◌, List, true, cond, eqb, get_or}
use Rattle.gates.specs.Kinds.{MUX}
use Rattle.unknowns.specs.Filling.{UNKNOWN_UNTRUSTED, is_code, static_byte}

-- where a code stands among the six, in the order 0 1 2 3 4 6
abbrev pub place : ℕ → ℕ
place x = cond (eqb x UNKNOWN_UNTRUSTED) 5 x

-- a table with the code of a MUX for each triple of codes of its pins
pub record MuxTable (t : List ℕ) : Type 0 where
  pub code :
      (a b c : ℕ) → is_code a ≡ true → is_code b ≡ true → is_code c ≡ true
      → get_or t ((place a * 6 + place b) * 6 + place c) 0 ≡ static_byte MUX a b c

-- the kinds without pin c: a table with a code for each kind, 0 to 8, and each pair of codes of the pins a and b. What stands there for MUX is not looked at
pub record PairTable (t : List ℕ) : Type 0 where
  pub code :
      (kind a b c : ℕ) → kind < 9 → (kind ≡ MUX → ⊥) → is_code a ≡ true → is_code b ≡ true → is_code c ≡ true
      → get_or t ((kind * 6 + place a) * 6 + place b) 0 ≡ static_byte kind a b c
