-- Terms of the contracts of a run's parts, which work by a table with `width` places for the code of each pin: with 4 it is the table of plain bytes, with 8 that of codes with
-- unknowns, in which the places of 5 and 7 are not looked at. No public call's contract uses them.
use Rattle.std.specs.Prelude.{ℕ, ◌+◌, ◌*◌, ◌<◌, ◌⊎◌, ◌≡◌, List, Bool, true, cond, eqb, ltb, length, get_or}
use Rattle.gates.specs.Rules.{gate_byte}
use Rattle.unknowns.specs.Filling.{is_code, static_byte}

-- the rule of the table's gates
unfoldable pub rule_by : (width kind a b c : ℕ) → ℕ
rule_by width kind a b c = cond (eqb width 4) (gate_byte kind a b c) (static_byte kind a b c)

-- the codes that it takes
unfoldable pub code_by : (width x : ℕ) → Bool
code_by width x = cond (eqb width 4) (ltb x 4) (is_code x)

-- every byte of a list is one
pub record Coded (width : ℕ) (bs : List ℕ) : Type 0 where
  pub codes : (i : ℕ) → code_by width (get_or bs i 0) ≡ true

-- where a code stands: by kind, then by the codes of the pins a, b and c
abbrev pub width_index : (width kind a b c : ℕ) → ℕ
width_index width kind a b c = ((kind * width + a) * width + b) * width + c

-- a table of that width
pub record Tabled (width : ℕ) (t : List ℕ) : Type 0 where
  pub width_is : (width ≡ 4) ⊎ (width ≡ 8)
  pub size : length t ≡ 9 * width * width * width
  pub codes :
      (kind a b c : ℕ) → kind < 9 → code_by width a ≡ true → code_by width b ≡ true → code_by width c ≡ true
      → get_or t (width_index width kind a b c) 0 ≡ rule_by width kind a b c

-- the tables of a run of that width: of plain bytes always, and of codes with unknowns where it is 8
pub record Tables (width : ℕ) (plain wide : List ℕ) : Type 0 where
  pub width_is : (width ≡ 4) ⊎ (width ≡ 8)
  pub plain_table : Tabled 4 plain
  pub wide_table : width ≡ 8 → Tabled 8 wide

-- the table of codes with unknowns, of which the first n places are written
pub record Wide (n : ℕ) (t : List ℕ) : Type 0 where
  pub size : length t ≡ 4608
  pub codes :
      (kind a b c : ℕ) → kind < 9 → is_code a ≡ true → is_code b ≡ true → is_code c ≡ true → width_index 8 kind a b c < n
      → get_or t (width_index 8 kind a b c) 0 ≡ static_byte kind a b c
