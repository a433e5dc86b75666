-- What a code says of a concrete byte.
use Rattle.std.specs.Prelude.{ℕ, ◌≤◌, ◌≡◌, true}
use mathlib.Core.List.{List, Forall₂}
use Rattle.gates.specs.Rules.{value, mark}
use Rattle.unknowns.specs.Filling.{is_code, known}

-- there is such a code; where its value is known, the byte has that value; the byte is marked only if the code is; and it is a byte, 0 to 3
pub record Covers (code byte : ℕ) : Type 0 where
  pub exists : is_code code ≡ true
  pub values : known code ≡ true → value byte ≡ value code
  pub marks : mark byte ≡ true → mark code ≡ true
  pub small : byte ≤ 3

-- place by place, of two lists equally long
abbrev pub CoversAll : (cs bs : List ℕ) → Type 0
CoversAll = Forall₂ Covers
