-- Terms of the contracts of the parts of a run's cycle. The codes of the nets stand from place 0 on, and 32,768 places behind each stands what a NOT of that net gives, by the
-- rule of the table that the run works by: so a pin, with its top bit or without, is the place of what it reads. No public call's contract uses them.
use Rattle.std.specs.Prelude.{ℕ, ◌+◌, ◌<◌, ◌≡◌, List, true, get_or, set}
use Rattle.gates.specs.Kinds.{NOT}
use Rattle.unknowns.specs.Widths.{rule_by, code_by}

-- net i takes the code x, with y as its inverse
unfoldable pub put_pair : (bs : List ℕ) (i x y : ℕ) → List ℕ
put_pair bs i x y = set (set bs i x) (32768 + i) y

-- net i takes the code x
abbrev pub put_both : (width : ℕ) (bs : List ℕ) (i x : ℕ) → List ℕ
put_both width bs i x = put_pair bs i x (rule_by width NOT x 0 0)

-- the first n nets have codes, and stand with their inverses
pub record Both (width : ℕ) (bs : List ℕ) (n : ℕ) : Type 0 where
  pub codes : (i : ℕ) → i < n → code_by width (get_or bs i 0) ≡ true
  pub inverses : (i : ℕ) → i < n → get_or bs (32768 + i) 0 ≡ rule_by width NOT (get_or bs i 0) 0 0
