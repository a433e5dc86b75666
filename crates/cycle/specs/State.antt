-- The state of a netlist (document 02, L7): a byte for each register, and behind them the number of marked registers, a u16. And when two states agree.
use Rattle.std.specs.Prelude.{ℕ, ◌+◌, ◌/◌, ◌%◌, ◌≡◌, List, [], ◌∷◌, ◌++◌, Bool, ◌||◌, not, eqb, get_or, take, drop}
use Rattle.gates.specs.Rules.{bit, mark}
use Rattle.gates.specs.Relations.{Agree}
use Rattle.image.specs.declared.image.Sizes.{Sizes}
use Rattle.image.specs.Image.{sizes_of, u16}

-- the length of a state: "R + 2 bytes"
abbrev pub state_length : Sizes → ℕ
state_length z = z.registers + 2

-- "the number of marked registers", by their bytes
unfoldable pub marked_count : List ℕ → ℕ
marked_count [] = 0
marked_count (x ∷ xs) = bit (mark x) + marked_count xs

-- the state with these register bytes: "the last two a u16, the number of marked registers"
unfoldable pub with_count : (registers : List ℕ) → List ℕ
with_count rs = rs ++ u16 (marked_count rs)

-- "the first R bytes" of a state of the image s: its register bytes
abbrev pub registers_in : (s st : List ℕ) → List ℕ
registers_in s st = take (sizes_of s).registers st

-- "the stored count is not the number of marked registers": of the two bytes behind r register bytes, one is not that number's
unfoldable pub miscounted : (r : ℕ) (st : List ℕ) → Bool
miscounted r st =
    let n = marked_count (take r st) in
    not (eqb (get_or st r 0) (n % 256)) || not (eqb (get_or st (r + 1) 0) (n / 256))

-- "states that agree have equal counts as well": the register bytes agree, and what stands behind them is equal
pub record AgreeStates (s st st' : List ℕ) : Type 0 where
  pub registers : Agree (registers_in s st) (registers_in s st')
  pub counts : drop (sizes_of s).registers st ≡ drop (sizes_of s).registers st'
