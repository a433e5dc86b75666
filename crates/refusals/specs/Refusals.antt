-- What a refusal is, how conditions are tried in their order, and the tests of a lent slice, of which calls make 10 to 14 and 16. `Refusal` and `Condition`
-- are the struct and the enum of src/answer.rt.
use Rattle.std.specs.Prelude.{Result, Ok, Err, ℕ, suc, List, [], ◌∷◌, Bool, ◌||◌, not, cond, eqb, ltb, length}
use Rattle.std.proofs.Math.Option.{Option, none, some}
use Rattle.refusals.specs.declared.answer.Condition.{Condition}
use Rattle.refusals.specs.declared.answer.Condition.TheVariants as conditions
use Rattle.refusals.specs.declared.answer.Refusal.{Refusal}
use Rattle.refusals.specs.declared.lent.Bytes.{Bytes}

-- a refusal's number in the table, and its place
abbrev pub refusal : (number place : ℕ) → Refusal
refusal number place = record { number = number; place = place }

-- the refusal that an answer gives, or none where the call is done
abbrev pub refusal_in : Result Unit Refusal → Option Refusal
refusal_in (Ok done) = none
refusal_in (Err r) = some r

-- the number of a condition in the table
abbrev pub number_of : Condition → ℕ
number_of conditions.ShortImage = 1
number_of conditions.NetCount = 2
number_of conditions.ImageLength = 3
number_of conditions.Kind = 4
number_of conditions.Pin = 5
number_of conditions.Value = 6
number_of conditions.Unlisted = 7
number_of conditions.Counts = 8
number_of conditions.Cycles = 9
number_of conditions.StateLength = 10
number_of conditions.StateByte = 11
number_of conditions.RowsLength = 12
number_of conditions.RowByte = 13
number_of conditions.BufferLength = 14
number_of conditions.DoubledNets = 15
number_of conditions.DoubledLength = 16
number_of conditions.DoubledImage = 17
number_of conditions.Code = 18
number_of conditions.PageLength = 19
number_of conditions.MarkedCount = 20

-- the refusal, where its condition holds
abbrev pub refuse : Bool → (number place : ℕ) → Option Refusal
refuse c number place = cond c (some (refusal number place)) none

-- the first, or else the second
infixr 40 ◌then◌
abbrev pub ◌then◌ : Option Refusal → Option Refusal → Option Refusal
some r then q = some r
none then q = q

-- The bytes that a call takes: which are bad, and the number that a bad byte draws in the rows
pub record Alphabet : Type 0 where
  pub bad : ℕ → Bool
  pub in_rows : ℕ

-- 13 for a row byte above 3
abbrev pub plain_bytes : Alphabet
plain_bytes = record { bad = ltb 3; in_rows = 13 }

-- A term of the contracts of the tests of a lent slice: where `top` is the highest code, 5, which is no code, and every byte above top are bad
abbrev pub bad_above : (top x : ℕ) → Bool
bad_above top x = eqb x 5 || ltb top x

-- the bytes that a call takes, as the code has them (`Bytes` is the struct of src/lent.rt)
abbrev pub alphabet_of : Bytes → Alphabet
alphabet_of b = record { bad = bad_above b.top; in_rows = b.in_rows }

-- the refusal at the index of the first bad byte of a list, the first of which has index i
unfoldable pub bad_byte : (bad : ℕ → Bool) (number i : ℕ) → List ℕ → Option Refusal
bad_byte bad number i [] = none
bad_byte bad number i (x ∷ xs) = refuse (bad x) number i then bad_byte bad number (suc i) xs

-- the refusal, at place 0, where a list is not n long
unfoldable pub bad_length : (number n : ℕ) → List ℕ → Option Refusal
bad_length number n xs = refuse (not (eqb (length xs) n)) number 0
