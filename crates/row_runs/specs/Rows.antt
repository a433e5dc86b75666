-- Rows one after another: the first that has a byte above 3, and how many come before it.
use Rattle.std.specs.Prelude.{ℕ, zero, suc, List, take, drop}
use Rattle.std.proofs.Math.Option.{Option, none, some}
use Rattle.refusals.specs.declared.answer.Refusal.{Refusal}
use Rattle.refusals.specs.Refusals.{◌then◌, plain_bytes, bad_byte}

-- the refusal that a row draws for its bytes: 13 at its first byte above 3
abbrev pub bad_in : (row : List ℕ) → Option Refusal
bad_in row = bad_byte plain_bytes.bad 13 0 row

-- of k rows of i bytes each, the refusal that the first bad one draws; its place counts within its row
unfoldable pub row_refusal : (i k : ℕ) (rows : List ℕ) → Option Refusal
row_refusal i zero rows = none
row_refusal i (suc k) rows = bad_in (take i rows) then row_refusal i k (drop i rows)

-- how many of k rows come before the first bad one, or k where none is bad
unfoldable pub good_rows : (i k : ℕ) (rows : List ℕ) → ℕ
good_rows i zero rows = 0
good_rows i (suc k) rows =
    elim (bad_in (take i rows)) [
      | none ↦ suc (good_rows i k (drop i rows))
      | some r ↦ 0
    ]
