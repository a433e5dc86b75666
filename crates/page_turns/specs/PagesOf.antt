-- The pages program: what it prints for the rows that it reads.
use Rattle.std.specs.Prelude.{ℕ, ◌/◌, ◌%◌, List, [], ◌++◌, not, eqb, length}
use Rattle.std.proofs.Math.Option.{Option, none, some}
use Rattle.refusals.specs.declared.answer.Refusal.{Refusal}
use Rattle.refusals.specs.Refusals.{refuse, ◌then◌}
use Rattle.cycle.specs.Cycle.{outputs_of}
use Rattle.row_runs.specs.Rows.{row_refusal, good_rows}
use Rattle.row_runs.specs.Taking.{cycles_on}
use Rattle.listing_text.specs.Lines.{refused_line}
use Rattle.page_text.specs.Pages.{outs_of, pages_text, page_count}

-- of some bytes, in rows of i bytes each: how many rows come before the first that is short or has a byte above 3
unfoldable pub rows_taken : (i : ℕ) (bytes : List ℕ) → ℕ
rows_taken i bytes = good_rows i (length bytes / i) bytes

-- and the refusal that the row after them draws: 13 with the place of its first byte above 3, or 12 where it is the last row and short
unfoldable pub rows_refusal : (i : ℕ) (bytes : List ℕ) → Option Refusal
rows_refusal i bytes = row_refusal i (length bytes / i) bytes then refuse (not (eqb (length bytes % i) 0)) 12 0

-- a refusal is the last line
abbrev pub last_line : Option Refusal → List ℕ
last_line none = []
last_line (some r) = refused_line r

-- the pages of k cycles of an image s, the first of which is cycle `first`, from the register bytes rs
unfoldable pub cycle_pages : (s : List ℕ) (i first k : ℕ) (bytes rs : List ℕ) → List ℕ
cycle_pages s i first k bytes rs = pages_text (page_count k) first k (outs_of s) (outputs_of (cycles_on s i k bytes rs))

-- what is printed for some bytes: the pages of the rows that are taken, and a refusal as the last line
unfoldable pub pages_from : (s : List ℕ) (i first : ℕ) (bytes rs : List ℕ) → List ℕ
pages_from s i first bytes rs = cycle_pages s i first (rows_taken i bytes) bytes rs ++ last_line (rows_refusal i bytes)
