-- Terms of the contracts between the functions that read and take rows: what is taken of the bytes that are there after a read.
use Rattle.std.specs.Prelude.{ℕ, ◌<◌, ◌≡◌, List, ◌++◌, cond, eqb, length}
use Rattle.refusals.specs.Refusals.{refusal}
use Rattle.input.specs.Rest.{whole_of, rest_of}
use Rattle.listing_text.specs.Lines.{end_line, refused_line}
use Rattle.listing_rows.specs.Rows.{Listed, rows_of, with_rows, with_end}
use Rattle.listing_rows.specs.Taken.{Held, Holds, Taken}

-- the last line at the end of the input, by the bytes of an unfinished row
unfoldable pub last_line : (have cycles : ℕ) → List ℕ
last_line have cycles = cond (eqb have 0) (end_line cycles) (refused_line (refusal 12 0))

-- the input ended: its rows, and the end, lead every listing that holds what was held before to one that holds what is held after
pub record Ended (s : List ℕ) (i : ℕ) (bytes : List ℕ) (before after : Held) : Type 0 where
  pub leads : (l : Listed) → Holds s before l → Holds s after (with_end (with_rows s i (rows_of i bytes) l))

-- what a read that gave so many bytes leads to: of the bytes that are there the whole rows are taken; or none was read, and the input has ended
pub record Took (s : List ℕ) (i : ℕ) (there : List ℕ) (read : ℕ) (before after : Held) : Type 0 where
  pub rows : 0 < read → Taken s i (rows_of i (whole_of i there)) before after
  pub end : read ≡ 0 → Ended s i there before after

-- one turn: a piece of the input is read behind the bytes of an unfinished row, and taken with them; what is left of both is an unfinished row again
pub record Turned (s : List ℕ) (i : ℕ) (rest left : List ℕ) (before after : Held) : Type 0 where
  pub piece : List ℕ
  pub took : Took s i (rest ++ piece) (length piece) before after
  pub keeps : left ≡ rest_of i (rest ++ piece)

-- all turns: some bytes are the input, and it ended
pub record Lists (s : List ℕ) (i : ℕ) (before after : Held) : Type 0 where
  pub input : List ℕ
  pub ended : Ended s i input before after
