-- Bytes that are there: those of whole rows, and those of an unfinished one.
use Rattle.std.specs.Prelude.{ℕ, ◌*◌, ◌/◌, List, length, take, drop}

-- of bytes, those of whole rows of i bytes each, and those of an unfinished row behind them
abbrev pub whole_of : (i : ℕ) → List ℕ → List ℕ
whole_of i bytes = take (length bytes / i * i) bytes

abbrev pub rest_of : (i : ℕ) → List ℕ → List ℕ
rest_of i bytes = drop (length bytes / i * i) bytes
