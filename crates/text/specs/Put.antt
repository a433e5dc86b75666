-- How a text is put into a lent buffer.
use Rattle.std.specs.Prelude.{ℕ, ◌+◌, List, cond, leb, length}
use Rattle.std.proofs.lemmas.List.Edits.{sets}

-- a lent buffer, and the place where the next text goes
pub record Put : Type 0 where
  pub buffer : List ℕ
  pub place : ℕ

-- a text is put at a place, over what stood there; where it does not fit, the buffer and the place stay. `sets d p ys` is d with the bytes ys from place p on
unfoldable pub put : (buffer : List ℕ) (place : ℕ) (text : List ℕ) → Put
put buffer place text =
    cond (leb (place + length text) (length buffer))
    (record { buffer = sets buffer place text; place = place + length text })
    (record { buffer = buffer; place = place })

-- what a call did
abbrev pub did : (buffer : List ℕ) (place : ℕ) → Put
did buffer place = record { buffer = buffer; place = place }
