-- The answer of the code, read in document 01's terms, and beside it the lent buffer that the call leaves.
use Rattle.std.specs.Prelude.{ℕ, List, Result}
use Rattle.refusals.specs.declared.answer.Refusal.{Refusal}
use Rattle.refusals.specs.Refusals.{refusal_in}
use Rattle.doubling.specs.Doubling.{Doubling}

abbrev pub doubled : Result Unit Refusal → (buffer : List ℕ) → Doubling
doubled o buffer = record { refusal = refusal_in o; buffer = buffer }
