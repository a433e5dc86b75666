-- The code's answer, read as the definitions have it.
use Rattle.std.specs.Prelude.{ℕ, List, Result}
use Rattle.refusals.specs.declared.answer.Refusal.{Refusal}
use Rattle.refusals.specs.Refusals.{refusal_in}
use Rattle.paging.specs.Paging.{Paged}

-- what the call did: its answer, and the lent page buffer afterwards
abbrev pub paged : Result Unit Refusal → (page : List ℕ) → Paged
paged o page = record { refusal = refusal_in o; page = page }
