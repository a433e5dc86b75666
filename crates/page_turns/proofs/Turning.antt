-- A turn is made on the bytes that were read, as the code has it.
use Prim.Native.Nat.{ℕ, ◌+◌, ◌≤◌}
use mathlib.Core.Bool.{Bool}
use mathlib.Core.List.{List}
use lib.Dec.{eqb}
use lib.ListN.{length, take}
use Rattle.page_turns.specs.declared.putting.Printed.{Printed}
use Rattle.page_turns.specs.declared.turns.Progress.{Progress}
use Rattle.page_turns.specs.Turns.{turn_of, Taken, Turned}

pub turn_made : {s : List ℕ} {i read : ℕ} (rows : List ℕ) {before after text : List ℕ} {failed : Bool} (p : Progress) (r : Printed)
    → Taken s i p.cycles (take read rows) before after text r → read ≤ length rows
    → Turned s i before after rows text p (record { cycles = p.cycles + r.good; read = read; used = r.used; «open» = eqb r.good 64; failed = failed })
unfolding turn_of
turn_made rows p r t few = record { is = rw (t.text, t.registers, t.good); accepts = t.accepts; few = few }
