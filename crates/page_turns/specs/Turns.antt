-- One turn of the pages program, on the bytes that it read.
use Rattle.std.specs.Prelude.{ℕ, ◌+◌, ◌*◌, ◌≤◌, ◌<◌, ◌≡◌, List, Bool, eqb, length, take}
use Rattle.std.proofs.Math.Option.{none}
use Rattle.image.specs.Image.{sizes_of}
use Rattle.checking.specs.Check.{check_refusal}
use Rattle.cycle.specs.Cycle.{state_after}
use Rattle.cycle.specs.State.{registers_in}
use Rattle.row_runs.specs.Taking.{AcceptedState, cycles_on}
use Rattle.page_turns.specs.declared.putting.Printed.{Printed}
use Rattle.page_turns.specs.declared.turns.Progress.{Progress}
use Rattle.page_text.specs.Pages.{outs_of}
use Rattle.page_turns.specs.PagesOf.{rows_taken, pages_from}

-- what a turn leaves: the text that it prints, the register bytes, the number of cycles, and whether another turn follows
pub record Turn : Type 0 where
  pub text : List ℕ
  pub registers : List ℕ
  pub cycles : ℕ
  pub goes_on : Bool

-- a turn on at most 64 rows of i bytes each, from the register bytes rs; another follows where 64 were taken
unfoldable pub turn_of : (s : List ℕ) (i cycles : ℕ) (bytes rs : List ℕ) → Turn
turn_of s i cycles bytes rs =
    record {
      text = pages_from s i cycles bytes rs;
      registers = state_after rs (cycles_on s i (rows_taken i bytes) bytes rs);
      cycles = cycles + rows_taken i bytes;
      goes_on = eqb (rows_taken i bytes) 64;
    }

-- what the code holds of it
abbrev pub left : (s text st : List ℕ) → Progress → Turn
left s text st p = record { text = take p.used text; registers = registers_in s st; cycles = p.cycles; goes_on = p.open }

-- what a turn asks: an accepted image, i, its I, which is not 0, and its OUTs; a state that a run accepts; room for the output bytes of 64 cycles, and for a page with one line more
pub record Asks (s : List ℕ) (i : ℕ) (outs st outputs text : List ℕ) : Type 0 where
  pub accepted : check_refusal s ≡ none
  pub inputs : i ≡ (sizes_of s).inputs
  pub some : 0 < i
  pub listed : outs ≡ outs_of s
  pub state : AcceptedState s st
  pub output_bytes : 64 * length outs ≤ length outputs
  pub room : (2 + length outs) * 71 ≤ length text

-- some bytes of at most 64 rows were taken, and what is printed for them stands at the start of the text
pub record Taken (s : List ℕ) (i first : ℕ) (bytes before after printed : List ℕ) (r : Printed) : Type 0 where
  pub good : r.good ≡ rows_taken i bytes
  pub few : r.good ≤ 64
  pub registers : registers_in s after ≡ state_after (registers_in s before) (cycles_on s i (rows_taken i bytes) bytes (registers_in s before))
  pub accepts : AcceptedState s after
  pub text : take r.used printed ≡ pages_from s i first bytes (registers_in s before)
  pub within : r.used ≤ length printed

-- a turn was made on the bytes that were read, and leaves a state that a run accepts
pub record Turned (s : List ℕ) (i : ℕ) (before after rows text : List ℕ) (p q : Progress) : Type 0 where
  pub is : left s text after q ≡ turn_of s i p.cycles (take q.read rows) (registers_in s before)
  pub accepts : AcceptedState s after
  pub few : q.read ≤ length rows
