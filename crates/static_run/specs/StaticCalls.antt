-- What the static calls, on an image s and a state st of codes, answer, and what they leave in every lent buffer (document 02, L4). A refusal leaves each as it was.
use Rattle.std.specs.Prelude.{ℕ, ◌*◌, List, cond, eqb, ltb}
use Rattle.std.proofs.Math.Option.{Option, none, some}
use Rattle.gates.specs.Rules.{mark}
use Rattle.unknowns.specs.Filling.{UNKNOWN_UNTRUSTED, no_code, static_byte}
use Rattle.image.specs.declared.image.Net.{Net}
use Rattle.image.specs.Image.{sizes_of, nets_of}
use Rattle.refusals.specs.declared.answer.Refusal.{Refusal}
use Rattle.refusals.specs.Refusals.{refuse, ◌then◌, Alphabet, bad_byte, bad_length}
use Rattle.checking.specs.Check.{check_refusal}
use Rattle.cycle.specs.Cycle.{Rules, registers, cycles_of}
use Rattle.cycle.specs.Calls.{refused, start, PoweredUp, lent_refusal, Ran, as_run}

-- what static cycles go by: the rule by filling, and the marks of codes
abbrev pub static : Rules
static = record { gate = static_byte; marked = mark }

-- "a static power-up sets a register with start 2 to 6, others as before"
unfoldable pub static_start : ℕ → ℕ
static_start b = cond (eqb b 2) UNKNOWN_UNTRUSTED (start b)

unfoldable pub static_starts : List Net → List ℕ
static_starts xs = registers (λ x. static_start x.b) xs

-- 1 to 8 and 10: a static state is one byte for each register
unfoldable pub static_power_up_refusal : (s st : List ℕ) → Option Refusal
static_power_up_refusal s st = check_refusal s then bad_length 10 (sizes_of s).registers st

unfoldable pub static_power_up_of : (s st : List ℕ) → PoweredUp
static_power_up_of s st =
    elim (static_power_up_refusal s st) [
      | none ↦ record { refusal = none; state = static_starts (nets_of s) }
      | some r ↦ record { refusal = some r; state = st }
    ]

-- "18 when a static row or state byte is 5 or above 6, where 11 and 13 would stand, with its index"
abbrev pub static_bytes : Alphabet
static_bytes = record { bad = no_code; in_rows = 18 }

-- 1 to 8, 9, 10, 18 of the state, 12, 18 of the rows, 14
unfoldable pub static_run_refusal : (s st : List ℕ) (k : ℕ) (rows outputs : List ℕ) → Option Refusal
static_run_refusal s st k rows outputs =
    check_refusal s
    then refuse (ltb 4096 k) 9 0
    then bad_length 10 (sizes_of s).registers st
    then bad_byte static_bytes.bad 18 0 st
    then lent_refusal static_bytes (k * (sizes_of s).inputs) (k * (sizes_of s).outputs) rows outputs

-- a static run is a run by the static rules
unfoldable pub static_run_of : (s st : List ℕ) (k : ℕ) (rows outputs : List ℕ) → Ran
static_run_of s st k rows outputs =
    elim (static_run_refusal s st k rows outputs) [
      | none ↦ as_run st (cycles_of static (nets_of s) (sizes_of s).inputs k rows st)
      | some r ↦ record { answer = refused r; state = st; outputs = outputs }
    ]
