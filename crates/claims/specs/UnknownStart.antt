-- Registers that wake unknown (document 02, L2): whatever values the registers without a start held, all calls give the same refusals, verdicts, marks and unmarked values.
use Rattle.std.specs.Prelude.{ℕ, ◌+◌, ◌*◌, ◌≤◌, ◌↔◌, ◌≡◌, length}
use mathlib.Core.List.{List, Forall₂}
use Rattle.std.proofs.Math.Option.{none}
use Rattle.image.specs.Image.{sizes_of, nets_of}
use Rattle.checking.specs.Check.{check_refusal}
use Rattle.cycle.specs.State.{state_length}
use Rattle.cycle.specs.Calls.{power_up_of, run_of}
use Rattle.doubled.specs.Doubled.{doubled_size}
use Rattle.doubling.specs.Doubling.{double_of}
use Rattle.claims.specs.PowerUp.{Wakes}
use Rattle.claims.specs.History.{Call}
use Rattle.claims.specs.TwoRun.{Matched, SameCalls, AllSameDoubled}
use Rattle.claims.specs.InBytes.{from_power_up, clear_after, SameMarks, SameStates, StaysClear}

pub record UnknownStart (s : List ℕ) : Type 0 where
  -- the states with which an array may wake are those that differ from power-up at most in the values of marked registers
  pub states : (a st : List ℕ) → length a ≡ state_length (sizes_of s) → Wakes s st ↔ SameStates s (power_up_of s a).state st
  -- from any two of them all calls give the same
  pub calls : (st st' : List ℕ) → Wakes s st → Wakes s st' → (cs ds : List Call) → Forall₂ Matched cs ds → SameCalls s st st' cs ds
  -- so a run from power-up that is clear is clear whatever the array woke with, and whatever the values of marked pins
  pub clear :
      (a st : List ℕ) (k : ℕ) (rows rows' outputs outputs' : List ℕ)
      → length a ≡ state_length (sizes_of s) → Wakes s st → SameMarks rows rows' → length outputs ≡ length outputs'
      → (from_power_up s a k rows outputs).answer ≡ clear_after k
      → StaysClear s k (from_power_up s a k rows outputs) (run_of s st k rows' outputs')
  -- the doubled netlist too shows equal marks, and equal values where the mark is 0, whatever its own registers without a start woke with
  pub doubled :
      doubled_size (nets_of s) ≤ 8192 → (buf : List ℕ) → length buf ≡ 8 + 7 * doubled_size (nets_of s)
      → let d = (double_of s buf).buffer in
      (st st' u u' : List ℕ) → Wakes s st → Wakes s st' → Wakes d u → Wakes d u'
      → (cs ds : List Call) → Forall₂ Matched cs ds → AllSameDoubled s d st st' u u' cs ds

-- proved as `unknown_start`
abbrev pub UnknownStarts : Type 0
UnknownStarts = (s : List ℕ) → check_refusal s ≡ none → UnknownStart s
