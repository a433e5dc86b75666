-- The promise about images without inverted pins, used by its parts, as in Held.
use Prim.Native.Nat.{ℕ, ◌<◌}
use mathlib.Core.Path.{◌≡◌}
use mathlib.Core.List.{List}
use mathlib.Core.Option.{none, some}
use Rattle.image.specs.declared.image.Net.{Net}
use Rattle.image.specs.Image.{sizes_of}
use Rattle.refusals.specs.declared.answer.Refusal.{Refusal}
use Rattle.checking.specs.Check.{check_refusal}
use Rattle.cycle.specs.Calls.{refused, power_up_of, step_of, run_of}
use Rattle.figures.specs.Figures.{no_figures, doubled_size_of}
use Rattle.doubling.specs.Doubling.{double_of}
use Rattle.claims.specs.NetBytes.{net_of}
use Rattle.claims.specs.Plain.{plain_check, plain_power_up, plain_step, plain_run, plain_size, plain_double}
use Rattle.claims.specs.Upright.{Upright}
use Rattle.claims.proofs.Promised.{promised}

module _ (s : List ℕ) (u : (i : ℕ) → i < (sizes_of s).nets → Upright (net_of s i)) where
  same_check : (check_refusal s ≡ plain_check s) × (doubled_size_of s ≡ plain_size s)
  same_check = let p = promised.upright.same s u in (p.check, p.doubled_size_lem)

  same_calls : (st row nets rows outputs buf : List ℕ) (k : ℕ)
      → (power_up_of s st ≡ plain_power_up s st) × (step_of s st row nets ≡ plain_step s st row nets) × (run_of s st k rows outputs ≡ plain_run s st k rows outputs)
      × (double_of s buf ≡ plain_double s buf)
  same_calls st row nets rows outputs buf k = let p = promised.upright.same s u in (p.power_up st, p.step st row nets, p.run st k rows outputs, p.double buf)

-- a net with no top bit in any operand is upright
no_top : (x : Net) → x.a < 32768 → x.b < 32768 → x.c < 32768 → Upright x
no_top x a b c = record { a = λ h k. a; b = λ h k. b; c = λ h. c }

-- an image that was accepted before
same_run : (s : List ℕ) → plain_check s ≡ none → (st : List ℕ) (k : ℕ) (rows outputs : List ℕ) → run_of s st k rows outputs ≡ plain_run s st k rows outputs
same_run s h = (promised.upright.accepted_before s h).run

without_bit : (s : List ℕ) → plain_check s ≡ none → (i : ℕ) → i < (sizes_of s).nets → Upright (net_of s i)
without_bit s h = promised.upright.before s h

-- an image that was refused before
refused_calls : (s : List ℕ) (r : Refusal) → plain_check s ≡ some r → (st row nets rows outputs buf : List ℕ) (k : ℕ)
    → (plain_power_up s st ≡ record { refusal = some r; state = st }) × (plain_step s st row nets ≡ record { answer = refused r; state = st; nets = nets })
    × (plain_run s st k rows outputs ≡ record { answer = refused r; state = st; outputs = outputs }) × (plain_size s ≡ no_figures r)
    × (plain_double s buf ≡ record { refusal = some r; buffer = buf })
refused_calls s r h st row nets rows outputs buf k =
    let p = promised.upright.refused_before s r h in (p.power_up st, p.step st row nets, p.run st k rows outputs, p.doubled_size_lem, p.double buf)
