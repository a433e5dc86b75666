-- "Images accepted before give the same bytes" (document 02, L3): an image without inverted pins gives by every call the answer and the bytes that reading its pins plainly gives.
use Rattle.std.specs.Prelude.{ℕ, ◌≤◌, ◌<◌, ◌≡◌, List}
use Rattle.std.proofs.Math.Option.{none, some}
use Rattle.image.specs.declared.image.Net.{Net}
use Rattle.image.specs.Image.{sizes_of}
use Rattle.refusals.specs.declared.answer.Refusal.{Refusal}
use Rattle.checking.specs.Check.{check_refusal}
use Rattle.cycle.specs.Calls.{refused, power_up_of, step_of, run_of}
use Rattle.figures.specs.Figures.{no_figures, doubled_size_of}
use Rattle.doubling.specs.Doubling.{double_of}
use Rattle.claims.specs.Reading.{net_of}
use Rattle.claims.specs.Plain.{plain_check, plain_power_up, plain_step, plain_run, plain_size, plain_double}

-- no pin of a net has the top bit: kinds 2 to 8 have pin a, kinds 4 to 7 pin b, and kind 7 pin c
pub record Upright (x : Net) : Type 0 where
  pub a : 2 ≤ x.kind → x.kind ≤ 8 → x.a < 32768
  pub b : 4 ≤ x.kind → x.kind ≤ 7 → x.b < 32768
  pub c : x.kind ≡ 7 → x.c < 32768

-- nor has any pin of an image
abbrev pub AllUpright : List ℕ → Type 0
AllUpright s = (i : ℕ) → i < (sizes_of s).nets → Upright (net_of s i)

-- every call on the image s gives what it gave before: its answer, or refusal, and every lent byte; of doubling that is the image that it wrote before
pub record AsBefore (s : List ℕ) : Type 0 where
  pub check : check_refusal s ≡ plain_check s
  pub power_up : (st : List ℕ) → power_up_of s st ≡ plain_power_up s st
  pub step : (st row nets : List ℕ) → step_of s st row nets ≡ plain_step s st row nets
  pub run : (st : List ℕ) (k : ℕ) (rows outputs : List ℕ) → run_of s st k rows outputs ≡ plain_run s st k rows outputs
  pub doubled_size_lem : doubled_size_of s ≡ plain_size s
  pub double : (buf : List ℕ) → double_of s buf ≡ plain_double s buf

-- every call on the image s gave the refusal r before, and left every lent byte
pub record RefusedBefore (s : List ℕ) (r : Refusal) : Type 0 where
  pub power_up : (st : List ℕ) → plain_power_up s st ≡ record { refusal = some r; state = st }
  pub step : (st row nets : List ℕ) → plain_step s st row nets ≡ record { answer = refused r; state = st; nets = nets }
  pub run : (st : List ℕ) (k : ℕ) (rows outputs : List ℕ) → plain_run s st k rows outputs ≡ record { answer = refused r; state = st; outputs = outputs }
  pub doubled_size_lem : plain_size s ≡ no_figures r
  pub double : (buf : List ℕ) → plain_double s buf ≡ record { refusal = some r; buffer = buf }

-- proved as `upright`
pub record Uprights : Type 0 where
  pub same : (s : List ℕ) → AllUpright s → AsBefore s
  -- an image that was accepted before has no pin with the bit, and so gives the same bytes
  pub before : (s : List ℕ) → plain_check s ≡ none → AllUpright s
  pub accepted_before : (s : List ℕ) → plain_check s ≡ none → AsBefore s
  -- an image that was refused before, as each with the bit on a pin was, was refused by every call. So what a call gave before follows, for every image, from what checking gave
  pub refused_before : (s : List ℕ) (r : Refusal) → plain_check s ≡ some r → RefusedBefore s r
