-- What an accepted image is: each net passes, and the counts are right.
use Prim.Native.Nat.{ℕ, zero, suc, ◌+◌, ◌*◌, ◌≤◌, ◌<◌}
use mathlib.Core.Logic.{◌↔◌}
use mathlib.Core.Path.{◌≡◌, refl}
use mathlib.Core.List.{List, [], ◌∷◌}
use mathlib.Core.Option.{none}
use native.Mathlib.Numerals.{add-one}
use native.Mathlib.Omega.{arith}
use lib.ListN.{length}
use Rattle.gates.specs.Kinds.{INPUT, REG, OUT}
use Rattle.image.specs.declared.image.Net.{Net}
use Rattle.image.specs.Image.{sizes_of, kind_at, operand_at, net_at, nets_of, count}
use Rattle.image.specs.Pins.{pin_net}
use Rattle.image.proofs.Nets.{nets_left, nets_next, nets_left_lem, length_nets, count_most}
use Rattle.refusals.proofs.Refusals.{then_none, accepted}
use Rattle.net_checking.proofs.Passes.{Passes, passes, no_refusal, register_pin}
use Rattle.checking.specs.Check.{nets_refusal, check_refusal}

-- the nets of a list, the first of which is net i
pub data AllPass (n : ℕ) : ℕ → List Net → Type 0 where
  nil : {i : ℕ} → AllPass n i []
  cons : {i : ℕ} {x : Net} {xs : List Net} → Passes n i x → AllPass n (suc i) xs → AllPass n i (x ∷ xs)

all_pass : (n i : ℕ) (xs : List Net) → nets_refusal n i xs ≡ none → AllPass n i xs
unfolding nets_refusal
all_pass n i [] h = nil
all_pass n i (x ∷ xs) h = let t = (then_none _ _).0 h in cons (passes n i x t.0) (all_pass n (suc i) xs t.1)

no_refusals : {n i : ℕ} {xs : List Net} → AllPass n i xs → nets_refusal n i xs ≡ none
unfolding nets_refusal
no_refusals nil = refl
no_refusals (cons p ps) = (then_none _ _).1 (no_refusal p, no_refusals ps)

nets_none : (n i : ℕ) (xs : List Net) → (nets_refusal n i xs ≡ none) ↔ AllPass n i xs
nets_none n i xs = (all_pass n i xs, no_refusals)

-- an image that draws none of 1 to 8
pub record Checked (s : List ℕ) : Type 0 where
  pub some_nets : 0 < (sizes_of s).nets
  pub few_nets : (sizes_of s).nets ≤ 8192
  pub exact : length s ≡ 8 + 7 * (sizes_of s).nets
  pub nets : AllPass (sizes_of s).nets 0 (nets_of s)
  pub inputs : (sizes_of s).inputs ≡ count INPUT (nets_of s)
  pub registers : (sizes_of s).registers ≡ count REG (nets_of s)
  pub outputs : (sizes_of s).outputs ≡ count OUT (nets_of s)

pub check_none : (s : List ℕ) → (check_refusal s ≡ none) ↔ Checked s
unfolding check_refusal
check_none s = (
  λ h.
      let t = simp (accepted, nets_none) at h in
      let nets = t.1.1.1.0 in
      let counts = t.1.1.1.1 in
      record {
        some_nets = omega (arith, t.1.0.0);
        few_nets = t.1.0.1;
        exact = t.1.1.0;
        nets = nets;
        inputs = counts.0.0;
        registers = counts.0.1;
        outputs = counts.1;
      },
  λ c.
      simp (accepted, nets_none)
      (omega arith, (((λ e. omega arith), c.few_nets), (c.exact, (c.nets, ((c.inputs, c.registers), c.outputs))))),
)

-- each net of an accepted image passes
module _ {s : List ℕ} {n : ℕ} (c : Checked s) (e : n ≡ (sizes_of s).nets) where
  pass_from : (i : ℕ) → i ≤ n → AllPass n i (nets_left s n i)
  pass_from zero h = rw (nets_left_lem s n e, e) c.nets
  pass_from (suc i) h = rest (rw (nets_next s n i h, add-one i) at (pass_from i (omega arith)))
    where
      rest : {x : Net} {xs : List Net} → AllPass n i (x ∷ xs) → AllPass n (suc i) xs
      rest (cons p ps) = ps

  pub net_passes : (i : ℕ) → i < n → Passes n i (net_at s n i)
  net_passes i h = this (rw (nets_next s n i h) at (pass_from i (omega arith)))
    where
      this : {x : Net} {xs : List Net} → AllPass n i (x ∷ xs) → Passes n i x
      this (cons p ps) = p

-- there are at most 8,192 nets of a kind
pub few_of : {s : List ℕ} → Checked s → (k : ℕ) → count k (nets_of s) ≤ 8192
few_of {s} c k = omega (arith, count_most k (nets_of s), length_nets s, c.few_nets)

-- the pin of a REG names a net below N
pub pin_below : {s : List ℕ} {n : ℕ} → Checked s → n ≡ (sizes_of s).nets → (i : ℕ) → i < n → kind_at s i ≡ REG → pin_net (operand_at s n i 0) < n
unfolding net_at
pin_below c e i h k = register_pin (net_passes c e i h) k
