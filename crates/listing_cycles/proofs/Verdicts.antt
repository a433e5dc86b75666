-- The verdict of a cycle is that of its output bytes at the OUTs in net order.
use Prim.Native.Nat.{ℕ, zero, suc, ◌<◌}
use native.Mathlib.Omega.{arith}
use mathlib.Core.Path.{◌≡◌, refl}
use mathlib.Core.List.{List, ◌∷◌}
use mathlib.Core.Bool.{Bool, true, false, ◌&&◌, cond}
use lib.Dec.{eqb}
use lib.ListN.{get_or}
use borrow.Author.Tests.{eqb-true}
use Rattle.std.specs.Prelude.{All}
use Rattle.std.proofs.lemmas.List.Elements.{All-from_get_or}
use Rattle.gates.specs.Kinds.{OUT}
use Rattle.gates.specs.Rules.{mark}
use Rattle.image.specs.Image.{sizes_of, operand_at, net_at, nets_from, nets_of}
use Rattle.image.specs.Places.{places_from}
use Rattle.cycle.specs.Cycle.{Verdict, flow, verdict_from, outputs_from}
use Rattle.lists.proofs.Placing.{listed_places}
use Rattle.listing_cycles.specs.ByOutputs.{Outs, verdict_by}

-- the listed OUTs are nets
pub outs_nets : {s outs : List ℕ} → Outs s outs → All (λ i. i < (sizes_of s).nets) outs
outs_nets {s} {outs} h = All-from_get_or (λ i. i < (sizes_of s).nets) outs 0 (λ k l. (listed_places s refl OUT h.listed).within.below k l)

-- of those that are left, the first and the others
pub nets_left : {n i : ℕ} {these others : List ℕ} → these ≡ i ∷ others → All (λ j. j < n) these → (i < n) × All (λ j. j < n) others
nets_left e h = let all = rw e at h in (all 0 0 (omega arith), λ k d l. all (suc k) d (omega arith))

-- an OUT that draws no flow leaves the verdict to those after it
pub verdict_passed : (s : List ℕ) {i y : ℕ} {these bytes others later : List ℕ} → these ≡ i ∷ others → bytes ≡ y ∷ later
    → (operand_at s (sizes_of s).nets i 1 ≡ 1 → mark y ≡ false) → verdict_by s others later ≡ verdict_by s these bytes
unfolding verdict_by
verdict_passed s {i} {y} {others = others} {later = later} e f clean = rw (e, f) (by (eqb (operand_at s (sizes_of s).nets i 1) 1) refl)
  where
    by : (b : Bool) → eqb (operand_at s (sizes_of s).nets i 1) 1 ≡ b → verdict_by s others later ≡ cond (b && mark y) (flow i) (verdict_by s others later)
    by false t = refl
    by true t = rw (clean (eqb-true _ _ t))

module _ (s : List ℕ) where
  -- a net that is an OUT or not
  one_net : (i y : ℕ) (c : Bool) (outs bytes : List ℕ) {v : Verdict} → verdict_by s outs bytes ≡ v
      → verdict_by s (cond c (i ∷ outs) outs) (cond c (y ∷ bytes) bytes) ≡ cond (c && eqb (operand_at s (sizes_of s).nets i 1) 1 && mark y) (flow i) v
  unfolding verdict_by
  one_net i y true outs bytes e = rw e
  one_net i y false outs bytes e = e

  by_outputs : (bs : List ℕ) (i m : ℕ)
      → let xs = nets_from s (sizes_of s).nets i m in verdict_by s (places_from OUT i xs) (outputs_from i xs bs) ≡ verdict_from mark i xs bs
  unfolding nets_from places_from outputs_from verdict_from verdict_by net_at
  by_outputs bs i zero = refl
  by_outputs bs i (suc m) = one_net i (get_or bs i 0) (eqb (net_at s (sizes_of s).nets i).kind OUT) _ _ (by_outputs bs (suc i) m)

  pub verdict_by_outputs : (bs : List ℕ) → verdict_by s (places_from OUT 0 (nets_of s)) (outputs_from 0 (nets_of s) bs) ≡ verdict_from mark 0 (nets_of s) bs
  unfolding nets_of
  verdict_by_outputs bs = by_outputs bs 0 (sizes_of s).nets
