-- Lines by output bytes, cycle after cycle.
use Prim.Native.Nat.{ℕ, suc, ◌+◌, ◌-◌, ◌*◌, ◌≤◌, ◌<◌}
use native.Mathlib.Nat.{add-mul, one-mul}
use native.Mathlib.Omega.{arith}
use mathlib.Core.Path.{◌≡◌, sym, ap, ◌∙◌}
use mathlib.Core.List.{List}
use lib.ListN.{length, take, drop}
use lib.Seq.{drop-drop}
use Rattle.gates.specs.Kinds.{OUT}
use Rattle.image.specs.Image.{sizes_of, nets_of}
use Rattle.checking.proofs.Checked.{check_none, few_of}
use Rattle.cycle.specs.Cycle.{Verdict}
use Rattle.cycle.proofs.Selections.{selection_length}
use Rattle.lists.proofs.Placing.{places_selected}
use Rattle.listing_output.specs.Printed.{Printed, with_cycle}
use Rattle.listing_cycles.specs.ByOutputs.{Outs, verdict_by, with_lines}

-- the list of an accepted image's OUTs: O of them, and at most 8,192
module _ {s outs : List ℕ} (h : Outs s outs) where
  pub outs_length : length outs ≡ (sizes_of s).outputs
  outs_length = ap length h.listed ∙ selection_length (places_selected OUT) 0 (nets_of s) ∙ sym ((check_none s).0 h.accepted).outputs

  pub outs_few : length outs ≤ 8192
  outs_few = let image = (check_none s).0 h.accepted in omega (arith, outs_length, image.outputs, few_of image OUT)

-- a line counts one cycle
pub one_cycle : (outputs : List ℕ) (v : Verdict) (p : Printed) {q : Printed} → q ≡ with_cycle outputs v p → q.cycles ≡ p.cycles + 1
unfolding with_cycle
one_cycle outputs v p h = ap (λ (x : Printed). x.cycles) h

-- one line more
pub lines_next : (s outs bytes : List ℕ) (c k from : ℕ) (p : Printed) → c < k
    → let these = take (from + length outs - from) (drop from bytes) in
    with_lines s outs (k - (c + 1)) (drop (from + length outs) bytes) (with_cycle these (verdict_by s outs these) p)
    ≡ with_lines s outs (k - c) (drop from bytes) p
unfolding with_lines
lines_next s outs bytes c k from p h =
    let e : k - c ≡ suc (k - (c + 1)) = omega arith in
    let f : from + length outs - from ≡ length outs = omega arith in
    rw (e, f, ← drop-drop (length outs) from bytes)

-- the same where the bytes of each cycle stand behind those of the cycles before it
pub cycle_lines : (s outs bytes : List ℕ) (c k : ℕ) (p : Printed) → c < k
    → let from = c * length outs in
    let these = take (from + length outs - from) (drop from bytes) in
    with_lines s outs (k - (c + 1)) (drop ((c + 1) * length outs) bytes) (with_cycle these (verdict_by s outs these) p)
    ≡ with_lines s outs (k - c) (drop from bytes) p
cycle_lines s outs bytes c k p h =
    let o = length outs in
    let n : (c + 1) * o ≡ c * o + o = omega (arith, add-mul c 1 o, one-mul o) in
    rw n (lines_next s outs bytes c k (c * o) p h)

pub lines_done : (s outs bytes : List ℕ) (c k : ℕ) (p : Printed) → k ≤ c → with_lines s outs (k - c) bytes p ≡ p
unfolding with_lines
lines_done s outs bytes c k p h = let e : k - c ≡ 0 = omega arith in rw e
