-- Every verdict names the first protected output that is marked, and a run's answer the first flow of its cycles.
use Prim.Native.Nat.{ℕ, zero, suc, ◌+◌, ◌<◌}
use native.Mathlib.Nat.{zero-add}
use native.Mathlib.Omega.{arith}
use mathlib.Core.Path.{◌≡◌, refl, sym}
use mathlib.Core.List.{List, [], ◌∷◌, map}
use mathlib.Core.Bool.{Bool, true, false, ◌&&◌, cond}
use lib.Dec.{eqb}
use lib.ListN.{length, get_or}
use borrow.Author.Tests.{eqb-true}
use Rattle.gates.specs.Kinds.{OUT}
use Rattle.gates.specs.Rules.{mark}
use Rattle.gates.proofs.EachCode.{both}
use Rattle.image.specs.declared.image.Net.{Net}
use Rattle.image.specs.Image.{net}
use Rattle.cycle.specs.Cycle.{Verdict, clear, flow, verdict_from, Cycle, cycle_of, FirstFlow, first_of, first_flow}
use Rattle.claims.specs.Verdicts.{MarkedOutput, Judged, none, lowest, Verdicts, First, all_clear, first, FirstFlows}

-- the test of the definition, at a net with byte b
abbrev test : Net → (b : ℕ) → Bool
test x b = eqb x.kind OUT && eqb x.b 1 && mark b

record Passed (x : Net) (b : ℕ) : Type 0 where
  out : x.kind ≡ OUT
  protected : x.b ≡ 1
  marked : mark b ≡ true

passed : (x : Net) (b : ℕ) → test x b ≡ true → Passed x b
passed x b h =
    let t = both (eqb x.kind OUT && eqb x.b 1) (mark b) h in
    let u = both (eqb x.kind OUT) (eqb x.b 1) t.0 in
    record { out = eqb-true _ _ u.0; protected = eqb-true _ _ u.1; marked = t.1 }

not_passed : (x : Net) (b : ℕ) → test x b ≡ false → Passed x b → ⊥
not_passed x b h p =
    let e = rw (p.out, p.protected, p.marked) at h in
    let z : ◌≡◌ {A = Bool} true false = e in
    let n : ◌≡◌ {A = ℕ} 0 1 = cc in
    omega arith

-- the same, of the nets xs, the first of which is net i: j counts from there
record From (i : ℕ) (xs : List Net) (bs : List ℕ) (j : ℕ) : Type 0 where
  below : j < length xs
  here : Passed (get_or xs j (net 0 0 0 0)) (get_or bs (i + j) 0)

data JudgedFrom (i : ℕ) (xs : List Net) (bs : List ℕ) : Verdict → Type 0 where
  none_from : ((j : ℕ) → From i xs bs j → ⊥) → JudgedFrom i xs bs clear
  lowest_from : (j : ℕ) {n : ℕ} → n ≡ i + j → From i xs bs j → ((k : ℕ) → k < j → From i xs bs k → ⊥) → JudgedFrom i xs bs (flow n)

-- what holds at 0 and at every later number
each : (P : ℕ → Type 0) → P 0 → ((j : ℕ) → P (suc j)) → (j : ℕ) → P j
each P z s zero = z
each P z s (suc j) = s j

-- one net before the others
later : {i : ℕ} {x : Net} {xs : List Net} {bs : List ℕ} (j : ℕ) → From i (x ∷ xs) bs (suc j) → From (suc i) xs bs j
later {i} j f = let e : i + suc j ≡ suc i + j = omega arith in record { below = omega (arith, f.below); here = rw e at f.here }

sooner : {i : ℕ} {x : Net} {xs : List Net} {bs : List ℕ} (j : ℕ) → From (suc i) xs bs j → From i (x ∷ xs) bs (suc j)
sooner {i} j f = let e : suc i + j ≡ i + suc j = omega arith in record { below = omega (arith, f.below); here = rw e at f.here }

not_here : {i : ℕ} {x : Net} {xs : List Net} {bs : List ℕ} → test x (get_or bs i 0) ≡ false → From i (x ∷ xs) bs 0 → ⊥
not_here {i} {x} h g = let e : i + 0 ≡ i = omega arith in not_passed x _ h (rw e at g.here)

over : {i : ℕ} {x : Net} {xs : List Net} {bs : List ℕ} {v : Verdict} → test x (get_or bs i 0) ≡ false → JudgedFrom (suc i) xs bs v → JudgedFrom i (x ∷ xs) bs v
over h (none_from f) = none_from (each _ (not_here h) (λ j g. f j (later j g)))
over h (lowest_from j {n} e g f) = lowest_from (suc j) {n = n} (omega arith) (sooner j g) (each _ (λ l. not_here h) (λ k l g. f k (omega arith) (later k g)))

step : (i : ℕ) (x : Net) (xs : List Net) (bs : List ℕ) {v : Verdict} (t : Bool) → test x (get_or bs i 0) ≡ t → JudgedFrom (suc i) xs bs v
    → JudgedFrom i (x ∷ xs) bs (cond t (flow i) v)
step i x xs bs true h rest =
    let e : i + 0 ≡ i = omega arith in
    lowest_from 0 (sym e) (record { below = omega arith; here = rw e (passed x _ h) }) (λ k l g. absurd (omega arith))
step i x xs bs false h rest = over h rest

judged_from : (i : ℕ) (xs : List Net) (bs : List ℕ) → JudgedFrom i xs bs (verdict_from mark i xs bs)
unfolding verdict_from
judged_from i [] bs = none_from (λ j f. absurd (omega (arith, f.below)))
judged_from i (x ∷ xs) bs = step i x xs bs (test x (get_or bs i 0)) refl (judged_from (suc i) xs bs)

-- from net 0 on
output : {xs : List Net} {bs : List ℕ} (j : ℕ) → From 0 xs bs j → MarkedOutput xs bs j
output j f = let p = rw zero-add at f.here in record { below = f.below; out = p.out; protected = p.protected; marked = p.marked }

from_output : {xs : List Net} {bs : List ℕ} (j : ℕ) → MarkedOutput xs bs j → From 0 xs bs j
from_output j m = record { below = m.below; here = rw zero-add (record { out = m.out; protected = m.protected; marked = m.marked }) }

judged : {xs : List Net} {bs : List ℕ} {v : Verdict} → JudgedFrom 0 xs bs v → Judged xs bs v
judged (none_from f) = none (λ i m. f i (from_output i m))
judged (lowest_from j {n} e g f) = let h : n ≡ j = omega arith in rw h (lowest (output j g) (λ k l m. f k l (from_output k m)))

pub verdicts : Verdicts
unfolding cycle_of
verdicts rule xs row state = judged (judged_from 0 xs _)

-- THE FIRST FLOW, among verdicts of which the first is that of cycle i: c counts from there
data FirstFrom (i : ℕ) (vs : List Verdict) : FirstFlow → Type 0 where
  clear_from : {k : ℕ} → k ≡ i + length vs → ((c : ℕ) → c < length vs → get_or vs c clear ≡ clear) → FirstFrom i vs (record { cycle = k; verdict = clear })
  flow_from :
      (c : ℕ) {k n : ℕ} → k ≡ i + c → c < length vs → get_or vs c clear ≡ flow n → ((d : ℕ) → d < c → get_or vs d clear ≡ clear)
      → FirstFrom i vs (record { cycle = k; verdict = flow n })

-- one cycle before the others
after_clear : {i : ℕ} {vs : List Verdict} {f : FirstFlow} → FirstFrom (suc i) vs f → FirstFrom i (clear ∷ vs) f
after_clear (clear_from {k} e h) = clear_from {k = k} (omega arith) (each _ (λ l. refl) (λ c l. h c (omega arith)))
after_clear (flow_from c {k} {n} e l g h) = flow_from (suc c) {k = k} {n = n} (omega arith) (omega arith) g (each _ (λ m. refl) (λ d m. h d (omega arith)))

first_step : (i : ℕ) (v : Verdict) {vs : List Verdict} {f : FirstFlow} → FirstFrom (suc i) vs f → FirstFrom i (v ∷ vs) (first_of i v f)
unfolding first_of
first_step i clear r = after_clear r
first_step i (flow n) r = flow_from 0 {k = i} {n = n} (omega arith) (omega arith) refl (λ d l. absurd (omega arith))

first_from : (i : ℕ) (cs : List Cycle) → FirstFrom i (map (λ c. c.verdict) cs) (first_flow i cs)
unfolding first_flow
first_from i [] = clear_from {k = i} (omega arith) (λ c l. absurd (omega arith))
first_from i (c ∷ cs) = first_step i c.verdict (first_from (suc i) cs)

first_of_lem : {vs : List Verdict} {f : FirstFlow} → FirstFrom 0 vs f → First vs f
first_of_lem {vs} (clear_from {k} e h) = let z : k ≡ length vs = omega arith in rw z (all_clear h)
first_of_lem (flow_from c {k} {n} e l g h) = let z : k ≡ c = omega arith in rw z (first l g h)

pub first_flows : FirstFlows
first_flows cs = first_of_lem (first_from 0 cs)
