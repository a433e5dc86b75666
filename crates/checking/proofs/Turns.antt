-- The pass over the nets. At net i, what refuses the nets is what refuses those that are left, the limits but for the net's own number are those of net i,
-- and the nets before it are counted.
use Prim.Native.Nat.{ℕ, suc, ◌+◌, ◌≤◌, ◌<◌}
use mathlib.Core.Path.{◌≡◌, refl, ◌∙◌}
use mathlib.Core.List.{List, [], ◌∷◌}
use mathlib.Core.Option.{Option, none, some}
use native.Mathlib.Numerals.{add-one}
use native.Mathlib.Nat.{zero-add}
use native.Mathlib.Omega.{arith}
use lib.ListN.{get_or, set}
use Rattle.std.proofs.Common.{Result, Ok}
use Rattle.image.specs.declared.image.Net.{Net}
use Rattle.image.specs.Image.{sizes_of, net_at, nets_from, nets_of, count}
use Rattle.image.proofs.Nets.{nets_left, nets_next, nets_more, nets_done, nets_left_lem, nets_length, count_most}
use Rattle.refusals.specs.declared.answer.Refusal.{Refusal}
use Rattle.refusals.specs.Refusals.{◌then◌, refusal_in}
use Rattle.refusals.proofs.Refusals.{passed}
use Rattle.net_checking.specs.Limits.{limits_of}
use Rattle.net_checking.specs.NetCheck.{net_refusal}
use Rattle.net_checking.proofs.Passes.{passes, kind_most}
use Rattle.checking.specs.Counts.{kind_counts, raised}
use Rattle.checking.specs.Check.{nets_refusal}
use Rattle.checking.proofs.Counting.{count_at, counts_raised}

pub record Turn (s : List ℕ) (n : ℕ) (ls counts : List ℕ) (i : ℕ) : Type 0 where
  pub most : i ≤ n
  pub refusal : nets_refusal n 0 (nets_of s) ≡ nets_refusal n i (nets_left s n i)
  pub limits : set ls 7 i ≡ limits_of n i
  pub counted : counts ≡ kind_counts (nets_from s n 0 i)

pub begins : (s : List ℕ) (n : ℕ) → n ≡ (sizes_of s).nets → Turn s n (limits_of n 0) (0 ∷ 0 ∷ 0 ∷ 0 ∷ 0 ∷ 0 ∷ 0 ∷ 0 ∷ 0 ∷ []) 0
unfolding nets_from kind_counts count
begins s n h = record { most = omega arith; refusal = rw (nets_left_lem s n h); limits = refl; counted = refl }

-- a count is at most as high as there are nets before net i
few : {s : List ℕ} {n : ℕ} {ls counts : List ℕ} {i : ℕ} → Turn s n ls counts i → (k : ℕ) → k < 9 → get_or counts k 0 ≤ i
few {s} {n} {i = i} t k h =
    let before = nets_from s n 0 i in
    rw (t.counted, count_at k before h) (omega (arith, count_most k before, nets_length s n 0 i))

-- so each can be raised
pub can_raise : {s : List ℕ} {n : ℕ} {ls counts : List ℕ} {i : ℕ} → Turn s n ls counts i → n ≤ 8192 → (k : ℕ) → k < 9 → get_or counts k 0 + 1 ≤ 8193
can_raise t m k h = omega (arith, few t k h, t.most, m)

module _ {s : List ℕ} {n : ℕ} {ls counts : List ℕ} {i : ℕ} (t : Turn s n ls counts i) (h : i < n) {x : Net} (this : x ≡ net_at s n i) where
  -- what refuses net i, and then what refuses the nets behind it
  at-net : nets_refusal n 0 (nets_of s) ≡ (net_refusal n i x then nets_refusal n (suc i) (nets_left s n (i + 1)))
  unfolding nets_refusal
  at-net = t.refusal ∙ rw (this, nets_next s n i h)

  pub stops : (r : Refusal) (q : Option Refusal) → net_refusal n i x ≡ some r → some r ≡ (nets_refusal n 0 (nets_of s) then q)
  stops r q e = rw (at-net, e)

  module _ (o : Result (Unit {0}) Refusal) {done : Unit {0}} (tried : refusal_in o ≡ net_refusal n i x) (well : o ≡ Ok done) where
    pass : net_refusal n i x ≡ none
    pass = passed o tried well

    -- the kind of a net that passes
    pub kind_passed : x.kind < 9
    kind_passed = omega (arith, kind_most (passes n i x pass))

    -- a count can be raised
    pub can_count : n ≤ 8192 → get_or counts x.kind 0 + 1 ≤ 8193
    can_count m = can_raise t m x.kind kind_passed

    pub goes_on : Turn s n (set ls 7 i) (raised counts x.kind) (i + 1)
    goes_on =
        record {
          most = omega arith;
          refusal = at-net ∙ rw (pass, add-one);
          limits = rw t.limits;
          counted = rw (t.counted, add-one i, nets_more s n 0 i, zero-add i, ← this) (counts_raised (nets_from s n 0 i) x kind_passed);
        }

-- with no net left
module _ {s : List ℕ} {n : ℕ} {ls counts : List ℕ} {i : ℕ} (h : n ≡ (sizes_of s).nets) (l : n ≤ i) (t : Turn s n ls counts i) where
  pub all_pass : nets_refusal n 0 (nets_of s) ≡ none
  unfolding nets_refusal
  all_pass = t.refusal ∙ rw (nets_done s n i (omega arith))

  pub all-counted : counts ≡ kind_counts (nets_of s)
  unfolding nets_of
  all-counted =
      let e : i ≡ (sizes_of s).nets = omega (arith, t.most) in
      t.counted ∙ rw (e, h)
