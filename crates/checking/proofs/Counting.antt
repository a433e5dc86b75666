-- The nets of each kind, counted: one more net raises one of the nine counts.
use Prim.Native.Nat.{ℕ, zero, suc, ◌+◌, ◌≤◌, ◌<◌}
use mathlib.Core.Path.{◌≡◌, refl, sym, ◌∙◌}
use mathlib.Core.List.{List, [], ◌∷◌, ◌++◌}
use mathlib.Core.Bool.{Bool, true, false, cond}
use native.Mathlib.Decide.{dec_lt}
use native.Mathlib.Omega.{arith}
use lib.Dec.{eqb}
use lib.ListN.{length, get_or, length-set, get_or-eq_default}
use lib.Seq.{ext_get_or, get_or-set_same, get_or-set_other}
use borrow.Author.Tests.{eqb-true, eqb-false}
use Rattle.image.specs.declared.image.Net.{Net}
use Rattle.image.specs.Image.{count}
use Rattle.image.proofs.Nets.{count_most}
use Rattle.checking.specs.Counts.{kind_counts, raised}

-- there are nine counts, and at place k stands the number of nets of kind k
pub counts_length : (xs : List Net) → length (kind_counts xs) ≡ 9
unfolding kind_counts
counts_length xs = refl

pub count_at : (k : ℕ) (xs : List Net) → k < 9 → get_or (kind_counts xs) k 0 ≡ count k xs
unfolding kind_counts
count_at zero xs h = refl
count_at (suc zero) xs h = refl
count_at (suc (suc zero)) xs h = refl
count_at (suc (suc (suc zero))) xs h = refl
count_at (suc (suc (suc (suc zero)))) xs h = refl
count_at (suc (suc (suc (suc (suc zero))))) xs h = refl
count_at (suc (suc (suc (suc (suc (suc zero)))))) xs h = refl
count_at (suc (suc (suc (suc (suc (suc (suc zero))))))) xs h = refl
count_at (suc (suc (suc (suc (suc (suc (suc (suc zero)))))))) xs h = refl
count_at (suc (suc (suc (suc (suc (suc (suc (suc (suc k))))))))) xs h = absurd (omega arith)

-- at no place stands more than the number of nets
pub count_few : (k : ℕ) (xs : List Net) → get_or (kind_counts xs) k 0 ≤ length xs
count_few k xs =
    elim (dec_lt k 9) [
      | yes h ↦ rw (count_at k xs h) (count_most k xs)
      | no h ↦ rw (get_or-eq_default (kind_counts xs) 0 {n = k} (rw (counts_length xs) (omega arith))) (omega arith)
    ]

-- what stands at each place when place k is raised
pub raised_place : (counts : List ℕ) (k j : ℕ) → k < length counts → get_or (raised counts k) j 0 ≡ get_or counts j 0 + cond (eqb k j) 1 0
raised_place counts k j h = by (eqb k j) refl
  where
    by : (b : Bool) → eqb k j ≡ b → get_or (raised counts k) j 0 ≡ get_or counts j 0 + cond b 1 0
    by true e = rw (← eqb-true k j e) (get_or-set_same counts k (get_or counts k 0 + 1) 0 h)
    by false e = get_or-set_other counts k j (get_or counts k 0 + 1) 0 (λ d. eqb-false k j e (sym d)) ∙ omega arith

-- the nets of one kind, with one more net
count_more : (k : ℕ) (xs : List Net) (x : Net) → count k (xs ++ (x ∷ [])) ≡ count k xs + cond (eqb x.kind k) 1 0
unfolding count
count_more k [] x = omega arith
count_more k (y ∷ xs) x = omega (arith, count_more k xs x)

-- with one more net, the place of its kind is raised
module _ (xs : List Net) (x : Net) (h : x.kind < 9) where
  raised_at : (k : ℕ) → k < 9 → get_or (raised (kind_counts xs) x.kind) k 0 ≡ count k (xs ++ (x ∷ []))
  raised_at k l = raised_place (kind_counts xs) x.kind k (rw (counts_length xs) h) ∙ rw (count_at k xs l, count_more k xs x)

  pub counts_raised : raised (kind_counts xs) x.kind ≡ kind_counts (xs ++ (x ∷ []))
  counts_raised =
      let long : length (raised (kind_counts xs) x.kind) ≡ 9 = length-set (kind_counts xs) x.kind _ ∙ counts_length xs in
      ext_get_or 0 _ _ (long ∙ sym (counts_length (xs ++ (x ∷ []))))
      (λ k l. let m : k < 9 = omega (arith, long) in raised_at k m ∙ sym (count_at k (xs ++ (x ∷ [])) m))
