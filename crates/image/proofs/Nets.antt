-- The nets of an image, one after the other: what a pass over them has before it at net i.
use Prim.Native.Nat.{ℕ, zero, suc, ◌+◌, ◌-◌, ◌≤◌, ◌<◌}
use mathlib.Core.Path.{◌≡◌, refl, ap, ◌∙◌}
use mathlib.Core.List.{List, [], ◌∷◌, ◌++◌}
use mathlib.Core.Bool.{Bool, true, false, cond}
use native.Mathlib.Numerals.{add-one}
use native.Mathlib.Nat.{zero-add, add-zero}
use native.Mathlib.Omega.{arith}
use lib.Dec.{eqb}
use lib.ListN.{length, get_or}
use Rattle.image.specs.declared.image.Net.{Net}
use Rattle.image.specs.Image.{sizes_of, net_at, nets_from, nets_of, count}

-- the nets from net i on, of an image of n nets
abbrev pub nets_left : List ℕ → ℕ → ℕ → List Net
nets_left s n i = nets_from s n i (n - i)

module _ (s : List ℕ) (n : ℕ) where
  pub nets_all : nets_left s n 0 ≡ nets_from s n 0 n
  nets_all = let e : n - 0 ≡ n = omega arith in rw e

  pub nets_next : (i : ℕ) → i < n → nets_left s n i ≡ net_at s n i ∷ nets_left s n (i + 1)
  unfolding nets_from
  nets_next i h = let e : n - i ≡ suc (n - suc i) = omega arith in rw (add-one, e)

  pub nets_done : (i : ℕ) → n - i ≡ 0 → nets_left s n i ≡ []
  unfolding nets_from
  nets_done i e = rw e

-- one more of them
pub nets_more : (s : List ℕ) (n i k : ℕ) → nets_from s n i (suc k) ≡ nets_from s n i k ++ (net_at s n (i + k) ∷ [])
unfolding nets_from
nets_more s n i zero = rw add-zero
nets_more s n i (suc k) =
    let e : i + suc k ≡ suc i + k = omega arith in
    rw e (ap (λ (xs : List Net). net_at s n i ∷ xs) (nets_more s n (suc i) k))

-- net i among them
net_from : (s : List ℕ) (n i k j : ℕ) (d : Net) → j < k → get_or (nets_from s n i k) j d ≡ net_at s n (i + j)
unfolding nets_from
net_from s n i zero j d h = absurd (omega arith)
net_from s n i (suc k) zero d h = rw add-zero
net_from s n i (suc k) (suc j) d h = let e : i + suc j ≡ suc i + j = omega arith in rw e (net_from s n (suc i) k j d (omega arith))

pub net_in : (s : List ℕ) (n i : ℕ) (d : Net) → n ≡ (sizes_of s).nets → i < n → get_or (nets_of s) i d ≡ net_at s n i
unfolding nets_of
net_in s n i d e h = rw (← e) (rw (zero-add i) at (net_from s n 0 n i d h))

-- at net 0, all nets of the image
pub nets_left_lem : (s : List ℕ) (n : ℕ) → n ≡ (sizes_of s).nets → nets_left s n 0 ≡ nets_of s
unfolding nets_of
nets_left_lem s n h = nets_all s n ∙ ap (λ n. nets_from s n 0 n) h

-- the nets of an image are as many as it says
pub nets_length : (s : List ℕ) (n i k : ℕ) → length (nets_from s n i k) ≡ k
unfolding nets_from
nets_length s n i zero = refl
nets_length s n i (suc k) = ap suc (nets_length s n (suc i) k)

pub length_nets : (s : List ℕ) → length (nets_of s) ≡ (sizes_of s).nets
unfolding nets_of
length_nets s = nets_length s _ 0 _

-- of a kind there are at most as many nets as there are
pub count_most : (k : ℕ) (xs : List Net) → count k xs ≤ length xs
unfolding count
count_most k [] = omega arith
count_most k (x ∷ xs) = one (eqb x.kind k) (count_most k xs)
  where
    one : (b : Bool) {m n : ℕ} → m ≤ n → cond b 1 0 + m ≤ suc n
    one true h = omega arith
    one false h = omega arith
