-- A group that is written net after net, each into the buffer that the net before it left, is written as a whole.
use Prim.Native.Nat.{ℕ, zero, suc, ◌+◌}
use mathlib.Core.Path.{◌≡◌, refl}
use mathlib.Core.List.{List, [], ◌∷◌}
use native.Mathlib.Omega.{arith}
use Rattle.image.specs.declared.image.Net.{Net}
use Rattle.image.specs.Writing.{put_net, put_nets}

-- net k of the group whose first net is net v
abbrev place : (v k : ℕ) → ℕ
place v zero = v
place v (suc k) = v + suc k

next_place : (v k : ℕ) → suc (place v k) ≡ place v (suc k)
next_place v zero = omega arith
next_place v (suc k) = omega arith

-- from the buffer d to the buffer f, the nets of a group from its net k on are written, as nets of n
pub data NetAfterNet (n v : ℕ) : (k : ℕ) → List ℕ → List Net → List ℕ → Type 0 where
  done : {k : ℕ} {d : List ℕ} → NetAfterNet n v k d [] d
  one : {k : ℕ} {d e f : List ℕ} {x x' : Net} {xs : List Net} → x' ≡ x → e ≡ put_net d n (place v k) x' → NetAfterNet n v (suc k) e xs f → NetAfterNet n v k d (x ∷ xs) f

rest_put : {n v k : ℕ} {d f : List ℕ} {xs : List Net} → NetAfterNet n v k d xs f → f ≡ put_nets d n (place v k) xs
unfolding put_nets
rest_put done = refl
rest_put {n} {v} {k} (one h e r) = rw (← h, ← e, next_place v k) (rest_put r)

pub all_put : {n v : ℕ} {d f : List ℕ} {xs : List Net} → NetAfterNet n v 0 d xs f → f ≡ put_nets d n v xs
all_put r = rest_put r
