-- A buffer of zeros, and its front. Its length is never counted out, which would take a step for each byte.
use Prim.Native.Nat.{ℕ, ◌≤◌}
use mathlib.Core.Path.{◌≡◌}
use mathlib.Core.List.{List}
use lib.ListN.{length, take, replicate, length-replicate}
use lib.Seq.{length-take-le}

abbrev pub zeros : (m : ℕ) → List ℕ
zeros m = replicate m 0

pub zeros_length : (m : ℕ) → length (zeros m) ≡ m
zeros_length m = length-replicate {A = ℕ} m 0

pub zeros_room : (m : ℕ) {n : ℕ} → n ≤ m → n ≤ length (zeros m)
zeros_room m h = rw (zeros_length m) h

pub front_length : (m n : ℕ) → n ≤ m → length (take n (zeros m)) ≡ n
front_length m n h = length-take-le n (zeros m) (zeros_room m h)
