-- The whole rows for which a buffer of zeros has room.
use Prim.Native.Nat.{ℕ, ◌*◌, ◌/◌, ◌≤◌, ◌<◌}
use native.Mathlib.Nat.{one-mul, mul-le-mul, le-div_iff_mul-le, div-mul-le_self}
use native.Mathlib.Omega.{arith}
use mathlib.Core.Path.{◌≡◌}
use lib.ListN.{length, take}
use Rattle.text.proofs.Buffers.{zeros, front_length}

-- as many whole rows of i bytes each as it has room for, and at least one
whole_rows : (m i : ℕ) → length (take (m / i * i) (zeros m)) ≡ m / i * i
whole_rows m i = front_length m (m / i * i) (div-mul-le_self m i)

pub rows_most : (m i : ℕ) → length (take (m / i * i) (zeros m)) ≤ m
rows_most m i = rw (whole_rows m i) (div-mul-le_self m i)

pub row_room : (m i : ℕ) → 0 < i → i ≤ m → i ≤ length (take (m / i * i) (zeros m))
row_room m i pos h =
    let one : 1 ≤ m / i = (le-div_iff_mul-le pos).1 (omega (arith, one-mul i)) in
    let n : 1 * i ≤ m / i * i = mul-le-mul one (omega arith) in
    omega (arith, whole_rows m i, one-mul i)
