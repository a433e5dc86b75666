-- The room that a list of o outputs, in a buffer of k numbers, asks of the other buffers.
use Prim.Native.Nat.{ℕ, ◌+◌, ◌*◌, ◌≤◌}
use native.Mathlib.Omega.{arith}
use lib.ListN.{length, take}
use Rattle.text.proofs.Buffers.{zeros, zeros_room, front_length}

-- output bytes of 64 cycles
pub outputs_room : (k m o : ℕ) → o ≤ k → 64 * k ≤ m → 64 * length (take o (zeros k)) ≤ length (zeros m)
outputs_room k m o h l = zeros_room m (omega (arith, front_length k o h))

-- a page, and one line more
pub page_room : (k m o : ℕ) → o ≤ k → (2 + k) * 71 ≤ m → (2 + length (take o (zeros k))) * 71 ≤ m
page_room k m o h l = omega (arith, front_length k o h)
