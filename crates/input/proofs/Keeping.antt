-- The bytes of an unfinished row, moved to the front of a buffer.
use Prim.Native.Nat.{ℕ, ◌+◌, ◌-◌, ◌*◌, ◌/◌, ◌%◌, ◌≤◌}
use native.Mathlib.Nat.{mod-le, div-add-mod'}
use native.Mathlib.Omega.{arith}
use mathlib.Core.Path.{◌≡◌, sym, ap, ◌∙◌}
use mathlib.Core.List.{List, ◌++◌}
use lib.ListN.{length, take, drop, length-drop}
use lib.Seq.{length-take-le, take-add, take_at, drop_at}
use Rattle.std.specs.List.{copy_within}
use Rattle.input.specs.Rest.{rest_of}

-- so many bytes that are left of those that are there, moved to the front
pub moved : (bytes : List ℕ) (i there : ℕ) → there ≤ length bytes
    → take (there % i) (copy_within bytes (there - there % i) there 0) ≡ take (there % i) (drop (there - there % i) bytes)
moved bytes i there h =
    let few = mod-le there i in
    let n : there - (there - there % i) ≡ there % i = omega arith in
    let rest = drop (there - there % i) bytes in
    rw n (take_at (take (there % i) rest) _ (there % i) (length-take-le (there % i) rest (omega (arith, length-drop (there - there % i) bytes))))

-- so many bytes are left of those that are there
pub rest_is : (i there : ℕ) (bytes : List ℕ) → there ≤ length bytes → rest_of i (take there bytes) ≡ take (there % i) (drop (there - there % i) bytes)
rest_is i there bytes h =
    let d = there / i * i in
    let e : d + there % i ≡ there = div-add-mod' there i in
    let f : there - there % i ≡ d = omega arith in
    let size : length (take d bytes) ≡ d = length-take-le d bytes (omega arith) in
    let parts : take there bytes ≡ take d bytes ++ take (there % i) (drop d bytes) = ap (λ m. take m bytes) (sym e) ∙ take-add d (there % i) bytes in
    rw (length-take-le there bytes h, f, parts) (drop_at (take d bytes) _ d size)
