-- What the nets of a group come to, from the bytes a, b, c of the source's pins.
use Prim.Native.Nat.{ℕ, ◌/◌, ◌%◌}
use mathlib.Core.List.{List, [], ◌∷◌}
use Rattle.gates.specs.Rules.{not_byte, and_byte, or_byte, xor_byte, mux_byte}

unfoldable pub not_bytes : ℕ → List ℕ
not_bytes a = not_byte (a % 2) ∷ or_byte (a / 2) (a / 2) ∷ []

unfoldable pub and_bytes : ℕ → ℕ → List ℕ
and_bytes a b =
    let p = and_byte (a / 2) (b % 2) in
    let q = and_byte (b / 2) (a % 2) in
    let r = and_byte (a / 2) (b / 2) in
    let s = or_byte p q in
    and_byte (a % 2) (b % 2) ∷ p ∷ q ∷ r ∷ s ∷ or_byte s r ∷ []

unfoldable pub or_bytes : ℕ → ℕ → List ℕ
or_bytes a b =
    let m = not_byte (a % 2) in
    let n = not_byte (b % 2) in
    let p = and_byte (a / 2) n in
    let q = and_byte (b / 2) m in
    let r = and_byte (a / 2) (b / 2) in
    let s = or_byte p q in
    or_byte (a % 2) (b % 2) ∷ m ∷ n ∷ p ∷ q ∷ r ∷ s ∷ or_byte s r ∷ []

unfoldable pub xor_bytes : ℕ → ℕ → List ℕ
xor_bytes a b = xor_byte (a % 2) (b % 2) ∷ or_byte (a / 2) (b / 2) ∷ []

unfoldable pub mux_bytes : ℕ → ℕ → ℕ → List ℕ
mux_bytes a b c =
    let p = xor_byte (a % 2) (b % 2) in
    let q = or_byte (a / 2) (b / 2) in
    let r = or_byte p q in
    let w = and_byte (c / 2) r in
    let z = mux_byte (a / 2) (b / 2) (c % 2) in
    mux_byte (a % 2) (b % 2) (c % 2) ∷ p ∷ q ∷ r ∷ w ∷ z ∷ or_byte w z ∷ []
