-- A line of so many bytes, put where it fits.
use Prim.Native.Nat.{ℕ, ◌+◌, ◌≤◌, ◌<◌}
use native.Mathlib.Omega.{arith}
use mathlib.Core.Path.{◌≡◌, refl}
use mathlib.Core.Bool.{Bool, true, false}
use mathlib.Core.List.{List}
use lib.Dec.{leb}
use lib.ListN.{length}
use lib.Seq.{sets}
use borrow.Author.Tests.{leb-true, leb-false}
use Rattle.text.specs.Put.{put, did}

pub line_did : (d : List ℕ) (p : ℕ) (line : List ℕ) {n : ℕ} {d' : List ℕ} {p' : ℕ} → n ≡ length line
    → (p + n ≤ length d → (d' ≡ sets d p line) × (p' ≡ p + length line)) → (length d < p + n → (d' ≡ d) × (p' ≡ p)) → did d' p' ≡ put d p line
unfolding put
line_did d p line {n} {d'} {p'} counted there left = by (leb (p + length line) (length d)) refl
  where
    by : (b : Bool) → leb (p + length line) (length d) ≡ b → did d' p' ≡ put d p line
    by true t = let fits = leb-true (p + length line) (length d) t in let l = there (omega arith) in rw (t, l.0, l.1)
    by false t = let long = leb-false (p + length line) (length d) t in let l = left (omega arith) in rw (t, l.0, l.1)
