-- The first bad byte of some bytes: where it is, and what its place is behind others.
use Prim.Native.Nat.{ℕ, zero, suc, ◌+◌, ◌≤◌, ◌<◌}
use native.Mathlib.Nat.{add-zero}
use native.Mathlib.Omega.{arith}
use mathlib.Core.Path.{◌≡◌, refl}
use mathlib.Core.Bool.{Bool, true, false}
use mathlib.Core.List.Forall₂
use mathlib.Core.List.{List, [], ◌∷◌}
use mathlib.Core.Option.{some}
use lib.Dec.{ltb}
use lib.ListN.{length, get_or, take, drop}
use borrow.Author.Tests.{ltb-true, ltb-false, lt-ltb, le-ltb}
use Rattle.refusals.specs.declared.answer.Refusal.{Refusal}
use Rattle.refusals.specs.Refusals.{refusal, bad_byte}
use Rattle.refusals.proofs.Refusals.{Codes}

pub record FirstBad (number i : ℕ) (xs : List ℕ) (r : Refusal) : Type 0 where
  pub at : ℕ
  pub there : at < length xs
  pub is : r ≡ refusal number (i + at)
  pub before : Codes (take at xs)
  pub bad : 3 < get_or xs at 0

pub first_bad : (number i : ℕ) (xs : List ℕ) {r : Refusal} → bad_byte (ltb 3) number i xs ≡ some r → FirstBad number i xs r
unfolding bad_byte
first_bad number i [] h = let z : ◌≡◌ {A = ℕ} 0 1 = cc in absurd (omega arith)
first_bad number i (x ∷ xs) {r} h = by (ltb 3 x) refl (λ f. first_bad number (suc i) xs f)
  where
    by : (b : Bool) → ltb 3 x ≡ b → (bad_byte (ltb 3) number (suc i) xs ≡ some r → FirstBad number (suc i) xs r) → FirstBad number i (x ∷ xs) r
    by true e later =
        let f : some (refusal number i) ≡ some r = rw e at h in
        record { at = 0; there = omega arith; is = rw add-zero (cc f); before = Forall₂.nil; bad = ltb-true 3 x e }
    by false e later =
        let l = later (rw e at h) in
        let o : i + suc l.at ≡ suc i + l.at = omega arith in
        record { at = suc l.at; there = omega (arith, l.there); is = rw o l.is; before = Forall₂.cons (ltb-false 3 x e) l.before; bad = l.bad }

pub bad_at : (number i : ℕ) (xs : List ℕ) (at : ℕ) → at < length xs → Codes (take at xs) → 3 < get_or xs at 0 → bad_byte (ltb 3) number i xs ≡ some (refusal number (i + at))
unfolding bad_byte
bad_at number i [] at h c b = absurd (omega arith)
bad_at number i (x ∷ xs) zero h c b = rw (lt-ltb 3 x b, add-zero)
bad_at number i (x ∷ xs) (suc at) h (Forall₂.cons l c) b =
    let o : i + suc at ≡ suc i + at = omega arith in
    rw (le-ltb 3 x l, o) (bad_at number (suc i) xs at (omega arith) c b)

-- good bytes are passed by
pub bad_past : (number i n : ℕ) (xs : List ℕ) → n ≤ length xs → Codes (take n xs) → bad_byte (ltb 3) number i xs ≡ bad_byte (ltb 3) number (i + n) (drop n xs)
unfolding bad_byte
bad_past number i zero xs h c = rw add-zero
bad_past number i (suc n) [] h c = absurd (omega arith)
bad_past number i (suc n) (x ∷ xs) h (Forall₂.cons l c) =
    let o : i + suc n ≡ suc i + n = omega arith in
    rw (le-ltb 3 x l, o) (bad_past number (suc i) n xs (omega arith) c)
