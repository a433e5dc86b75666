-- A test of the codes 0 to 3, of pairs and of triples of them, computed once and used at each.
use Prim.Native.Nat.{ℕ, zero, suc, ◌≤◌}
use mathlib.Core.Path.{◌≡◌, refl}
use mathlib.Core.Bool.{Bool, true, false, ◌&&◌}
use native.Mathlib.Omega.{arith}

pub both : (p q : Bool) → (p && q) ≡ true → (p ≡ true) × (q ≡ true)
both true q h = (refl, h)
both false q h = (cc, cc)

abbrev pub all4 : (ℕ → Bool) → Bool
all4 P = P 0 && (P 1 && (P 2 && P 3))

pub each : (P : ℕ → Bool) → all4 P ≡ true → (a : ℕ) → a ≤ 3 → P a ≡ true
each P h zero l = (both (P 0) _ h).0
each P h (suc zero) l = let t = both (P 0) _ h in (both (P 1) _ t.1).0
each P h (suc (suc zero)) l = let t = both (P 0) _ h in let u = both (P 1) _ t.1 in (both (P 2) (P 3) u.1).0
each P h (suc (suc (suc zero))) l = let t = both (P 0) _ h in let u = both (P 1) _ t.1 in (both (P 2) (P 3) u.1).1
each P h (suc (suc (suc (suc a)))) l = absurd (omega arith)

pub each_pair : (P : ℕ → ℕ → Bool) → all4 (λ a. all4 (P a)) ≡ true → (a b : ℕ) → a ≤ 3 → b ≤ 3 → P a b ≡ true
each_pair P h a b k l = each (P a) (each (λ a. all4 (P a)) h a k) b l

pub each_triple :
    (P : ℕ → ℕ → ℕ → Bool) → all4 (λ a. all4 (λ b. all4 (P a b))) ≡ true
    → (a b c : ℕ) → a ≤ 3 → b ≤ 3 → c ≤ 3 → P a b c ≡ true
each_triple P h a b c k l m = each (P a b) (each_pair (λ a b. all4 (P a b)) h a b k l) c m
