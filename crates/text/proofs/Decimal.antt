-- The fewest digits that hold a number are its decimal digits.
use Prim.Native.Nat.{ℕ, zero, suc, ◌+◌, ◌-◌, ◌*◌, ◌/◌, ◌%◌, ◌^◌, ◌≤◌, ◌<◌}
use native.Mathlib.Omega.{arith}
use native.Mathlib.Nat.{pow-suc, pow-le-pow_right}
use mathlib.Core.Path.{◌≡◌, refl}
use mathlib.Core.List.{List, [], ◌∷◌, ◌++◌}
use mathlib.Core.Bool.{Bool, true, false, cond}
use lib.Dec.{leb, ltb}
use lib.ListN.{length, get_or, length-append}
use borrow.Author.Tests.{leb-true, leb-false, ltb-true, ltb-false, lt-ltb}
use Rattle.text.specs.Decimal.{digits_up_to, decimal}
use Rattle.io.specs.Digits.{hex_digit_ascii, last_digits, IsDigitCount}

-- a power of ten
power : (k : ℕ) → 10 ^ suc k ≡ 10 ^ k * 10
power k = pow-suc 10 k

power_most : (k : ℕ) → 1 ≤ 10 ^ k
power_most zero = omega arith
power_most (suc k) = omega (arith, power k, power_most k)

-- the sign of a digit
sign : (d : ℕ) → d < 10 → hex_digit_ascii d ≡ 48 + d
sign d h = rw (lt-ltb d 10 h)

-- a number below 10 has one digit, and any other has one digit more than its tenth
one_digit : (k n : ℕ) → n < 10 → IsDigitCount 10 1 n (suc k) → k ≡ 0
one_digit zero n h f = refl
one_digit (suc k) n h f =
    let e : suc (suc k) - 1 ≡ suc k = omega arith in
    let l = rw e at (f.2 (omega arith)) in
    absurd (omega (arith, l, power k, power_most k))

tenth : (k n : ℕ) → 10 ≤ n → IsDigitCount 10 1 n (suc k) → IsDigitCount 10 1 (n / 10) k
tenth zero n h f = let l = f.1 in let p = power 0 in absurd (omega arith)
tenth (suc k) n h f =
    let e : suc (suc k) - 1 ≡ suc k = omega arith in
    let d : suc k - 1 ≡ k = omega arith in
    let m = rw e at (f.2 (omega arith)) in
    (omega arith, omega (arith, f.1, power (suc k)), λ l. rw d (omega (arith, m, power k)))

fewest_digits : (most k n : ℕ) → k ≤ most → IsDigitCount 10 1 n k → last_digits 10 k n ≡ digits_up_to most n
unfolding digits_up_to
fewest_digits most zero n h f = absurd (omega (arith, f.0))
fewest_digits zero (suc k) n h f = absurd (omega arith)
fewest_digits (suc most) (suc k) n h f = by (ltb n 10) refl (λ l. fewest_digits most k (n / 10) (omega arith) (tenth k n l f))
  where
    by : (b : Bool) → ltb n 10 ≡ b → (10 ≤ n → last_digits 10 k (n / 10) ≡ digits_up_to most (n / 10))
        → last_digits 10 k (n / 10) ++ (hex_digit_ascii (n % 10) ∷ []) ≡ cond b ((48 + n) ∷ []) (digits_up_to most (n / 10) ++ ((48 + n % 10) ∷ []))
    by true e rest =
        let l = ltb-true n 10 e in
        let m : n % 10 ≡ n = omega arith in
        rw (one_digit k n l f, m, sign n l)
    by false e rest = rw (rest (ltb-false n 10 e), sign (n % 10) (omega arith))

-- a u64 has at most 20 digits
few_digits : (k n : ℕ) → n < 2 ^ 64 → IsDigitCount 10 1 n k → k ≤ 20
few_digits k n h f = by (leb k 20) refl
  where
    by : (b : Bool) → leb k 20 ≡ b → k ≤ 20
    by true e = leb-true k 20 e
    by false e =
        let l = leb-false k 20 e in
        let m = f.2 (omega arith) in
        let p : 10 ^ 20 ≤ 10 ^ (k - 1) = pow-le-pow_right {n = 10} (omega arith) {i = 20} {j = k - 1} (omega arith) in
        absurd (omega arith)

pub decimal_is : (k n : ℕ) → n < 2 ^ 64 → IsDigitCount 10 1 n k → last_digits 10 k n ≡ decimal n
unfolding decimal
decimal_is k n h f = fewest_digits 20 k n (few_digits k n h f) f

-- the definition gives no more digits than its limit
digits_most : (most n : ℕ) → length (digits_up_to most n) ≤ most
unfolding digits_up_to
digits_most zero n = omega arith
digits_most (suc most) n = by (ltb n 10) (digits_most most (n / 10))
  where
    by : (b : Bool) → length (digits_up_to most (n / 10)) ≤ most → length (cond b ((48 + n) ∷ []) (digits_up_to most (n / 10) ++ ((48 + n % 10) ∷ []))) ≤ suc most
    by true h = omega arith
    by false h = omega (arith, length-append (digits_up_to most (n / 10)) ((48 + n % 10) ∷ []))

pub decimal_most : (n : ℕ) → length (decimal n) ≤ 20
unfolding decimal
decimal_most n = digits_most 20 n

-- a number below a power of ten has no more digits than that power
digits_few : (most d n : ℕ) → 1 ≤ d → n < 10 ^ d → length (digits_up_to most n) ≤ d
unfolding digits_up_to
digits_few zero d n some h = omega arith
digits_few (suc most) zero n some h = absurd (omega arith)
digits_few (suc most) (suc d) n some h = by (ltb n 10) refl (λ l. digits_few most d (n / 10) (more d h l) (omega (arith, power d)))
  where
    more : (d : ℕ) → n < 10 ^ suc d → 10 ≤ n → 1 ≤ d
    more zero h l = absurd (omega (arith, power 0))
    more (suc d) h l = omega arith

    by : (b : Bool) → ltb n 10 ≡ b → (10 ≤ n → length (digits_up_to most (n / 10)) ≤ d)
        → length (cond b ((48 + n) ∷ []) (digits_up_to most (n / 10) ++ ((48 + n % 10) ∷ []))) ≤ suc d
    by true e rest = omega arith
    by false e rest = omega (arith, rest (ltb-false n 10 e), length-append (digits_up_to most (n / 10)) ((48 + n % 10) ∷ []))

pub decimal_few : (d n : ℕ) → 1 ≤ d → n < 10 ^ d → length (decimal n) ≤ d
unfolding decimal
decimal_few d n some h = digits_few 20 d n some h

-- each digit is a printed character
digits_printed : (most n i : ℕ) → i < length (digits_up_to most n) → 48 ≤ get_or (digits_up_to most n) i 0
unfolding digits_up_to
digits_printed zero n i h = absurd (omega arith)
digits_printed (suc most) n i h = by (ltb n 10) i h (digits_printed most (n / 10))
  where
    last : (xs : List ℕ) (d i : ℕ) → 48 ≤ d → i < length (xs ++ d ∷ []) → ((j : ℕ) → j < length xs → 48 ≤ get_or xs j 0) → 48 ≤ get_or (xs ++ d ∷ []) i 0
    last [] d zero l h rest = l
    last [] d (suc i) l h rest = absurd (omega arith)
    last (x ∷ xs) d zero l h rest = rest 0 (omega arith)
    last (x ∷ xs) d (suc i) l h rest = last xs d i l (omega arith) (λ j m. rest (suc j) (omega arith))

    by : (b : Bool) (i : ℕ) → i < length (cond b ((48 + n) ∷ []) (digits_up_to most (n / 10) ++ ((48 + n % 10) ∷ [])))
        → ((j : ℕ) → j < length (digits_up_to most (n / 10)) → 48 ≤ get_or (digits_up_to most (n / 10)) j 0)
        → 48 ≤ get_or (cond b ((48 + n) ∷ []) (digits_up_to most (n / 10) ++ ((48 + n % 10) ∷ []))) i 0
    by true zero h rest = omega arith
    by true (suc i) h rest = absurd (omega arith)
    by false i h rest = last (digits_up_to most (n / 10)) (48 + n % 10) i (omega arith) h rest

pub decimal_printed : (n i : ℕ) → i < length (decimal n) → 48 ≤ get_or (decimal n) i 0
unfolding decimal
decimal_printed n i h = digits_printed 20 n i h
