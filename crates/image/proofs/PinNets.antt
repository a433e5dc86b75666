-- What a pin names, and its top bit: in numbers of 16 bits, of a pin without the bit, and of a pin that is like another.
use Prim.Native.Nat.{ℕ, ◌+◌, ◌-◌, ◌/◌, ◌%◌, ◌≤◌, ◌<◌}
use native.Mathlib.Omega.{arith}
use mathlib.Core.Path.{◌≡◌, refl}
use mathlib.Core.Bool.{Bool, true, false, cond}
use lib.Dec.{eqb, leb, lit<}
use borrow.Author.Tests.{eq-eqb, ne_eqb, leb-true, leb-false, le-leb, lt-leb}
use Rattle.image.specs.Pins.{inverted, pin_net, like_pin}

-- a pin is a net's number, or 32,768 more
pub plain_net : {p : ℕ} → p < 32768 → pin_net p ≡ p
unfolding pin_net
plain_net {p} h = rw (lt-leb 32768 p h)

pub zero_net : pin_net 0 ≡ 0
zero_net = plain_net (lit< tt)

pub one_net : pin_net 1 ≡ 1
one_net = plain_net (lit< tt)

pub plain_pin : {p : ℕ} → p < 32768 → inverted p ≡ false
plain_pin {p} h = lt-leb 32768 p h

pub top_net : (j : ℕ) → pin_net (32768 + j) ≡ j
unfolding pin_net
top_net j = let e : 32768 + j - 32768 ≡ j = omega arith in rw (le-leb 32768 (32768 + j) (omega arith), e)

pub top_pin : (j : ℕ) → inverted (32768 + j) ≡ true
top_pin j = le-leb 32768 (32768 + j) (omega arith)

-- by the top bit
module _ (P : ℕ → Type 0) (plain : (p : ℕ) → p < 32768 → P p) (top : (j : ℕ) → P (32768 + j)) where
  by_flag : (p : ℕ) (b : Bool) → leb 32768 p ≡ b → P p
  by_flag p true e = let h = leb-true 32768 p e in let o : p ≡ 32768 + (p - 32768) = omega arith in rw o (top (p - 32768))
  by_flag p false e = plain p (leb-false 32768 p e)

  pub by_pin : (p : ℕ) → P p
  by_pin p = by_flag p (leb 32768 p) refl

-- IN 16 BITS
pub net_most : (p : ℕ) → pin_net p ≤ p
net_most = by_pin (λ p. pin_net p ≤ p) (λ p h. rw (plain_net h) (omega arith)) (λ j. rw (top_net j) (omega arith))

pub pin_most : (p : ℕ) → p ≤ 32768 + pin_net p
pin_most = by_pin (λ p. p ≤ 32768 + pin_net p) (λ p h. rw (plain_net h) (omega arith)) (λ j. rw (top_net j) (omega arith))

pub net_rest : (p : ℕ) → p < 65536 → p % 32768 ≡ pin_net p
net_rest = by_pin (λ p. p < 65536 → p % 32768 ≡ pin_net p) (λ p h l. rw (plain_net h) (omega arith)) (λ j l. rw (top_net j) (omega arith))

pub top_digit : (p : ℕ) → p < 65536 → eqb (p / 32768) 1 ≡ inverted p
top_digit =
    by_pin (λ p. p < 65536 → eqb (p / 32768) 1 ≡ inverted p)
    (λ p h l. rw (plain_pin h) (ne_eqb (p / 32768) 1 (λ e. omega arith)))
    (λ j l. rw (top_pin j) (eq-eqb ((32768 + j) / 32768) 1 (omega arith)))

-- LIKE ANOTHER PIN
pub like_most : (p j : ℕ) → like_pin p j ≤ 32768 + j
unfolding like_pin
like_most p j = by_bit (inverted p)
  where
    by_bit : (b : Bool) → cond b (32768 + j) j ≤ 32768 + j
    by_bit true = omega arith
    by_bit false = omega arith

pub like_rest : (p j : ℕ) → like_pin p j ≡ p - pin_net p + j
like_rest p j =
    by_pin (λ p. like_pin p j ≡ p - pin_net p + j)
    (λ p h. unfold like_pin in rw (plain_pin h, plain_net h) (omega arith))
    (λ k. unfold like_pin in rw (top_pin k, top_net k) (omega arith))
    p

pub like_net : (p j : ℕ) → j < 32768 → pin_net (like_pin p j) ≡ j
like_net p j h =
    by_pin (λ p. pin_net (like_pin p j) ≡ j)
    (λ p l. unfold like_pin in rw (plain_pin l) (plain_net h))
    (λ k. unfold like_pin in rw (top_pin k) (top_net j))
    p

pub like_pin_lem : (p j : ℕ) → j < 32768 → inverted (like_pin p j) ≡ inverted p
like_pin_lem p j h =
    by_pin (λ p. inverted (like_pin p j) ≡ inverted p)
    (λ p l. unfold like_pin in rw (plain_pin l) (plain_pin h))
    (λ k. unfold like_pin in rw (top_pin k) (top_pin j))
    p

-- without the bit of its own
pub like_low : (p j : ℕ) → pin_net (like_pin p j) ≤ j
like_low p j =
    by_pin (λ p. pin_net (like_pin p j) ≤ j)
    (λ p l. unfold like_pin in rw (plain_pin l) (net_most j))
    (λ k. unfold like_pin in rw (top_pin k) (rw (top_net j) (omega arith)))
    p
