-- Nets that stand with their inverses: a byte that is put changes one net, all others keep their inverses, and a pin is the place of what it reads.
use Prim.Native.Nat.{ℕ, suc, ◌+◌, ◌≤◌, ◌<◌}
use native.Mathlib.Omega.{arith}
use mathlib.Core.Logic.{⊎_elim}
use mathlib.Core.Path.{◌≡◌, sym, ap, ◌∙◌}
use mathlib.Core.List.{List}
use mathlib.Core.Bool.{Bool, true, false, cond}
use lib.Dec.{lit≤}
use lib.ListN.{length, get_or, set, length-set}
use lib.Seq.{get_or-set_same, get_or-set_other}
use Rattle.gates.specs.Kinds.{NOT}
use Rattle.unknowns.specs.Widths.{rule_by, code_by}
use Rattle.image.specs.Pins.{inverted, pin_net}
use Rattle.image.proofs.PinNets.{by_pin, plain_net, plain_pin, top_net, top_pin}
use Rattle.unknowns.proofs.ByWidth.{const_code, rule_code}
use Rattle.cycle.specs.Cycle.{pin_byte}
use Rattle.cycle.proofs.Deciding.{same_or_not}
use Rattle.inverses.specs.Inverses.{put_pair, put_both, Both}

-- PUTTING a code
pub put_size : (bs : List ℕ) (i x y : ℕ) → length (put_pair bs i x y) ≡ length bs
unfolding put_pair
put_size bs i x y = length-set (set bs i x) (32768 + i) y ∙ length-set bs i x

pub put_other : (bs : List ℕ) (i x y : ℕ) {j : ℕ} → j < 32768 → (j ≡ i → ⊥) → get_or (put_pair bs i x y) j 0 ≡ get_or bs j 0
unfolding put_pair
put_other bs i x y {j} h o = get_or-set_other (set bs i x) (32768 + i) j y 0 (λ e. omega arith) ∙ get_or-set_other bs i j x 0 o

module _ (bs : List ℕ) (i x y : ℕ) (h : i < 32768) (l : 32768 + i < length bs) where
  pub put_here : get_or (put_pair bs i x y) i 0 ≡ x
  unfolding put_pair
  put_here = get_or-set_other (set bs i x) (32768 + i) i y 0 (λ e. omega arith) ∙ get_or-set_same bs i x 0 (omega arith)

  inverse_here : get_or (put_pair bs i x y) (32768 + i) 0 ≡ y
  unfolding put_pair
  inverse_here = get_or-set_same (set bs i x) (32768 + i) y 0 (rw length-set l)

  inverse_other : {j : ℕ} → (j ≡ i → ⊥) → get_or (put_pair bs i x y) (32768 + j) 0 ≡ get_or bs (32768 + j) 0
  unfolding put_pair
  inverse_other {j} o = get_or-set_other (set bs i x) (32768 + i) (32768 + j) y 0 (λ e. o (omega arith)) ∙ get_or-set_other bs i (32768 + j) x 0 (λ e. omega arith)

-- a net stands with its inverse where it did before, and net i does
module _ (w : ℕ) (bs : List ℕ) (i x : ℕ) (h : i < 32768) (l : 32768 + i < length bs) (code : code_by w x ≡ true) where
  abbrev z : ℕ
  z = rule_by w NOT x 0 0

  put_code : {j : ℕ} → j < 32768 → ((j ≡ i → ⊥) → code_by w (get_or bs j 0) ≡ true) → code_by w (get_or (put_both w bs i x) j 0) ≡ true
  put_code {j} small before =
      ⊎_elim
      (λ e. let g : get_or (put_both w bs i x) j 0 ≡ x = ap (λ k. get_or (put_both w bs i x) k 0) e ∙ put_here bs i x z h l in rw g code)
      (λ o. rw (put_other bs i x z small o) (before o))
      (same_or_not j i)

  put_inverse : {j : ℕ} → j < 32768 → ((j ≡ i → ⊥) → get_or bs (32768 + j) 0 ≡ rule_by w NOT (get_or bs j 0) 0 0)
      → get_or (put_both w bs i x) (32768 + j) 0 ≡ rule_by w NOT (get_or (put_both w bs i x) j 0) 0 0
  put_inverse {j} small before =
      ⊎_elim
      (λ e.
      let at : get_or (put_both w bs i x) (32768 + j) 0 ≡ z = ap (λ k. get_or (put_both w bs i x) (32768 + k) 0) e ∙ inverse_here bs i x z h l in
      let g : get_or (put_both w bs i x) j 0 ≡ x = ap (λ k. get_or (put_both w bs i x) k 0) e ∙ put_here bs i x z h l in
      at ∙ ap (λ y. rule_by w NOT y 0 0) (sym g))
      (λ o. inverse_other bs i x z h l o ∙ before o ∙ ap (λ y. rule_by w NOT y 0 0) (sym (put_other bs i x z small o)))
      (same_or_not j i)

  pub put_keeps : {n : ℕ} → n ≤ 32768 → Both w bs n → Both w (put_both w bs i x) n
  put_keeps m b =
      record {
        codes = λ j k. put_code (omega arith) (λ o. b.codes j k);
        inverses = λ j k. put_inverse (omega arith) (λ o. b.inverses j k);
      }

  pub put_next : Both w bs i → Both w (put_both w bs i x) (suc i)
  put_next b =
      record {
        codes = λ j k. put_code (omega arith) (λ o. b.codes j (omega arith));
        inverses = λ j k. put_inverse (omega arith) (λ o. b.inverses j (omega arith));
      }

-- A PIN is the place of what it reads, which is a code
pub pin_place : {w : ℕ} {bs : List ℕ} {n : ℕ} → Both w bs n → (p : ℕ) → pin_net p < n → get_or bs p 0 ≡ pin_byte (rule_by w) bs p
pin_place {w} {bs} {n} b =
    by_pin (λ p. pin_net p < n → get_or bs p 0 ≡ pin_byte (rule_by w) bs p)
    (λ p h l. unfold pin_byte in rw (plain_pin h, plain_net h))
    (λ j l. let m = rw (top_net j) at l in unfold pin_byte in rw (top_pin j, top_net j) (b.inverses j m))

pub pin_code : (w : ℕ) (bs : List ℕ) (p : ℕ) → code_by w (get_or bs (pin_net p) 0) ≡ true → code_by w (pin_byte (rule_by w) bs p) ≡ true
unfolding pin_byte
pin_code w bs p h = by_flag (inverted p)
  where
    x : ℕ
    x = get_or bs (pin_net p) 0

    by_flag : (b : Bool) → code_by w (cond b (rule_by w NOT x 0 0) x) ≡ true
    by_flag true = let z = const_code w 0 (lit≤ tt) in rule_code w NOT x 0 0 h z z
    by_flag false = h
