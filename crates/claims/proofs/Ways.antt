-- Ways are counted as one counts them on a drawing: the bound on their pins leaves none out.
use Prim.Native.Nat.{ℕ, zero, suc, ◌+◌, ◌<◌}
use native.Mathlib.Omega.{arith}
use mathlib.Core.Path.{◌≡◌, refl, ap, ap₂}
use mathlib.Core.List.{List, map}
use mathlib.Core.Bool.{cond}
use lib.Dec.{eqb}
use borrow.Author.Tests.{eq-eqb, ne_eqb, le-leb, lt-leb}
use Rattle.gates.specs.Kinds.{NOT, AND, MUX, OUT}
use Rattle.image.specs.declared.image.Net.{Net}
use Rattle.image.specs.Image.{sizes_of}
use Rattle.image.specs.Pins.{pin_net}
use Rattle.image.proofs.Nets.{net_in}
use Rattle.net_checking.proofs.Passes.{Passes, is_const, is_input, is_reg, is_not, is_and, is_or, is_xor, is_mux, is_out}
use Rattle.checking.proofs.Checked.{Checked, check_none, net_passes}
use Rattle.claims.specs.Reading.{net_of}
use Rattle.claims.specs.Ways.{pins_of, sum, ways_below, ways, WaysCounted, WaysCountedAll}
use Rattle.claims.proofs.Circuits.{Below, nil, cons}

pub pins_below : {n i : ℕ} {x : Net} → Passes n i x → Below i (pins_of x)
unfolding pins_of
pins_below (is_const h) = nil
pins_below is_input = nil
pins_below (is_reg h k) = nil
pins_below (is_not h) = cons h nil
pins_below (is_and h k) = cons h (cons k nil)
pins_below (is_or h k) = cons h (cons k nil)
pins_below (is_xor h k) = cons h (cons k nil)
pins_below (is_mux h k l) = cons h (cons k (cons l nil))
pins_below (is_out h k) = cons h nil

same_sum : {i : ℕ} {ps : List ℕ} (f g : ℕ → ℕ) → ((p : ℕ) → p < i → f p ≡ g p) → Below i ps
    → sum (map (λ p. f (pin_net p)) ps) ≡ sum (map (λ p. g (pin_net p)) ps)
same_sum f g e nil = refl
same_sum f g e (cons {p} l b) = ap₂ ◌+◌ (e (pin_net p) l) (same_sum f g e b)

module _ {s : List ℕ} (c : Checked s) where
  pub passes : (i : ℕ) → i < (sizes_of s).nets → Passes (sizes_of s).nets i (net_of s i)
  passes i h = rw (net_in s _ i _ refl h) (net_passes c refl i h)

  -- whatever bound above the net's number is taken
  any_bound : (m n j i : ℕ) → i < (sizes_of s).nets → i < m → i < n → ways_below s m j i ≡ ways_below s n j i
  unfolding ways_below
  any_bound zero n j i h l k = absurd (omega arith)
  any_bound (suc m) zero j i h l k = absurd (omega arith)
  any_bound (suc m) (suc n) j i h l k =
      ap (cond (eqb i j) 1)
      (same_sum (ways_below s m j) (ways_below s n j) (λ p q. any_bound m n j p (omega arith) (omega arith) (omega arith)) (pins_below (passes i h)))

  pub ways_step : (j i : ℕ) → i < (sizes_of s).nets → ways s j i ≡ cond (eqb i j) 1 (sum (map (λ p. ways s j (pin_net p)) (pins_of (net_of s i))))
  unfolding ways ways_below
  ways_step j i h = any_bound (sizes_of s).nets (suc (sizes_of s).nets) j i h h (omega arith)

-- by the kind of the net
by_kind : (s : List ℕ) (j i : ℕ) (x : Net) → ways s j i ≡ cond (eqb i j) 1 (sum (map (λ p. ways s j (pin_net p)) (pins_of x))) → WaysCounted s j i x
unfolding pins_of
by_kind s j i x e =
    let k = x.kind in
    record {
      itself = λ h. rw (eq-eqb i j h) at e;
      no_pin = λ n h. rw (ne_eqb i j n, lt-leb NOT k (omega arith), lt-leb AND k (omega arith), ne_eqb k MUX (λ o. omega arith)) at e;
      not = λ n h. omega (arith, rw (ne_eqb i j n, h) at e);
      two_pins = λ n h l.
          omega (
            arith,
            rw (ne_eqb i j n, le-leb NOT k (omega arith), le-leb k OUT (omega arith), le-leb AND k h, le-leb k MUX (omega arith), ne_eqb k MUX (λ o. omega arith)) at e,
          );
      mux = λ n h. omega (arith, rw (ne_eqb i j n, h) at e);
      out = λ n h. omega (arith, rw (ne_eqb i j n, h) at e);
    }

pub ways_counted : WaysCountedAll
ways_counted s a j i h = by_kind s j i (net_of s i) (ways_step ((check_none s).0 a) j i h)
