-- The group lengths summed net by net: each start is that of the definition, and fits a u16.
use Prim.Native.Nat.{ℕ, ◌+◌, ◌*◌, ◌-◌, ◌≤◌, ◌<◌}
use mathlib.Core.Logic.{inl, inr}
use mathlib.Core.Path.{◌≡◌, refl, ap, ◌∙◌}
use mathlib.Core.List.{List}
use native.Mathlib.Decide.{dec_lt}
use borrow.Rule.Slice.PartMut.{mid_of, put_mid}
use Rattle.std.proofs.lemmas.Grind.{elements}
use native.Mathlib.Numerals.{add-one}
use native.Mathlib.Omega.{arith}
use lib.Dec.{lit≤}
use lib.ListN.{length, get_or, set, replicate}
use lib.Seq.{get_or-set_same, get_or-set_other}
use Rattle.image.specs.declared.image.Net.{Net}
use Rattle.image.specs.Image.{sizes_of, kind_at, net_at, nets_of}
use Rattle.image.specs.Pins.{pin_net, like_pin}
use Rattle.image.proofs.Nets.{net_in, length_nets}
use Rattle.image.proofs.Encoding.{nothing}
use Rattle.net_checking.proofs.Passes.{kind_most, Passes, is_const, is_input, is_reg, is_not, is_and, is_or, is_xor, is_mux, is_out}
use Rattle.std.proofs.Math.Option.{none}
use Rattle.checking.specs.Check.{check_refusal}
use Rattle.checking.proofs.Checked.{AllPass, nil, cons, Checked, net_passes, check_none}
use Rattle.groups.specs.Groups.{group_lengths, group_length, group_by, group_of}
use Rattle.doubled.specs.Doubled.{doubled_size, value_net, mark_net, value_pin, mark_pin, group_at}
use Rattle.doubled.specs.Starts.{Starts}
use Rattle.doubled.proofs.Positions.{below_or, two_to_eight, two_or_more, value_next, value_up}

-- THE LARGEST SIZE
-- net 0 has no pin below it: it is a CONST, an INPUT or a REG
first_is_two : {n : ℕ} {x : Net} → Passes n 0 x → group_length x.kind ≤ 2
unfolding group_length group_lengths
first_is_two (is_const h) = lit≤ tt
first_is_two is_input = lit≤ tt
first_is_two (is_reg h k) = lit≤ tt
first_is_two (is_not h) = absurd (omega arith)
first_is_two (is_and h k) = absurd (omega arith)
first_is_two (is_or h k) = absurd (omega arith)
first_is_two (is_xor h k) = absurd (omega arith)
first_is_two (is_mux h k l) = absurd (omega arith)
first_is_two (is_out h k) = absurd (omega arith)

size_most : {n i : ℕ} {xs : List Net} → AllPass n i xs → doubled_size xs ≤ 8 * length xs
unfolding doubled_size
size_most nil = omega arith
size_most (cons p ps) = omega (arith, (two_to_eight p).1, size_most ps)

-- no netlist of N nets doubles to more than 8 × N − 6
pub largest_size : {n : ℕ} {xs : List Net} → AllPass n 0 xs → 0 < length xs → doubled_size xs + 6 ≤ 8 * length xs
unfolding doubled_size
largest_size nil h = absurd (omega arith)
largest_size (cons p ps) h = omega (arith, first_is_two p, size_most ps)

later : {n : ℕ} {xs : List Net} → AllPass n 0 xs → 0 < length xs → (i : ℕ) → 0 < value_net xs (i + 1)
unfolding value_net doubled_size
later nil h i = absurd (omega arith)
later (cons p ps) h i = rw (add-one i) (omega (arith, two_or_more p))

module _ {s : List ℕ} (c : Checked s) where
  pub starts_fit : (i : ℕ) → value_net (nets_of s) i < 65536
  starts_fit i =
      omega (arith, value_up (nets_of s) i, largest_size c.nets (omega (arith, c.some_nets, length_nets s)), length_nets s, c.few_nets)

  -- every group ends behind net 0
  pub start_positive : (i : ℕ) → 0 < value_net (nets_of s) (i + 1)
  start_positive i = later c.nets (omega (arith, c.some_nets, length_nets s)) i

  -- a group ends with its mark net
  pub mark_end : (i : ℕ) → mark_net (nets_of s) i + 1 ≡ value_net (nets_of s) (i + 1)
  unfolding mark_net value_net
  mark_end i = rw (add-one i) (let h = rw (add-one i) at (start_positive i) in omega (arith, h))

  -- the kind of a net, which is its place in a table by kind
  pub kind_small : {n : ℕ} (i : ℕ) → n ≡ (sizes_of s).nets → i < n → kind_at s i < 9
  unfolding net_at
  kind_small {n} i e h = let p : kind_at s i ≤ 8 = kind_most (net_passes c e i h) in omega arith

  -- one net further
  pub next_start : {n : ℕ} (i : ℕ) → n ≡ (sizes_of s).nets → i < n → value_net (nets_of s) (i + 1) ≡ value_net (nets_of s) i + group_length (kind_at s i)
  unfolding net_at
  next_start {n} i e h =
      let x = net_in s n i nothing e h in
      rw (add-one i) (rw x at (value_next (nets_of s) i (omega (arith, length_nets s))))

-- what an accepted image has: its length by its nets, few of these, each of a kind, and starts that fit a u16
module _ (s : List ℕ) (h : check_refusal s ≡ none) where
  pub accepted_length : length s ≡ 8 + 7 * (sizes_of s).nets
  accepted_length = omega (arith, ((check_none s).0 h).exact)

  pub accepted_few : (sizes_of s).nets ≤ 8192
  accepted_few = ((check_none s).0 h).few_nets

  pub accepted_kind : (i : ℕ) → i < (sizes_of s).nets → kind_at s i < 9
  accepted_kind i l = kind_small ((check_none s).0 h) i refl l

  pub accepted_fits : (i : ℕ) → value_net (nets_of s) i < 65536
  accepted_fits i = starts_fit ((check_none s).0 h) i

pub ruleset accepted = (accepted_length, accepted_few, accepted_kind, accepted_fits)

-- SUMMED. The starts to net i stand in an array
abbrev pub Summed : List ℕ → List Net → ℕ → Type 0
Summed t xs i = (j : ℕ) → j ≤ i → get_or t j 0 ≡ value_net xs j

pub start_zero : (xs : List Net) → value_net xs 0 ≡ 0
unfolding value_net doubled_size
start_zero xs = refl

pub summed_begins : (xs : List Net) → Summed (replicate 8193 0) xs 0
summed_begins xs j h = let e : j ≡ 0 = omega arith in rw (e, start_zero xs)

pub summed_next : (t : List ℕ) (xs : List Net) (i v : ℕ) → Summed t xs i → i + 1 < length t → v ≡ value_net xs (i + 1) → Summed (set t (i + 1) v) xs (i + 1)
summed_next t xs i v h l e j k =
    elim (below_or j (i + 1) (omega arith)) [
      | inl m ↦ get_or-set_other t (i + 1) j v 0 (λ f. omega arith) ∙ h j (omega arith)
      | inr m ↦ rw m (get_or-set_same t (i + 1) v 0 l ∙ e)
    ]

-- behind the last net, the rest of the array is filled with the size
pub summed_filled : (t : List ℕ) (xs : List Net) (n size m : ℕ) → Summed t xs n → length t ≡ m → n < m → ((j : ℕ) → n ≤ j → size ≡ value_net xs j) → {rest : List ℕ}
    → rest ≡ replicate (length (mid_of (n + 1) (m - (n + 1)) t)) size → (j : ℕ) → j < m → get_or (put_mid (n + 1) (m - (n + 1)) t rest) j 0 ≡ value_net xs j
summed_filled t xs n size m h l k e f j b =
    elim (dec_lt j (n + 1)) [
      | yes c ↦ grind (arith, elements, h j (omega arith))
      | no c ↦ rw f (grind (arith, elements, e j (omega arith)))
    ]

-- PINS. The value net and the mark net of net i, as the starts give them; and so what a pin becomes
pub pair_is : (t : List ℕ) (xs : List Net) → Starts t xs → (i : ℕ) → i < 8192 → (get_or t i 0 ≡ value_net xs i) × (get_or t (i + 1) 0 - 1 ≡ mark_net xs i)
unfolding mark_net value_net
pair_is t xs h i l = (h i (omega arith), rw (h (i + 1) (omega arith), add-one i))

pub pins_are : (t : List ℕ) (xs : List Net) → Starts t xs → (p : ℕ) → pin_net p < 8192
    → (like_pin p (get_or t (pin_net p) 0) ≡ value_pin xs p) × (get_or t (pin_net p + 1) 0 - 1 ≡ mark_pin xs p)
unfolding value_pin mark_pin
pins_are t xs h p l = let e = pair_is t xs h (pin_net p) l in (ap (like_pin p) e.0, e.1)

-- the group of x, net i of xs, from numbers that are its own value net and what each pin becomes
pub group_pinned : (xs : List Net) (i : ℕ) (x : Net) {v va ta vb tb vc tc : ℕ} → v ≡ value_net xs i
    → va ≡ value_pin xs x.a → ta ≡ mark_pin xs x.a → vb ≡ value_pin xs x.b → tb ≡ mark_pin xs x.b → vc ≡ value_pin xs x.c → tc ≡ mark_pin xs x.c
    → group_by v x va ta vb tb vc tc ≡ group_at xs i x
unfolding group_of
group_pinned xs i x v va ta vb tb vc tc = λ j. group_by (v j) x (va j) (ta j) (vb j) (tb j) (vc j) (tc j)
