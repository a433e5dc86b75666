-- No netlist of N nets doubles to more than 8 × N − 6, and a CONST with N − 1 ORs doubles to that many.
use Prim.Native.Nat.{ℕ, zero, suc, ◌+◌, ◌*◌, ◌-◌, ◌≤◌, ◌<◌}
use mathlib.Core.Path.{◌≡◌, refl, sym, ◌∙◌}
use mathlib.Core.Bool.{false}
use native.Mathlib.Omega.{arith}
use lib.Dec.{eqb, lit≤, lit<}
use lib.ListN.{length, replicate, length-replicate}
use Rattle.gates.specs.Kinds.{CONST, INPUT, REG, OR, OUT}
use Rattle.image.specs.Image.{sizes_of, net, nets_of, count}
use Rattle.image.specs.Pins.{pin_net}
use Rattle.image.proofs.PinNets.{zero_net}
use Rattle.image.proofs.Nets.{length_nets}
use Rattle.image.proofs.Pairs.{pairs_get_or}
use Rattle.image.proofs.Encoding.{encode_length, sizes_back, nets_back, Bytes}
use Rattle.net_checking.proofs.Passes.{is_const, is_or}
use Rattle.checking.proofs.Checked.{AllPass, nil, cons, Checked, check_none}
use Rattle.checking.proofs.Encoded.{encode_bytes}
use Rattle.groups.specs.Groups.{group_lengths, group_length}
use Rattle.doubled.specs.Doubled.{doubled_size}
use Rattle.doubled.proofs.Positions.{doubled_length}
use Rattle.doubled.proofs.Sums.{largest_size}
use Rattle.claims.specs.Bound.{SizeBound, const_and_ors, ors_image, BoundReached}

pub size_bound : SizeBound
size_bound s h =
    let c = (check_none s).0 h in
    let l = length_nets s in
    omega (arith, doubled_length (nets_of s), largest_size c.nets (omega (arith, c.some_nets)))

-- THE ORS: they pass behind net 0, none is of another kind, and each has a group of eight
ors_pass : (n i k : ℕ) → 0 < i → AllPass n i (replicate k (net OR 0 0 0))
ors_pass n i zero h = nil
ors_pass n i (suc k) h = let named : pin_net 0 < i = rw zero_net h in cons (is_or named named) (ors_pass n (suc i) k (omega arith))

ors_count : (k j : ℕ) → eqb OR j ≡ false → count j (replicate k (net OR 0 0 0)) ≡ 0
unfolding count
ors_count zero j e = refl
ors_count (suc k) j e = rw (e, ors_count k j e)

ors_size : (k : ℕ) → doubled_size (replicate k (net OR 0 0 0)) ≡ 8 * k
unfolding doubled_size group_length group_lengths
ors_size zero = refl
ors_size (suc k) = omega (arith, ors_size k)

-- THE NETLIST, with the CONST before them
module _ (n : ℕ) (some : 1 ≤ n) where
  all_length : length (const_and_ors n) ≡ n
  unfolding const_and_ors
  all_length = omega (arith, length-replicate (n - 1) (net OR 0 0 0))

  all_pass : AllPass n 0 (const_and_ors n)
  unfolding const_and_ors
  all_pass = cons (is_const (lit≤ tt)) (ors_pass n 1 (n - 1) (lit< tt))

  all_count : (j : ℕ) → eqb CONST j ≡ false → eqb OR j ≡ false → count j (const_and_ors n) ≡ 0
  unfolding const_and_ors count
  all_count j e f = rw (e, ors_count (n - 1) j f)

  all_size : doubled_size (const_and_ors n) + 6 ≡ 8 * n
  unfolding const_and_ors doubled_size group_length group_lengths
  all_size = omega (arith, ors_size (n - 1))

  -- ITS IMAGE
  image_sizes : sizes_of (ors_image n) ≡ record { nets = n; inputs = 0; registers = 0; outputs = 0 }
  unfolding ors_image
  image_sizes = sizes_back _ _

  image_nets : nets_of (ors_image n) ≡ const_and_ors n
  unfolding ors_image
  image_nets = nets_back _ _ (sym all_length)

  image_length : length (ors_image n) ≡ 8 + 7 * n
  unfolding ors_image
  image_length = encode_length _ (const_and_ors n) ∙ rw all_length

  image_checked : n ≤ 8192 → Checked (ors_image n)
  image_checked few =
      let sizes = image_sizes in
      let nets = image_nets in
      record {
        some_nets = rw sizes some;
        few_nets = rw sizes few;
        exact = rw sizes image_length;
        nets = rw (sizes, nets) all_pass;
        inputs = rw (sizes, nets) (sym (all_count INPUT refl refl));
        registers = rw (sizes, nets) (sym (all_count REG refl refl));
        outputs = rw (sizes, nets) (sym (all_count OUT refl refl));
      }

  image_bytes : n ≤ 8192 → Bytes (ors_image n)
  unfolding ors_image
  image_bytes few = encode_bytes few (rw all_length few) all_pass (omega arith) (lit< tt) (lit< tt) (lit< tt)

pub bound_reached : BoundReached
bound_reached n some few =
    record {
      accepted = (check_none (ors_image n)).1 (image_checked n some few);
      nets = rw (image_sizes n some);
      bytes = λ p. pairs_get_or p 0 (lit< tt) (image_bytes n some few);
      size = rw (image_nets n some, doubled_length) (all_size n some);
    }
