-- Group after group: what a pass over the nets has left to write at net i, and that each group ends within the image.
use Prim.Native.Nat.{ℕ, suc, ◌+◌, ◌*◌, ◌≤◌, ◌<◌}
use mathlib.Core.Path.{◌≡◌, refl, ◌∙◌}
use mathlib.Core.List.{List}
use native.Mathlib.Numerals.{add-one}
use native.Mathlib.Omega.{arith}
use lib.ListN.{length, get_or}
use lib.Seq.{sets}
use Rattle.std.proofs.Math.Option.{none}
use Rattle.gates.specs.Kinds.{INPUT, REG, OUT}
use Rattle.image.specs.declared.image.Net.{Net}
use Rattle.image.specs.Image.{sizes_of, kind_at, net_at, nets_of, size_bytes}
use Rattle.image.specs.Pins.{pin_net}
use Rattle.image.specs.Writing.{put_nets}
use Rattle.image.proofs.Nets.{nets_left, nets_next}
use Rattle.image.proofs.Written.{puts_append, written}
use Rattle.net_checking.proofs.Passes.{kind_most, Small, operands_small}
use Rattle.checking.specs.Check.{check_refusal}
use Rattle.checking.proofs.Checked.{Checked, net_passes, check_none, few_of}
use Rattle.groups.specs.Groups.{group_length}
use Rattle.doubled.specs.Doubled.{group_at, groups_from, doubled_size, value_net, doubled_nets}
use Rattle.doubled.specs.Starts.{Starts}
use Rattle.doubled.proofs.Positions.{group_length_lem, doubled_length, value_up}
use Rattle.doubled.proofs.Sums.{next_start, start_positive}
use Rattle.doubling.specs.Doubling.{paired_sizes, doubled_image}

-- an accepted image s of n nets, and its net i
module _ {s : List ℕ} (c : Checked s) {n : ℕ} (e : n ≡ (sizes_of s).nets) (i : ℕ) (h : i < n) where
  -- its group is the next to write
  pub one_group : (d : List ℕ) (m : ℕ)
      → put_nets d m (value_net (nets_of s) i) (groups_from (nets_of s) i (nets_left s n i))
      ≡ put_nets (put_nets d m (value_net (nets_of s) i) (group_at (nets_of s) i (net_at s n i))) m (value_net (nets_of s) (i + 1))
      (groups_from (nets_of s) (i + 1) (nets_left s n (i + 1)))
  unfolding groups_from net_at
  one_group d m =
      let xs = nets_of s in
      let group = group_at xs i (net_at s n i) in
      let next : value_net xs (i + 1) ≡ value_net xs i + length group = next_start c i e h ∙ rw (group_length_lem xs i (net_at s n i)) in
      rw (nets_next s n i h, next, add-one i) (puts_append d m (value_net xs i) group (groups_from xs (suc i) (nets_left s n (suc i))))

  -- and ends within the doubled netlist
  pub group_ends : value_net (nets_of s) i + group_length (kind_at s i) ≤ doubled_size (nets_of s)
  group_ends = omega (arith, next_start c i e h, value_up (nets_of s) (i + 1))

-- what the pins of a net need: its kind, and its operands, which name nets below 8,192, pins or not; and the starts of such a net
pub net_small : {s : List ℕ} {x : Net} → Checked s → (i : ℕ) → i < (sizes_of s).nets → x ≡ net_at s (sizes_of s).nets i → (x.kind ≤ 8) × Small x
net_small c i h e = let p = net_passes c refl i h in rw e (kind_most p, operands_small c.few_nets (omega (arith, c.few_nets)) p)

pub pin_starts : {s : List ℕ} → Checked s → (starts : List ℕ) → Starts starts (nets_of s) → doubled_size (nets_of s) ≤ 8192 → (p : ℕ) → pin_net p < 8192
    → (get_or starts (pin_net p) 0 ≤ 8192) × (0 < get_or starts (pin_net p + 1) 0)
pin_starts {s} c starts t few p h = (
  rw (t (pin_net p) (omega arith)) (omega (arith, value_up (nets_of s) (pin_net p))),
  rw (t (pin_net p + 1) (omega arith)) (start_positive c (pin_net p)),
)

-- no count is above 8,192
pub counts_few : (s : List ℕ) → check_refusal s ≡ none → ((sizes_of s).inputs ≤ 8192) × ((sizes_of s).registers ≤ 8192) × ((sizes_of s).outputs ≤ 8192)
counts_few s h =
    let c = (check_none s).0 h in
    (omega (arith, c.inputs, few_of c INPUT), omega (arith, c.registers, few_of c REG), omega (arith, c.outputs, few_of c OUT))

-- sizes and all groups make up the doubled image
pub image_laid : (s d : List ℕ) → length d ≡ 8 + 7 * doubled_size (nets_of s)
    → put_nets (sets d 0 (size_bytes (paired_sizes s))) (doubled_size (nets_of s)) 0 (doubled_nets (nets_of s)) ≡ doubled_image s
unfolding doubled_image
image_laid s d h =
    let long = doubled_length (nets_of s) in
    rw long at (written d (paired_sizes s) (doubled_nets (nets_of s)) (rw long h))
