-- The doubled image: it passes checking, it is read back as the doubled netlist, its groups stand in place; and what plain values alone do not settle of it.
use Rattle.std.specs.Prelude.{ℕ, ◌+◌, ◌≤◌, ◌<◌, ◌≡◌, List, length, get_or}
use Rattle.std.proofs.Math.Option.{none}
use Rattle.gates.specs.Kinds.{REG, OUT}
use Rattle.image.specs.Image.{sizes_of, net, nets_of}
use Rattle.checking.specs.Check.{check_refusal}
use Rattle.groups.specs.Groups.{group_length}
use Rattle.doubled.specs.Doubled.{value_pin, mark_pin, group_at, doubled_size, value_net, mark_net, doubled_nets}
use Rattle.doubling.specs.Doubling.{doubled_image, double_refusal, double_of}
use Rattle.claims.specs.NetBytes.{net_of}

-- every image that doubling writes passes checking, so 17 is never given; proved as `doubled_checks`
abbrev pub DoubledChecks : Type 0
DoubledChecks = (s : List ℕ) → check_refusal s ≡ none → doubled_size (nets_of s) ≤ 8192 → check_refusal (doubled_image s) ≡ none

-- so doubling, where it is accepted, writes the doubled image; proved as `doubling_writes`
abbrev pub DoublingWrites : Type 0
DoublingWrites = (s buf : List ℕ) → double_refusal s buf ≡ none → double_of s buf ≡ record { refusal = none; buffer = doubled_image s }

-- and what is read from the doubled image is the doubled netlist, of which every number is a byte; proved as `doubled_reads`
pub record DoubledReads (s : List ℕ) : Type 0 where
  pub nets : nets_of (doubled_image s) ≡ doubled_nets (nets_of s)
  pub bytes : (p : ℕ) → get_or (doubled_image s) p 0 < 256

abbrev pub DoubledReadsAll : Type 0
DoubledReadsAll = (s : List ℕ) → check_refusal s ≡ none → doubled_size (nets_of s) ≤ 8192 → DoubledReads s

-- "groups in net order. The first net of a group is the value net v, the last the mark net t": the groups fill the doubled netlist from net 0 on, with no
-- gap, and net j of the group of net i stands j nets behind its value net
pub record Placed (s : List ℕ) : Type 0 where
  pub first : value_net (nets_of s) 0 ≡ 0
  pub next : (i : ℕ) → i < (sizes_of s).nets → value_net (nets_of s) (i + 1) ≡ value_net (nets_of s) i + group_length (net_of s i).kind
  pub lengths : (i : ℕ) → length (group_at (nets_of s) i (net_of s i)) ≡ group_length (net_of s i).kind
  pub mark : (i : ℕ) → mark_net (nets_of s) i + 1 ≡ value_net (nets_of s) (i + 1)
  pub end : value_net (nets_of s) (sizes_of s).nets ≡ (sizes_of (doubled_image s)).nets
  pub groups :
      (i j : ℕ) → i < (sizes_of s).nets → j < group_length (net_of s i).kind
      → net_of (doubled_image s) (value_net (nets_of s) i + j) ≡ get_or (group_at (nets_of s) i (net_of s i)) j (net 0 0 0 0)

-- proved as `doubled_placed`
abbrev pub DoubledPlaced : Type 0
DoubledPlaced = (s : List ℕ) → check_refusal s ≡ none → Placed s

-- what plain values alone do not settle, the policies and the starts that are not given: every OUT of the doubled netlist is free; a value register keeps its start, also 2; a mark
-- register starts at 0, or at 1 where the register has no start
pub record Unseen (s : List ℕ) : Type 0 where
  pub outs : (j : ℕ) → (net_of (doubled_image s) j).kind ≡ OUT → (net_of (doubled_image s) j).b ≡ 0
  pub values :
      (i : ℕ) → i < (sizes_of s).nets → (net_of s i).kind ≡ REG
      → net_of (doubled_image s) (value_net (nets_of s) i) ≡ net REG (value_pin (nets_of s) (net_of s i).a) (net_of s i).b 0
  pub marks :
      (i : ℕ) → i < (sizes_of s).nets → (net_of s i).kind ≡ REG → ((net_of s i).b ≡ 2 → ⊥)
      → net_of (doubled_image s) (mark_net (nets_of s) i) ≡ net REG (mark_pin (nets_of s) (net_of s i).a) 0 0
  pub unknown_marks :
      (i : ℕ) → i < (sizes_of s).nets → (net_of s i).kind ≡ REG → (net_of s i).b ≡ 2
      → net_of (doubled_image s) (mark_net (nets_of s) i) ≡ net REG (mark_pin (nets_of s) (net_of s i).a) 1 0

-- proved as `doubled_unseen`
abbrev pub DoubledUnseen : Type 0
DoubledUnseen = (s : List ℕ) → Unseen s
