-- How many nets a doubled netlist has at most: "no netlist of N nets doubles to more than 8 × N − 6, and for every N some netlist reaches it".
-- Instead of 6 less on the right side stand 6 more on the left.
use Rattle.std.specs.Prelude.{ℕ, ◌+◌, ◌*◌, ◌-◌, ◌≤◌, ◌<◌, ◌≡◌, List, ◌∷◌, length, get_or, replicate}
use Rattle.std.proofs.Math.Option.{none}
use Rattle.gates.specs.Kinds.{CONST, OR}
use Rattle.image.specs.declared.image.Net.{Net}
use Rattle.image.specs.Image.{sizes_of, net, nets_of, encode}
use Rattle.checking.specs.Check.{check_refusal}
use Rattle.doubled.specs.Doubled.{doubled_nets}

-- no netlist of N nets doubles to more than 8 × N − 6; proved as `size_bound`
abbrev pub SizeBound : Type 0
SizeBound = (s : List ℕ) → check_refusal s ≡ none → length (doubled_nets (nets_of s)) + 6 ≤ 8 * (sizes_of s).nets

-- n nets, for n from 1 on: a CONST 0 and n − 1 ORs of net 0 with itself; and their image
unfoldable pub const_and_ors : (n : ℕ) → List Net
const_and_ors n = net CONST 0 0 0 ∷ replicate (n - 1) (net OR 0 0 0)

unfoldable pub ors_image : (n : ℕ) → List ℕ
ors_image n = encode (record { nets = n; inputs = 0; registers = 0; outputs = 0 }) (const_and_ors n)

-- the image s passes checking, it has n nets, all its numbers are bytes, and its nets double to 8 × n − 6
pub record Reaches (n : ℕ) (s : List ℕ) : Type 0 where
  pub accepted : check_refusal s ≡ none
  pub nets : (sizes_of s).nets ≡ n
  pub bytes : (p : ℕ) → get_or s p 0 < 256
  pub size : length (doubled_nets (nets_of s)) + 6 ≡ 8 * n

-- for every N some netlist reaches it, also for N above 1,024, where 15 stops the doubling of this one; proved as `bound_reached`
abbrev pub BoundReached : Type 0
BoundReached = (n : ℕ) → 1 ≤ n → n ≤ 8192 → Reaches n (ors_image n)
