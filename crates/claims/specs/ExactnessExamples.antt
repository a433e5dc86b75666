-- Examples of ways and of exact marks (document 02, L5).
use Rattle.std.specs.Prelude.{ℕ, ◌≡◌, List, [], ◌∷◌}
use Rattle.std.proofs.Math.Option.{none}
use Rattle.gates.specs.Kinds.{CONST, INPUT, REG, NOT, AND, OR, XOR, MUX}
use Rattle.image.specs.declared.image.Net.{Net}
use Rattle.image.specs.Image.{net, encode}
use Rattle.checking.specs.Check.{check_refusal}
use Rattle.claims.specs.Examples.{top}
use Rattle.claims.specs.Ways.{ways}
use Rattle.claims.specs.Exactness.{byte_of, NoReconvergence, Change}

abbrev image : (nets inputs registers : ℕ) → List Net → List ℕ
image nets inputs registers xs = encode (record { nets = nets; inputs = inputs; registers = registers; outputs = 0 }) xs

-- an input, and the XOR of it with itself
unfoldable pub own_xor : List ℕ
own_xor = image 2 1 0 (net INPUT 0 0 0 ∷ net XOR 0 0 0 ∷ [])

-- a select between net 0 and itself by net 1: net 5 by a NOT, two ANDs and an OR, net 6 by a MUX
unfoldable pub select : List ℕ
select =
    image 7 2 0
    (net INPUT 0 0 0 ∷ net INPUT 0 0 0 ∷ net NOT 1 0 0 ∷ net AND 0 2 0 ∷ net AND 0 1 0 ∷ net OR 3 4 0 ∷ net MUX 0 0 1 ∷ [])

-- two selects: net 4 by net 0 between a 0 and a 1, and net 5 by the inverse of net 1 between net 4 and a 1. So net 4 is net 0, and net 5 is net 4 where net 1 is 1, else a 1
unfoldable pub select_tree : List ℕ
select_tree =
    image 6 2 0 (net INPUT 0 0 0 ∷ net INPUT 0 0 0 ∷ net CONST 0 0 0 ∷ net CONST 1 0 0 ∷ net MUX 2 3 0 ∷ net MUX 4 3 (top 1) ∷ [])

-- an input, a register that takes it, and the AND of the two
unfoldable pub delayed : List ℕ
delayed = image 3 1 1 (net INPUT 0 0 0 ∷ net REG 0 0 0 ∷ net AND 0 1 0 ∷ [])

-- proved as `exactness_examples`
pub record ExactnessExamples : Type 0 where
  -- checking accepts these images
  pub accepted : (check_refusal own_xor ≡ none) × (check_refusal select ≡ none) × (check_refusal select_tree ≡ none) × (check_refusal delayed ≡ none)
  -- the condition is wanted: a marked input reaches a XOR along two ways, one for each pin, and it is marked, though nothing changes it
  pub xor_ways : ways own_xor 0 1 ≡ 2
  pub xor_marked : byte_of own_xor (2 ∷ []) [] 1 ≡ 2
  pub xor_unchanged : Change own_xor (2 ∷ []) [] 1 → ⊥
  -- the same of a select between two ones, made of gates
  pub gates_ways : ways select 1 5 ≡ 2
  pub gates_marked : byte_of select (1 ∷ 2 ∷ []) [] 5 ≡ 3
  pub gates_unchanged : Change select (1 ∷ 2 ∷ []) [] 5 → ⊥
  -- as a MUX, which is C10, the marked select reaches it along one way; that an unmarked input reaches it along two does not matter. So it is exact: unmarked, and nothing changes it
  pub mux_ways : (ways select 1 6 ≡ 1) × (ways select 0 6 ≡ 2)
  pub mux_exact : NoReconvergence select (1 ∷ 2 ∷ []) [] 6
  pub mux_unmarked : byte_of select (1 ∷ 2 ∷ []) [] 6 ≡ 1
  pub mux_unchanged : Change select (1 ∷ 2 ∷ []) [] 6 → ⊥
  -- a tree of MUXes is exact with every row: marked with some, where its marked select changes it, and not with others
  pub tree_exact : (row : List ℕ) → NoReconvergence select_tree row [] 5
  pub tree_marked : byte_of select_tree (2 ∷ 1 ∷ []) [] 5 ≡ 2
  pub tree_changes : Change select_tree (2 ∷ 1 ∷ []) [] 5
  pub tree_unmarked : byte_of select_tree (1 ∷ 2 ∷ []) [] 5 ≡ 1
  pub tree_unchanged : Change select_tree (1 ∷ 2 ∷ []) [] 5 → ⊥
  -- a register's own pin counts as no way, so that the input reaches the AND along one, and not along a second through the register
  pub register_ways : (ways delayed 0 1 ≡ 0) × (ways delayed 0 2 ≡ 1)
  pub register_exact : (row st : List ℕ) → NoReconvergence delayed row st 2
  -- values are changed together: a marked 0 in the input and a marked 0 in the register change their AND, and neither of them alone does
  pub both_marked : byte_of delayed (2 ∷ []) (2 ∷ []) 2 ≡ 2
  pub both_change : Change delayed (2 ∷ []) (2 ∷ []) 2
  pub neither_alone : (byte_of delayed (3 ∷ []) (2 ∷ []) 2 ≡ 2) × (byte_of delayed (2 ∷ []) (3 ∷ []) 2 ≡ 2)
