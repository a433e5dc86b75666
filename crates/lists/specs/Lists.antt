-- Terms of the contracts of the lists of net numbers, and of the passes by these lists. No public call's contract uses them.
use Rattle.std.specs.Prelude.{ℕ, ◌-◌, ◌<◌, ◌≤◌, ◌≡◌, List, [], ◌∷◌, map, cond, eqb, length, get_or, take, drop}
use Rattle.gates.specs.Rules.{mark}
use Rattle.gates.specs.Kinds.{INPUT, REG, NOT, OUT}
use Rattle.image.specs.Image.{sizes_of, kind_at, operand_at, nets_of}
use Rattle.image.specs.Places.{places_from}
use Rattle.cycle.specs.Cycle.{Verdict, clear, flow}
use Rattle.inverses.specs.Inverses.{Both}
use Rattle.lists.specs.declared.lists.Parts.{Parts}

-- of some OUTs of an image s, by their numbers, those that are protected
unfoldable pub protected_of : (s list : List ℕ) → List ℕ
protected_of s [] = []
protected_of s (i ∷ is) = cond (eqb (operand_at s (sizes_of s).nets i 1) 1) (i ∷ protected_of s is) (protected_of s is)

-- numbers of nets below n
pub record Within (n : ℕ) (list : List ℕ) : Type 0 where
  pub below : (j : ℕ) → j < length list → get_or list j 0 < n

-- numbers of nets below n, no two of which are the same
pub record Places (n : ℕ) (list : List ℕ) : Type 0 where
  pub within : Within n list
  pub different : (j k : ℕ) → j < length list → k < length list → get_or list j 0 ≡ get_or list k 0 → j ≡ k

-- the first j of the listed nets have taken their codes, no other net has changed, and as many nets stand with their inverses as before
pub record Put (width : ℕ) (list bytes before after : List ℕ) (j : ℕ) : Type 0 where
  pub size : length after ≡ length before
  pub taken : (k : ℕ) → k < j → get_or after (get_or list k 0) 0 ≡ get_or bytes k 0
  pub others : (i : ℕ) → i < 32768 → ((k : ℕ) → k < j → get_or list k 0 ≡ i → ⊥) → get_or after i 0 ≡ get_or before i 0
  pub both : (n : ℕ) → n ≤ 32768 → Both width before n → Both width after n

-- what stands at the places that are the pins of the listed registers of an image s
abbrev pub at_pins : (s list nets : List ℕ) → List ℕ
at_pins s list nets = map (λ i. get_or nets (operand_at s (sizes_of s).nets i 0) 0) list

-- the bytes of the listed nets
abbrev pub gathered : (list nets : List ℕ) → List ℕ
gathered list nets = map (λ i. get_or nets i 0) list

-- a flow at the first of the listed nets that has mark 1, or clear
unfoldable pub first_marked : (list nets : List ℕ) → Verdict
first_marked [] nets = clear
first_marked (i ∷ is) nets = cond (mark (get_or nets i 0)) (flow i) (first_marked is nets)

-- what a run finds out once about an image: the first net that may be a gate or OUT, and the lists of the INPUTs, the REGs and the OUTs, one after the other
pub record Found (s : List ℕ) (p : Parts) (list : List ℕ) : Type 0 where
  pub from_upto : p.from ≤ (sizes_of s).nets
  pub none_below : (i : ℕ) → i < p.from → kind_at s i < NOT
  pub in_order : (p.regs ≤ p.outs) × (p.outs ≤ p.end) × (p.end ≤ length list)
  pub ins : take p.regs list ≡ places_from INPUT 0 (nets_of s)
  pub regs : take (p.outs - p.regs) (drop p.regs list) ≡ places_from REG 0 (nets_of s)
  pub outs : take (p.end - p.outs) (drop p.outs list) ≡ places_from OUT 0 (nets_of s)

-- and which OUTs are protected: they stand at the start of a list of their own
pub record Watched (s : List ℕ) (p : Parts) (protected : List ℕ) : Type 0 where
  pub there : p.watched ≤ length protected
  pub are : take p.watched protected ≡ protected_of s (places_from OUT 0 (nets_of s))
