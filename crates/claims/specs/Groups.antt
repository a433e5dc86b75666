-- The groups of the doubled netlist: the nets of each kind's group, for any net; and, computed, all groups of a netlist with one net of each kind, and of one with inverted pins.
use Rattle.std.specs.Prelude.{ℕ, ◌+◌, ◌≡◌, List, [], ◌∷◌, ◌++◌}
use Rattle.gates.specs.Kinds.{CONST, INPUT, REG, NOT, AND, OR, XOR, MUX, OUT}
use Rattle.image.specs.declared.image.Net.{Net}
use Rattle.image.specs.Image.{net}
use Rattle.doubled.specs.Doubled.{value_net, value_pin, mark_pin, group_at, doubled_size, doubled_nets}
use Rattle.claims.specs.Examples.{top}

-- 0 CONST 1; 1 INPUT; 2 REG(7, no start given); 3 NOT 1; 4 AND(1, 3); 5 OR(1, 4); 6 XOR(3, 5); 7 MUX(4, 5, 6); 8 OUT 7, protected
unfoldable pub one_of_each : List Net
one_of_each =
    net CONST 1 0 0
    ∷ net INPUT 0 0 0
    ∷ net REG 7 2 0
    ∷ net NOT 1 0 0
    ∷ net AND 1 3 0
    ∷ net OR 1 4 0
    ∷ net XOR 3 5 0
    ∷ net MUX 4 5 6
    ∷ net OUT 7 1 0
    ∷ []

-- their value nets are 0, 2, 4, 6, 8, 14, 22, 24 and 31, and their mark nets 1, 3, 5, 7, 13, 21, 23, 30 and 32; each line below begins with the number of its first net
unfoldable pub their_groups : List Net
their_groups =
    -- 0 CONST: CONST a; CONST 0
    (net CONST 1 0 0 ∷ net CONST 0 0 0 ∷ [])
    -- 2 INPUT: INPUT; INPUT
    ++ (net INPUT 0 0 0 ∷ net INPUT 0 0 0 ∷ [])
    -- 4 REG: REG on va with start b; REG on ta, which starts at 1, since b is 2
    ++ (net REG 24 2 0 ∷ net REG 30 1 0 ∷ [])
    -- 6 NOT: NOT va; OR(ta, ta)
    ++ (net NOT 2 0 0 ∷ net OR 3 3 0 ∷ [])
    -- 8 AND: AND(va, vb); p = AND(ta, vb); q = AND(tb, va); r = AND(ta, tb); s = OR(p, q); OR(s, r)
    ++ (net AND 2 6 0 ∷ net AND 3 6 0 ∷ net AND 7 2 0 ∷ net AND 3 7 0 ∷ net OR 9 10 0 ∷ net OR 12 11 0 ∷ [])
    -- 14 OR: OR(va, vb); m = NOT va; n = NOT vb; p = AND(ta, n); q = AND(tb, m); r = AND(ta, tb); s = OR(p, q); OR(s, r)
    ++ (net OR 2 8 0 ∷ net NOT 2 0 0 ∷ net NOT 8 0 0 ∷ net AND 3 16 0 ∷ net AND 13 15 0 ∷ net AND 3 13 0 ∷ net OR 17 18 0 ∷ net OR 20 19 0 ∷ [])
    -- 22 XOR: XOR(va, vb); OR(ta, tb)
    ++ (net XOR 6 14 0 ∷ net OR 7 21 0 ∷ [])
    -- 24 MUX: MUX(va, vb, vc); p = XOR(va, vb); q = OR(ta, tb); r = OR(p, q); w = AND(tc, r); z = MUX(ta, tb, vc); OR(w, z)
    ++ (net MUX 8 14 22 ∷ net XOR 8 14 0 ∷ net OR 13 21 0 ∷ net OR 25 26 0 ∷ net AND 23 27 0 ∷ net MUX 13 21 22 ∷ net OR 28 29 0 ∷ [])
    -- 31 OUT: OUT va, free; OUT ta, free
    ++ (net OUT 24 0 0 ∷ net OUT 30 0 0 ∷ [])

-- the same nets with inverted pins: the top bit on each pin of kinds 2 to 8 but b of the AND and a of the OR
unfoldable pub inverted_of_each : List Net
inverted_of_each =
    net CONST 1 0 0
    ∷ net INPUT 0 0 0
    ∷ net REG (top 7) 2 0
    ∷ net NOT (top 1) 0 0
    ∷ net AND (top 1) 3 0
    ∷ net OR 1 (top 4) 0
    ∷ net XOR (top 3) (top 5) 0
    ∷ net MUX (top 4) (top 5) (top 6)
    ∷ net OUT (top 7) 1 0
    ∷ []

-- "value pins keep the bit and mark pins drop it", and a pin to a net of the group itself has none
unfoldable pub inverted_groups : List Net
inverted_groups =
    (net CONST 1 0 0 ∷ net CONST 0 0 0 ∷ [])
    ++ (net INPUT 0 0 0 ∷ net INPUT 0 0 0 ∷ [])
    ++ (net REG (top 24) 2 0 ∷ net REG 30 1 0 ∷ [])
    ++ (net NOT (top 2) 0 0 ∷ net OR 3 3 0 ∷ [])
    ++ (net AND (top 2) 6 0 ∷ net AND 3 6 0 ∷ net AND 7 (top 2) 0 ∷ net AND 3 7 0 ∷ net OR 9 10 0 ∷ net OR 12 11 0 ∷ [])
    ++ (net OR 2 (top 8) 0 ∷ net NOT 2 0 0 ∷ net NOT (top 8) 0 0 ∷ net AND 3 16 0 ∷ net AND 13 15 0 ∷ net AND 3 13 0 ∷ net OR 17 18 0 ∷ net OR 20 19 0 ∷ [])
    ++ (net XOR (top 6) (top 14) 0 ∷ net OR 7 21 0 ∷ [])
    ++ (net MUX (top 8) (top 14) (top 22)
    ∷ net XOR (top 8) (top 14) 0 ∷ net OR 13 21 0 ∷ net OR 25 26 0 ∷ net AND 23 27 0 ∷ net MUX 13 21 (top 22) ∷ net OR 28 29 0 ∷ [])
    ++ (net OUT (top 24) 0 0 ∷ net OUT 30 0 0 ∷ [])

-- the group of net i of xs, which is x: pin a becomes the value pin va and the mark pin ta, and so b and c (PinsMean); the first net of the group is v.
-- The kinds are 0 CONST, 1 INPUT, 2 REG, 3 NOT, 4 AND, 5 OR, 6 XOR, 7 MUX, 8 OUT
module _ (xs : List Net) (i : ℕ) (x : Net) where
  abbrev v : ℕ
  v = value_net xs i

  abbrev va : ℕ
  va = value_pin xs x.a

  abbrev ta : ℕ
  ta = mark_pin xs x.a

  abbrev vb : ℕ
  vb = value_pin xs x.b

  abbrev tb : ℕ
  tb = mark_pin xs x.b

  abbrev vc : ℕ
  vc = value_pin xs x.c

  abbrev tc : ℕ
  tc = mark_pin xs x.c

  pub record GroupNets : Type 0 where
    pub const : x.kind ≡ 0 → group_at xs i x ≡ net 0 x.a 0 0 ∷ net 0 0 0 0 ∷ []
    pub input : x.kind ≡ 1 → group_at xs i x ≡ net 1 0 0 0 ∷ net 1 0 0 0 ∷ []
    pub reg : x.kind ≡ 2 → (x.b ≡ 2 → ⊥) → group_at xs i x ≡ net 2 va x.b 0 ∷ net 2 ta 0 0 ∷ []
    pub unknown_reg : x.kind ≡ 2 → x.b ≡ 2 → group_at xs i x ≡ net 2 va 2 0 ∷ net 2 ta 1 0 ∷ []
    pub not : x.kind ≡ 3 → group_at xs i x ≡ net 3 va 0 0 ∷ net 5 ta ta 0 ∷ []
    pub and : x.kind ≡ 4 → group_at xs i x ≡ net 4 va vb 0 ∷ net 4 ta vb 0 ∷ net 4 tb va 0 ∷ net 4 ta tb 0 ∷ net 5 (v + 1) (v + 2) 0 ∷ net 5 (v + 4) (v + 3) 0 ∷ []
    pub or : x.kind ≡ 5 → group_at xs i x
        ≡ net 5 va vb 0 ∷ net 3 va 0 0 ∷ net 3 vb 0 0 ∷ net 4 ta (v + 2) 0 ∷ net 4 tb (v + 1) 0 ∷ net 4 ta tb 0 ∷ net 5 (v + 3) (v + 4) 0 ∷ net 5 (v + 6) (v + 5) 0 ∷ []
    pub xor : x.kind ≡ 6 → group_at xs i x ≡ net 6 va vb 0 ∷ net 5 ta tb 0 ∷ []
    pub mux : x.kind ≡ 7 → group_at xs i x
        ≡ net 7 va vb vc ∷ net 6 va vb 0 ∷ net 5 ta tb 0 ∷ net 5 (v + 1) (v + 2) 0 ∷ net 4 tc (v + 3) 0 ∷ net 7 ta tb vc ∷ net 5 (v + 4) (v + 5) 0 ∷ []
    pub out : x.kind ≡ 8 → group_at xs i x ≡ net 8 va 0 0 ∷ net 8 ta 0 0 ∷ []

-- proved as `groups`
pub record Groups : Type 0 where
  pub each : (xs : List Net) (i : ℕ) (x : Net) → GroupNets xs i x
  pub nets : doubled_nets one_of_each ≡ their_groups
  pub size : doubled_size one_of_each ≡ 33
  pub inverted : doubled_nets inverted_of_each ≡ inverted_groups
