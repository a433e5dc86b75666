-- The group of nets that each net becomes: the first net has its value, the last its mark (the GLIFT paper's shadow logic).
use Rattle.std.specs.Prelude.{ℕ, ◌+◌, ◌/◌, ◌%◌, List, [], ◌∷◌, eqb, get_or}
use Rattle.gates.specs.Rules.{bit}
use Rattle.gates.specs.Kinds.{CONST, INPUT, REG, NOT, AND, OR, XOR, MUX, OUT}
use Rattle.image.specs.declared.image.Net.{Net}
use Rattle.image.specs.Image.{net}

-- the group lengths for kinds 0 to 8
unfoldable pub group_lengths : List ℕ
group_lengths = 2 ∷ 2 ∷ 2 ∷ 2 ∷ 6 ∷ 8 ∷ 2 ∷ 7 ∷ 2 ∷ []

-- the length of the group of a net of kind k
unfoldable pub group_length : ℕ → ℕ
group_length k = get_or group_lengths k 0

-- A group, in order, from the value pins va, vb, vc and the mark pins ta, tb, tc of its pins. The inner nets of a group whose first net is v
-- have the names that document 01 gives them, and pins that name them have no top bit.

-- CONST a; CONST 0
abbrev pub const_group : ℕ → List Net
const_group a = net CONST a 0 0 ∷ net CONST 0 0 0 ∷ []

-- INPUT; INPUT
abbrev pub input_group : List Net
input_group = net INPUT 0 0 0 ∷ net INPUT 0 0 0 ∷ []

-- the start of a mark register, by the start b of its register: 1 where none is given, that is, where b is 2, and else 0
unfoldable pub mark_start : ℕ → ℕ
mark_start b = bit (eqb b 2)

-- REG on va with start b; REG on ta, which starts at 1 where b is 2
abbrev pub reg_group : (va ta b : ℕ) → List Net
reg_group va ta b = net REG va b 0 ∷ net REG ta (mark_start b) 0 ∷ []

-- NOT va; OR(ta, ta)
abbrev pub not_group : (va ta : ℕ) → List Net
not_group va ta = net NOT va 0 0 ∷ net OR ta ta 0 ∷ []

-- AND(va, vb); p = AND(ta, vb); q = AND(tb, va); r = AND(ta, tb); s = OR(p, q); OR(s, r)
abbrev pub and_group : (v va ta vb tb : ℕ) → List Net
and_group v va ta vb tb =
    let p = v + 1 in
    let q = v + 2 in
    let r = v + 3 in
    let s = v + 4 in
    net AND va vb 0 ∷ net AND ta vb 0 ∷ net AND tb va 0 ∷ net AND ta tb 0 ∷ net OR p q 0 ∷ net OR s r 0 ∷ []

-- OR(va, vb); m = NOT va; n = NOT vb; p = AND(ta, n); q = AND(tb, m); r = AND(ta, tb); s = OR(p, q); OR(s, r)
abbrev pub or_group : (v va ta vb tb : ℕ) → List Net
or_group v va ta vb tb =
    let m = v + 1 in
    let n = v + 2 in
    let p = v + 3 in
    let q = v + 4 in
    let r = v + 5 in
    let s = v + 6 in
    net OR va vb 0
    ∷ net NOT va 0 0 ∷ net NOT vb 0 0 ∷ net AND ta n 0 ∷ net AND tb m 0 ∷ net AND ta tb 0 ∷ net OR p q 0 ∷ net OR s r 0 ∷ []

-- XOR(va, vb); OR(ta, tb)
abbrev pub xor_group : (va ta vb tb : ℕ) → List Net
xor_group va ta vb tb = net XOR va vb 0 ∷ net OR ta tb 0 ∷ []

-- MUX(va, vb, vc); p = XOR(va, vb); q = OR(ta, tb); r = OR(p, q); w = AND(tc, r); z = MUX(ta, tb, vc); OR(w, z)
abbrev pub mux_group : (v va ta vb tb vc tc : ℕ) → List Net
mux_group v va ta vb tb vc tc =
    let p = v + 1 in
    let q = v + 2 in
    let r = v + 3 in
    let w = v + 4 in
    let z = v + 5 in
    net MUX va vb vc ∷ net XOR va vb 0 ∷ net OR ta tb 0 ∷ net OR p q 0 ∷ net AND tc r 0 ∷ net MUX ta tb vc ∷ net OR w z 0 ∷ []

-- OUT va, free; OUT ta, free
abbrev pub out_group : (va ta : ℕ) → List Net
out_group va ta = net OUT va 0 0 ∷ net OUT ta 0 0 ∷ []

-- the group of a net x: of the groups for kinds 0 to 8, in this order, the one of its kind
abbrev pub group_by : (v : ℕ) → Net → (va ta vb tb vc tc : ℕ) → List Net
group_by v x va ta vb tb vc tc =
    get_or
    (const_group x.a
    ∷ input_group
    ∷ reg_group va ta x.b
    ∷ not_group va ta
    ∷ and_group v va ta vb tb
    ∷ or_group v va ta vb tb
    ∷ xor_group va ta vb tb
    ∷ mux_group v va ta vb tb vc tc
    ∷ out_group va ta
    ∷ [])
    x.kind []

-- the group of x, where val and mrk give the value pin and the mark pin of each of its pins
unfoldable pub group_of : (v : ℕ) → Net → (val mrk : ℕ → ℕ) → List Net
group_of v x val mrk = group_by v x (val x.a) (mrk x.a) (val x.b) (mrk x.b) (val x.c) (mrk x.c)

-- how the source's bytes stand in the doubled netlist: each byte v + 2 × t as the two bytes v, t
unfoldable pub split : List ℕ → List ℕ
split [] = []
split (x ∷ xs) = x % 2 ∷ x / 2 ∷ split xs
