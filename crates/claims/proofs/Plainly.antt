-- Images without inverted pins: checking, cycles and the doubled image are those of plain pins.
use Prim.Native.Nat.{ℕ, zero, suc, ◌+◌, ◌≤◌, ◌<◌}
use native.Mathlib.Omega.{arith}
use mathlib.Core.Path.{◌≡◌, refl, sym, ap, ◌∙◌}
use mathlib.Core.List.{List, [], ◌∷◌, Forall₂}
use mathlib.Core.Option.{none}
use mathlib.Core.Bool.{Bool, true, false, ◌&&◌}
use lib.Dec.{eqb, leb, lit≤, lit<}
use lib.ListN.{length, get_or}
use borrow.Author.Tests.{eqb-true, leb-true}
use Rattle.gates.specs.Kinds.{REG, NOT, AND, MUX, OUT}
use Rattle.gates.specs.Rules.{gate_byte}
use Rattle.gates.proofs.EachCode.{both}
use Rattle.image.specs.declared.image.Net.{Net}
use Rattle.image.specs.Image.{sizes_of, net, nets_of}
use Rattle.image.specs.Pins.{pin_net, like_pin}
use Rattle.image.proofs.PinNets.{plain_net, plain_pin}
use Rattle.image.proofs.Pairs.{pairs_append, pairs_get_or}
use Rattle.image.proofs.Nets.{length_nets}
use Rattle.net_checking.specs.Operands.{pin_a, pin_b, pin_c}
use Rattle.net_checking.specs.NetCheck.{bad_pin, net_refusal}
use Rattle.net_checking.proofs.Passes.{Passes, is_const, is_input, is_reg, is_not, is_and, is_or, is_xor, is_mux, is_out}
use Rattle.checking.specs.Check.{nets_refusal, check_refusal}
use Rattle.checking.proofs.Checked.{AllPass, nil, cons, Checked, check_none}
use Rattle.cycle.specs.Cycle.{plain, Walk, pin_byte, net_byte, past, walk, bytes_of, registers, clocked, cycle_of, cycles_of}
use Rattle.cycle.proofs.Ruling.{plain_reads}
use Rattle.groups.specs.Groups.{group_of, mark_start}
use Rattle.groups.proofs.Groups.{mark_start_code}
use Rattle.doubled.specs.Doubled.{doubled_size, value_net, mark_net, value_pin, mark_pin, group_at, groups_from, doubled_nets}
use Rattle.doubled.proofs.Positions.{value_up}
use Rattle.doubled.proofs.Sums.{group_pinned}
use Rattle.doubling.specs.Doubling.{doubled_image}
use Rattle.doubling.proofs.Checks.{doubled_nets_lem}
use Rattle.claims.specs.Plain.{plain_bad_pin, plain_net_refusal, plain_nets_refusal, plain_check, plain_net_byte, plain_past, plain_walk, plain_cycle, plain_cycles, plain_groups, plain_image}
use Rattle.claims.specs.Upright.{Upright, AllUpright}

-- CHECKING: a net without inverted pins draws what it drew before
module _ {x : Net} (u : Upright x) where
  when : (b : Bool) {p q : Bool} → (b ≡ true → p ≡ q) → (b && p) ≡ (b && q)
  when true h = h refl
  when false h = refl

  same_test : (n : ℕ) {p : ℕ} → p < 32768 → leb n (pin_net p) ≡ leb n p
  same_test n h = rw (plain_net h)

  bad_same : (n i : ℕ) → bad_pin n i x ≡ plain_bad_pin n i x
  bad_same n i =
      let k = x.kind in
      let reg = when (eqb k REG) (λ e. let o = eqb-true k REG e in same_test n (u.a (omega arith) (omega arith))) in
      let a = when (pin_a k) (λ e. let t = both _ _ e in same_test i (u.a (omega (arith, leb-true NOT k t.0)) (leb-true k OUT t.1))) in
      let b = when (pin_b k) (λ e. let t = both _ _ e in same_test i (u.b (leb-true AND k t.0) (leb-true k MUX t.1))) in
      let c = when (pin_c k) (λ e. same_test i (u.c (eqb-true k MUX e))) in
      rw (reg, a, b, c)

  net_same : (n i : ℕ) → net_refusal n i x ≡ plain_net_refusal n i x
  unfolding net_refusal plain_net_refusal
  net_same n i = rw (bad_same n i)

nets_same : (n i : ℕ) (xs : List Net) → ((j : ℕ) → j < length xs → Upright (get_or xs j (net 0 0 0 0))) → nets_refusal n i xs ≡ plain_nets_refusal n i xs
unfolding nets_refusal plain_nets_refusal
nets_same n i [] u = refl
nets_same n i (x ∷ xs) u = rw (net_same (u 0 (omega arith)) n i, nets_same n (suc i) xs (λ j h. u (suc j) (omega arith)))

pub check_same : (s : List ℕ) → AllUpright s → check_refusal s ≡ plain_check s
unfolding check_refusal plain_check
check_same s u = rw (nets_same (sizes_of s).nets 0 (nets_of s) (λ j h. u j (omega (arith, length_nets s))))

-- NETS of an accepted image whose pins have no top bit: no operand has it
pub record Plain (x : Net) : Type 0 where
  pub a : x.a < 32768
  pub b : x.b < 32768
  pub c : x.c < 32768

operands_plain : {n i : ℕ} {x : Net} → Passes n i x → Upright x → Plain x
operands_plain (is_const h) u = omega arith
operands_plain is_input u = omega arith
operands_plain (is_reg h k) u = record { a = u.a (lit≤ tt) (lit≤ tt); b = omega arith; c = lit< tt }
operands_plain (is_not h) u = record { a = u.a (lit≤ tt) (lit≤ tt); b = lit< tt; c = lit< tt }
operands_plain (is_and h k) u = record { a = u.a (lit≤ tt) (lit≤ tt); b = u.b (lit≤ tt) (lit≤ tt); c = lit< tt }
operands_plain (is_or h k) u = record { a = u.a (lit≤ tt) (lit≤ tt); b = u.b (lit≤ tt) (lit≤ tt); c = lit< tt }
operands_plain (is_xor h k) u = record { a = u.a (lit≤ tt) (lit≤ tt); b = u.b (lit≤ tt) (lit≤ tt); c = lit< tt }
operands_plain (is_mux h k l) u = record { a = u.a (lit≤ tt) (lit≤ tt); b = u.b (lit≤ tt) (lit≤ tt); c = u.c refl }
operands_plain (is_out h k) u = record { a = u.a (lit≤ tt) (lit≤ tt); b = omega arith; c = lit< tt }

abbrev pub AllPlain : List Net → Type 0
AllPlain xs = Forall₂ (λ x y. Plain x) xs xs

all_plain : {n i : ℕ} {xs : List Net} → AllPass n i xs → ((j : ℕ) → j < length xs → Upright (get_or xs j (net 0 0 0 0))) → AllPlain xs
all_plain nil u = Forall₂.nil
all_plain (cons p ps) u = Forall₂.cons (operands_plain p (u 0 (omega arith))) (all_plain ps (λ j h. u (suc j) (omega arith)))

pub accepted_plain : (s : List ℕ) → AllUpright s → plain_check s ≡ none → AllPlain (nets_of s)
accepted_plain s u h = all_plain ((check_none s).0 (check_same s u ∙ h)).nets (λ j l. u j (omega (arith, length_nets s)))

-- CYCLES
net_plain : {x : Net} → Plain x → (w : Walk) → net_byte gate_byte x w ≡ plain_net_byte x w
unfolding net_byte plain_net_byte
net_plain p w = rw (plain_reads gate_byte w.bytes p.a, plain_reads gate_byte w.bytes p.b, plain_reads gate_byte w.bytes p.c)

past_plain : {x : Net} → Plain x → (w : Walk) → past gate_byte x w ≡ plain_past x w
unfolding past plain_past
past_plain p w = rw (net_plain p w)

walk_plain : {xs : List Net} → AllPlain xs → (w : Walk) → walk gate_byte xs w ≡ plain_walk xs w
unfolding walk plain_walk
walk_plain Forall₂.nil w = refl
walk_plain (Forall₂.cons {a = x} p ps) w = rw (past_plain p w) (walk_plain ps (plain_past x w))

clock_plain : {xs : List Net} → AllPlain xs → (bs : List ℕ) → registers (λ x. pin_byte gate_byte bs x.a) xs ≡ registers (λ x. get_or bs x.a 0) xs
unfolding registers
clock_plain Forall₂.nil bs = refl
clock_plain (Forall₂.cons p ps) bs = rw (plain_reads gate_byte bs p.a, clock_plain ps bs)

bytes_plain : {xs : List Net} → AllPlain xs → (row st : List ℕ) → bytes_of gate_byte xs row st ≡ (plain_walk xs (record { bytes = []; row = row; state = st })).bytes
unfolding bytes_of
bytes_plain ps row st = ap (λ w. w.bytes) (walk_plain ps (record { bytes = []; row = row; state = st }))

pub cycle_plain : {xs : List Net} → AllPlain xs → (row st : List ℕ) → cycle_of plain xs row st ≡ plain_cycle xs row st
unfolding cycle_of clocked plain_cycle
cycle_plain {xs} ps row st = rw (bytes_plain ps row st, clock_plain ps (plain_walk xs (record { bytes = []; row = row; state = st })).bytes)

pub cycles_plain : {xs : List Net} → AllPlain xs → (i k : ℕ) (rows st : List ℕ) → cycles_of plain xs i k rows st ≡ plain_cycles xs i k rows st
unfolding cycles_of plain_cycles
cycles_plain ps i zero rows st = refl
cycles_plain ps i (suc k) rows st = rw (cycle_plain ps, cycles_plain ps i k)

-- DOUBLING: the groups of before, whose nets have no top bit either
module _ (xs : List Net) where
  value_plain : {p : ℕ} → p < 32768 → value_net xs p ≡ value_pin xs p
  unfolding value_pin like_pin
  value_plain h = rw (plain_pin h, plain_net h)

  mark_plain : {p : ℕ} → p < 32768 → mark_net xs p ≡ mark_pin xs p
  unfolding mark_pin
  mark_plain h = rw (plain_net h)

  group_plain : (i : ℕ) {y : Net} → Plain y → group_at xs i y ≡ group_of (value_net xs i) y (value_net xs) (mark_net xs)
  unfolding group_of
  group_plain i {y} p =
      sym (group_pinned xs i y refl (value_plain p.a) (mark_plain p.a) (value_plain p.b) (mark_plain p.b) (value_plain p.c) (mark_plain p.c))

  plain_from : {ys : List Net} → AllPlain ys → (i : ℕ) → groups_from xs i ys ≡ plain_groups xs i ys
  unfolding groups_from plain_groups
  plain_from Forall₂.nil i = refl
  plain_from (Forall₂.cons p ps) i = rw (group_plain i p, plain_from ps (suc i))

  pub groups_plain : (i : ℕ) {ys : List Net} → AllPlain ys → groups_from xs i ys ≡ plain_groups xs i ys
  groups_plain i ps = plain_from ps i

number_plain : {n : ℕ} → n ≤ 2 → n < 32768
number_plain h = omega arith

mark_low : (b : ℕ) → mark_start b < 32768
mark_low b = omega (arith, mark_start_code b)

ruleset lowly = (Forall₂.nil, Forall₂.cons, number_plain, mark_low)

record Inner (v : ℕ) : Type 0 where
  at_1 : v + 1 < 32768
  at_2 : v + 2 < 32768
  at_3 : v + 3 < 32768
  at_4 : v + 4 < 32768
  at_5 : v + 5 < 32768
  at_6 : v + 6 < 32768
  nought : 0 < 32768

module _ (v : ℕ) (val mrk : ℕ → ℕ) (val-low : (p : ℕ) → val p < 32768) (mrk-low : (p : ℕ) → mrk p < 32768) (inner : Inner v) where
  nets_plain : {n i : ℕ} {x : Net} → Passes n i x → Plain x → AllPlain (group_of v x val mrk)
  unfolding group_of
  nets_plain (is_const h) p = search lowly depth 20
  nets_plain is_input p = search lowly depth 20
  nets_plain (is_reg h k) p = search lowly depth 20
  nets_plain (is_not h) p = search lowly depth 20
  nets_plain (is_and h k) p = search lowly depth 20
  nets_plain (is_or h k) p = search lowly depth 20
  nets_plain (is_xor h k) p = search lowly depth 20
  nets_plain (is_mux h k l) p = search lowly depth 20
  nets_plain (is_out h k) p = search lowly depth 20

-- so the image that doubling writes has no inverted pin either
module _ (xs : List Net) (few : doubled_size xs ≤ 8192) where
  value_few : (j : ℕ) → value_net xs j < 32768
  value_few j = omega (arith, value_up xs j)

  mark_few : (j : ℕ) → mark_net xs j < 32768
  unfolding mark_net value_net
  mark_few j = omega (arith, value_up xs (suc j))

  inner_few : (i : ℕ) → Inner (value_net xs i)
  inner_few i = omega (arith, value_up xs i)

  doubled_plain : {n i : ℕ} {ys : List Net} → AllPass n i ys → AllPlain ys → AllPlain (plain_groups xs i ys)
  unfolding plain_groups
  doubled_plain nil Forall₂.nil = Forall₂.nil
  doubled_plain (cons {i = i} q qs) (Forall₂.cons p ps) =
      pairs_append (nets_plain (value_net xs i) (value_net xs) (mark_net xs) value_few mark_few (inner_few i) q p) (doubled_plain qs ps)

plain_upright : {x : Net} → Plain x → Upright x
plain_upright p = record { a = λ h k. p.a; b = λ h k. p.b; c = λ h. p.c }

pub image_plain : (s : List ℕ) → AllPlain (nets_of s) → doubled_image s ≡ plain_image s
unfolding doubled_image doubled_nets plain_image
image_plain s ps = rw (groups_plain (nets_of s) 0 ps)

pub recheck_same : (s : List ℕ) → Checked s → doubled_size (nets_of s) ≤ 8192 → AllPlain (nets_of s) → check_refusal (doubled_image s) ≡ plain_check (plain_image s)
recheck_same s c few ps =
    check_same (doubled_image s) upright_again ∙ ap plain_check (image_plain s ps)
  where
    nets_again : AllPlain (nets_of (doubled_image s))
    nets_again = unfold doubled_nets in rw (doubled_nets_lem s, groups_plain (nets_of s) 0 ps) (doubled_plain (nets_of s) few c.nets ps)

    upright_again : AllUpright (doubled_image s)
    upright_again i h = plain_upright (pairs_get_or i (net 0 0 0 0) (record { a = lit< tt; b = lit< tt; c = lit< tt }) nets_again)
