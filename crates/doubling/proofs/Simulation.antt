-- One cycle of the doubled netlist shows the value and the mark of every net of the source; so do its outputs and its state.
use Prim.Native.Nat.{ℕ, zero, suc, ◌+◌, ◌*◌, ◌-◌, ◌/◌, ◌%◌, ◌≤◌, ◌<◌}
use mathlib.Core.Path.{◌≡◌, refl, ap, ap₂, sym, ◌∙◌, subst}
use mathlib.Core.List.{List, [], ◌∷◌, ◌++◌, map, append_assoc, Forall₂}
use mathlib.Core.Logic.{inl, inr}
use native.Mathlib.Omega.{arith}
use native.Mathlib.Numerals.{add-one}
use native.Mathlib.Nat.{add-zero}
use lib.Dec.{lit≤}
use lib.ListN.{length, get_or, take, drop, length-append, get_or-append}
use lib.Seq.{get_or-append-add, get_or-append_seam, drop-drop}
use Rattle.gates.specs.Rules.{gate_byte}
use Rattle.gates.proofs.Laws.{Code}
use Rattle.image.specs.declared.image.Net.{Net}
use Rattle.image.specs.Image.{net}
use Rattle.image.specs.Pins.{pin_net}
use Rattle.image.proofs.Pairs.{pairs_append, pairs_get_or, pairs_drop}
use Rattle.refusals.proofs.Refusals.{Codes}
use Rattle.net_checking.proofs.Passes.{Passes, is_const, is_input, is_reg, is_not, is_and, is_or, is_xor, is_mux, is_out}
use Rattle.checking.proofs.Checked.{AllPass, nil, cons}
use Rattle.cycle.specs.Cycle.{plain, Walk, net_byte, past, walk, bytes_of, outputs_from, registers, clocked, Cycle, cycle_of}
use Rattle.cycle.proofs.Walks.{walk_append}
use Rattle.cycle.proofs.Cycles.{pin_code}
use Rattle.cycle.proofs.Selections.{Selection, outputs_selected, registers_selected, selection_append}
use Rattle.groups.specs.Groups.{group_length, group_lengths, mark_start, group_of, split}
use Rattle.groups.proofs.Groups.{at, read, past_gate, walked_all, value_reads, mark_reads, comes_length, Splits, byte_splits, const_splits, Bits, Group, not_group, and_group, or_group, xor_group, mux_group, out_group}
use Rattle.doubled.specs.Doubled.{doubled_size, value_net, mark_net, value_pin, mark_pin, group_at, groups_from, doubled_nets}
use Rattle.doubled.proofs.Positions.{below_or, Laid, end, next, laid, group_length_lem, value_up, value_below, mark_below, value_pin_below, mark_pin_below, mark_second}

-- TWO BYTES for each byte
pub record Twice (two : List ℕ → List ℕ) : Type 0 where
  pub first : ℕ → ℕ
  pub second : ℕ → ℕ
  pub none : two [] ≡ []
  pub next : (x : ℕ) (xs : List ℕ) → two (x ∷ xs) ≡ first x ∷ second x ∷ two xs

twice_append : {two : List ℕ → List ℕ} → Twice two → (xs ys : List ℕ) → two (xs ++ ys) ≡ two xs ++ two ys
twice_append t [] ys = rw t.none
twice_append t (x ∷ xs) ys = rw (t.next x (xs ++ ys), t.next x xs, twice_append t xs ys)

-- SPLIT BYTES
split_twice : Twice split
unfolding split
split_twice = record { first = λ x. x % 2; second = λ x. x / 2; none = refl; next = λ x xs. refl }

pub split_append : (xs ys : List ℕ) → split (xs ++ ys) ≡ split xs ++ split ys
split_append = twice_append split_twice

pub split_length : (l : List ℕ) → length (split l) ≡ 2 * length l
unfolding split
split_length [] = refl
split_length (x ∷ l) = let h = split_length l in omega arith

pub two_more : (n : ℕ) → 2 * suc n ≡ suc (suc (2 * n))
two_more n = omega arith

pub split_take : (n : ℕ) (l : List ℕ) → take (2 * n) (split l) ≡ split (take n l)
unfolding split
split_take zero l = refl
split_take (suc n) [] = rw (two_more n)
split_take (suc n) (x ∷ l) = rw (two_more n, split_take n l)

pub split_drop : (n : ℕ) (l : List ℕ) → drop (2 * n) (split l) ≡ split (drop n l)
unfolding split
split_drop zero l = refl
split_drop (suc n) [] = rw (two_more n)
split_drop (suc n) (x ∷ l) = rw (two_more n) (split_drop n l)

split_rest : (l : List ℕ) → drop 1 (drop 1 (split l)) ≡ split (drop 1 l)
split_rest l = drop-drop 1 1 (split l) ∙ split_drop 1 l

pub split_codes : {xs ys : List ℕ} → Forall₂ Code xs ys → Forall₂ Code (split xs) (split ys)
unfolding split
split_codes Forall₂.nil = Forall₂.nil
split_codes (Forall₂.cons {a = x} h t) =
    let v : x % 2 ≤ 3 = omega arith in
    let m : x / 2 ≤ 3 = omega arith in
    Forall₂.cons v (Forall₂.cons m (split_codes t))

-- they are plain values
pub split_plain : {xs ys : List ℕ} → Forall₂ Code xs ys → map (λ x. x % 2) (split xs) ≡ split xs
unfolding split
split_plain Forall₂.nil = refl
split_plain (Forall₂.cons {a = x} h t) =
    let v : x % 2 % 2 ≡ x % 2 = omega arith in
    let m : x / 2 % 2 ≡ x / 2 = omega arith in
    rw (v, m, split_plain t)

first_splits : (r : List ℕ) → Codes r → Splits (get_or r 0 0) (get_or (split r) 0 0 ∷ get_or (drop 1 (split r)) 0 0 ∷ [])
unfolding split
first_splits [] h = byte_splits 0 (lit≤ tt)
first_splits (x ∷ r) h = byte_splits x (pairs_get_or 0 0 (lit≤ tt) h)

-- THE WALK. The walk w past i nets of xs, and the walk d past their groups
pub record Follows (xs : List Net) (i : ℕ) (w d : Walk) : Type 0 where
  pub passed : length w.bytes ≡ i
  pub size : length d.bytes ≡ value_net xs i
  pub codes : Codes w.bytes
  pub value : (j : ℕ) → j < i → get_or d.bytes (value_net xs j) 0 ≡ get_or w.bytes j 0 % 2
  pub mark : (j : ℕ) → j < i → get_or d.bytes (mark_net xs j) 0 ≡ get_or w.bytes j 0 / 2
  pub row : d.row ≡ split w.row
  pub state : d.state ≡ split w.state
  pub row_codes : Codes w.row
  pub state_codes : Codes w.state

module _ {xs : List Net} {n i : ℕ} {w d : Walk} (ps : AllPass n 0 xs) (l : i < length xs) (f : Follows xs i w d)
    (x : ℕ) (es r s r' s' : List ℕ) (sp : Splits x es) (m : value_net xs (suc i) ≡ value_net xs i + length es) where
  mark_is : mark_net xs i ≡ value_net xs i + (length es - 1)
  unfolding mark_net value_net
  mark_is = omega arith

  first_at : get_or (d.bytes ++ es) (value_net xs i) 0 ≡ x % 2
  first_at = ap (λ p. get_or (d.bytes ++ es) p 0) (sym f.size ∙ sym (add-zero _)) ∙ get_or-append-add d.bytes es 0 0 ∙ sp.first

  last_at : get_or (d.bytes ++ es) (mark_net xs i) 0 ≡ x / 2
  last_at =
      ap (λ p. get_or (d.bytes ++ es) p 0) (mark_is ∙ ap (λ v. v + (length es - 1)) (sym f.size))
      ∙ get_or-append-add d.bytes es (length es - 1) 0
      ∙ sp.last

  byte_at : get_or (w.bytes ++ (x ∷ [])) i 0 ≡ x
  byte_at = rw (← f.passed) (get_or-append_seam w.bytes x [] 0)

  -- a byte g x of each net's byte x, at the net p of its group
  each_shows : (p : ℕ → ℕ) (g : ℕ → ℕ) → ((j : ℕ) → j < i → p j < value_net xs i) → ((j : ℕ) → j < i → get_or d.bytes (p j) 0 ≡ g (get_or w.bytes j 0))
      → get_or (d.bytes ++ es) (p i) 0 ≡ g x → (j : ℕ) → j < suc i → get_or (d.bytes ++ es) (p j) 0 ≡ g (get_or (w.bytes ++ (x ∷ [])) j 0)
  each_shows p g inside before here j h =
      elim (below_or j i h) [
        | inl k ↦ rw (get_or-append w.bytes (x ∷ []) 0 j (omega arith), get_or-append d.bytes es 0 (p j) (omega (arith, inside j k))) (before j k)
        | inr e ↦ rw (e, byte_at) here
      ]

  extend : r' ≡ split r → s' ≡ split s → Codes r → Codes s → Follows xs (suc i) (at (w.bytes ++ (x ∷ [])) r s) (at (d.bytes ++ es) r' s')
  extend er es' br bs =
      record {
        passed = rw length-append (omega arith);
        size = rw length-append (omega arith);
        codes = pairs_append f.codes (Forall₂.cons sp.fits Forall₂.nil);
        value = each_shows (value_net xs) (λ x. x % 2) (λ j k. omega (arith, value_below xs n ps j i k (omega arith))) f.value first_at;
        mark = each_shows (mark_net xs) (λ x. x / 2) (λ j k. mark_below xs n ps j i k (omega arith)) f.mark last_at;
        row = er;
        state = es';
        row_codes = br;
        state_codes = bs;
      }

-- the first and the last nets of groups are few enough to have no number with the top bit
module _ (xs : List Net) (few : doubled_size xs ≤ 8192) (j : ℕ) where
  value_few : value_net xs j < 32768
  value_few = omega (arith, value_up xs j)

  mark_few : mark_net xs j < 32768
  unfolding mark_net value_net
  mark_few = omega (arith, value_up xs (suc j))

-- past one net, and past its group
module _ {xs : List Net} {n i : ℕ} {w d : Walk} (few : doubled_size xs ≤ 8192) (ps : AllPass n 0 xs) (l : i < length xs) (f : Follows xs i w d) where
  abbrev v : ℕ
  v = value_net xs i

  room : v + 8 ≤ 32768
  room = omega (arith, value_up xs i)

  code : (j : ℕ) → get_or w.bytes j 0 ≤ 3
  code j = pairs_get_or j 0 (lit≤ tt) f.codes

  bits : (p : ℕ) → pin_net p < i → Bits d.bytes v (value_pin xs p) (mark_pin xs p) (read w.bytes p)
  unfolding value_pin mark_pin
  bits p h =
      record {
        value_in = value_pin_below xs n ps p i h (omega arith);
        mark_in = mark_pin_below xs n ps p i h (omega arith);
        value_is = value_reads w.bytes d.bytes p (value_net xs (pin_net p)) (value_few xs few (pin_net p)) (code (pin_net p)) (f.value (pin_net p) h);
        mark_is = mark_reads w.bytes d.bytes p (mark_net xs (pin_net p)) (mark_few xs few (pin_net p)) (code (pin_net p)) (f.mark (pin_net p) h);
      }

  fits : (p : ℕ) → read w.bytes p ≤ 3
  fits p = let c = code (pin_net p) in let h = pin_code w.bytes p (omega arith) in omega arith

  abbrev Shown : (k a b c : ℕ) → Type 0
  Shown = Group w.bytes d.bytes i v room (value_pin xs) (mark_pin xs) bits fits

  gate_step : (k a b c : ℕ) → 3 ≤ k → Shown k a b c → value_net xs (suc i) ≡ v + group_length k
      → Follows xs (suc i) (past gate_byte (net k a b c) w) (walk gate_byte (group_at xs i (net k a b c)) d)
  gate_step k a b c h g m =
      let long = comes_length g.comes in
      let group = group_length_lem xs i (net k a b c) in
      rw (past_gate k a b c w h, walked_all d.row d.state f.size g.comes)
      (extend ps l f _ g.bytes w.row w.state d.row d.state g.splits (omega arith) f.row f.state f.row_codes f.state_codes)

  step : {y : Net} → Passes n i y → value_net xs (suc i) ≡ v + group_length y.kind → Follows xs (suc i) (past gate_byte y w) (walk gate_byte (group_at xs i y) d)
  step (is_const {a} h) m =
      unfold group_length group_lengths group_of past walk net_byte in
      rw (append_assoc d.bytes (a ∷ []) (0 ∷ []))
      (extend ps l f a (a ∷ 0 ∷ []) w.row w.state d.row d.state (const_splits a h) m f.row f.state f.row_codes f.state_codes)
  step is_input m =
      unfold group_length group_lengths group_of past walk net_byte in
      rw (append_assoc d.bytes (get_or d.row 0 0 ∷ []) (get_or (drop 1 d.row) 0 0 ∷ []))
      (extend ps l f (get_or w.row 0 0) (get_or d.row 0 0 ∷ get_or (drop 1 d.row) 0 0 ∷ [])
      (drop 1 w.row) w.state (drop 1 (drop 1 d.row)) d.state
      (rw f.row (first_splits w.row f.row_codes)) m (rw f.row (split_rest w.row)) f.state (pairs_drop 1 f.row_codes) f.state_codes)
  step (is_reg h k) m =
      unfold group_length group_lengths group_of past walk net_byte in
      rw (append_assoc d.bytes (get_or d.state 0 0 ∷ []) (get_or (drop 1 d.state) 0 0 ∷ []))
      (extend ps l f (get_or w.state 0 0) (get_or d.state 0 0 ∷ get_or (drop 1 d.state) 0 0 ∷ [])
      w.row (drop 1 w.state) d.row (drop 1 (drop 1 d.state))
      (rw f.state (first_splits w.state f.state_codes)) m f.row (rw f.state (split_rest w.state)) f.row_codes (pairs_drop 1 f.state_codes))
  step (is_not h) m = gate_step 3 _ _ _ (lit≤ tt) (not_group _ _ _ _ room _ _ bits fits h) m
  step (is_and h k) m = gate_step 4 _ _ _ (lit≤ tt) (and_group _ _ _ _ room _ _ bits fits h k) m
  step (is_or h k) m = gate_step 5 _ _ _ (lit≤ tt) (or_group _ _ _ _ room _ _ bits fits h k) m
  step (is_xor h k) m = gate_step 6 _ _ _ (lit≤ tt) (xor_group _ _ _ _ room _ _ bits fits h k) m
  step (is_mux h k o) m = gate_step 7 _ _ _ (lit≤ tt) (mux_group _ _ _ _ room _ _ bits fits h k o) m
  step (is_out {b = b} h k) m = gate_step 8 _ _ _ (lit≤ tt) (out_group _ _ _ _ room _ _ bits fits b h) m

follow :
    {xs : List Net} {n : ℕ} → doubled_size xs ≤ 8192 → AllPass n 0 xs → n ≡ length xs
    → {i : ℕ} {ys : List Net} {w d : Walk} → AllPass n i ys → Laid xs i ys → i + length ys ≡ n
    → Follows xs i w d → Follows xs n (walk gate_byte ys w) (walk gate_byte (groups_from xs i ys) d)
unfolding walk groups_from
follow {xs} few ps e {w = w} {d = d} (nil {i}) (end l) h f = subst (λ m. Follows xs m w d) (let k : i ≡ _ = omega arith in k) f
follow {xs} {n} few ps e {w = w} {d = d} (cons {i = i} {x = y} {xs = ys} p qs) (next m ls) h f =
    rw (walk_append gate_byte (group_at xs i y) (groups_from xs (suc i) ys) d)
    (follow few ps e qs ls (omega arith) (step few ps (omega arith) f p m))

begins : (xs : List Net) (row st : List ℕ) → Codes row → Codes st → Follows xs 0 (at [] row st) (at [] (split row) (split st))
unfolding value_net doubled_size
begins xs row st br bs =
    record {
      passed = refl;
      size = refl;
      codes = Forall₂.nil;
      value = λ j h. absurd (omega arith);
      mark = λ j h. absurd (omega arith);
      row = refl;
      state = refl;
      row_codes = br;
      state_codes = bs;
    }

-- from the start of a cycle to its end
cycle_follows : {xs : List Net} {n : ℕ} (row st : List ℕ) → doubled_size xs ≤ 8192 → AllPass n 0 xs → n ≡ length xs → Codes row → Codes st
    → Follows xs n (walk gate_byte xs (at [] row st)) (walk gate_byte (doubled_nets xs) (at [] (split row) (split st)))
unfolding doubled_nets
cycle_follows {xs} row st few ps e br bs = follow few ps e ps (laid xs) (omega arith) (begins xs row st br bs)

-- OUTPUTS AND REGISTERS. What is read off group by group, two bytes for each byte of the source
module _ {k : ℕ} {l l' : ℕ → List Net → List ℕ} {b b' : ℕ → Net → ℕ} (selection : Selection k l b) (selection' : Selection k l' b')
    {two : List ℕ → List ℕ} (twice : Twice two) {n : ℕ} {xs : List Net} (ps : AllPass n 0 xs) (e : n ≡ length xs)
    (group : (i : ℕ) (y : Net) → i < n → Passes n i y → value_net xs (suc i) ≡ value_net xs i + group_length y.kind
    → l' (value_net xs i) (group_at xs i y) ≡ two (l i (y ∷ []))) where
  groups_twice : {i : ℕ} {ys : List Net} → AllPass n i ys → Laid xs i ys → i + length ys ≡ n → l' (value_net xs i) (groups_from xs i ys) ≡ two (l i ys)
  unfolding groups_from
  groups_twice (nil {i}) (end m) h = rw (selection.none i, selection'.none (value_net xs i), twice.none)
  groups_twice (cons {i = i} {x = y} {xs = ys} q qs) (next m ls) h =
      let e : value_net xs i + length (group_at xs i y) ≡ value_net xs (suc i) = rw (group_length_lem xs i y) (sym m) in
      let o : l i (y ∷ ys) ≡ l i (y ∷ []) ++ l (suc i) ys = rw add-one at (selection_append selection i (y ∷ []) ys) in
      rw (selection_append selection' (value_net xs i) (group_at xs i y) (groups_from xs (suc i) ys), e, o, twice_append twice (l i (y ∷ [])) (l (suc i) ys))
      (ap₂ (λ (a b : List ℕ). a ++ b) (group i y (omega arith) q m) (groups_twice qs ls (omega arith)))

  doubled_twice : l' 0 (doubled_nets xs) ≡ two (l 0 xs)
  unfolding doubled_nets value_net doubled_size
  doubled_twice = groups_twice ps (laid xs) (omega arith)

-- the two registers of a register
module _ (f f' : Net → ℕ) {two : List ℕ → List ℕ} (twice : Twice two) {n : ℕ} (xs : List Net)
    (pair : (a b : ℕ) → pin_net a < n → f' (net 2 (value_pin xs a) b 0) ∷ f' (net 2 (mark_pin xs a) (mark_start b) 0) ∷ [] ≡ two (f (net 2 a b 0) ∷ [])) where
  group_registers : {i : ℕ} {y : Net} → Passes n i y → registers f' (group_at xs i y) ≡ two (registers f (y ∷ []))
  unfolding group_of registers
  group_registers (is_const h) = sym twice.none
  group_registers is_input = sym twice.none
  group_registers (is_reg {a} {b} h k) = pair a b h
  group_registers (is_not h) = sym twice.none
  group_registers (is_and h k) = sym twice.none
  group_registers (is_or h k) = sym twice.none
  group_registers (is_xor h k) = sym twice.none
  group_registers (is_mux h k o) = sym twice.none
  group_registers (is_out h k) = sym twice.none

  pub registers_twice : AllPass n 0 xs → n ≡ length xs → registers f' (doubled_nets xs) ≡ two (registers f xs)
  registers_twice ps e = doubled_twice (registers_selected f) (registers_selected f') twice ps e (λ i y h p m. group_registers p)

-- bytes bs of all n nets of xs, and the bytes ds of their groups
module _ (xs : List Net) {n : ℕ} (bs ds : List ℕ)
    (value : (j : ℕ) → j < n → get_or ds (value_net xs j) 0 ≡ get_or bs j 0 % 2)
    (mark : (j : ℕ) → j < n → get_or ds (mark_net xs j) 0 ≡ get_or bs j 0 / 2) where
  clocked_split : doubled_size xs ≤ 8192 → Codes bs → AllPass n 0 xs → n ≡ length xs → clocked gate_byte (doubled_nets xs) ds ≡ split (clocked gate_byte xs bs)
  unfolding clocked split value_pin mark_pin
  clocked_split few codes ps e =
      registers_twice _ _ split_twice xs
      (λ a b h.
      let j = pin_net a in
      let c = pairs_get_or j 0 (lit≤ tt) codes in
      rw (value_reads bs ds a (value_net xs j) (value_few xs few j) c (value j h), mark_reads bs ds a (mark_net xs j) (mark_few xs few j) c (mark j h)))
      ps e

  group_outputs : {i : ℕ} {y : Net} → i < n → Passes n i y → value_net xs (suc i) ≡ value_net xs i + group_length y.kind
      → outputs_from (value_net xs i) (group_at xs i y) ds ≡ split (outputs_from i (y ∷ []) bs)
  unfolding group_of group_length group_lengths outputs_from split
  group_outputs l (is_const h) m = refl
  group_outputs l is_input m = refl
  group_outputs l (is_reg h k) m = refl
  group_outputs l (is_not h) m = refl
  group_outputs l (is_and h k) m = refl
  group_outputs l (is_or h k) m = refl
  group_outputs l (is_xor h k) m = refl
  group_outputs l (is_mux h k o) m = refl
  group_outputs {i} l (is_out h k) m = let e = mark_second xs i m in rw (← e, value i l, mark i l)

  outputs_split : AllPass n 0 xs → n ≡ length xs → outputs_from 0 (doubled_nets xs) ds ≡ split (outputs_from 0 xs bs)
  outputs_split ps e = doubled_twice (outputs_selected bs) (outputs_selected ds) split_twice ps e (λ i y h p m. group_outputs h p m)

-- ONE CYCLE
abbrev doubled_cycle : List Net → (row st : List ℕ) → Cycle
doubled_cycle xs row st = cycle_of plain (doubled_nets xs) (split row) (split st)

pub record CycleSplits (xs : List Net) (row st : List ℕ) : Type 0 where
  pub outputs : (doubled_cycle xs row st).outputs ≡ split (cycle_of plain xs row st).outputs
  pub state : (doubled_cycle xs row st).state ≡ split (cycle_of plain xs row st).state

pub cycle_splits : {xs : List Net} {n : ℕ} (row st : List ℕ) → doubled_size xs ≤ 8192 → AllPass n 0 xs → n ≡ length xs → Codes row → Codes st → CycleSplits xs row st
unfolding cycle_of bytes_of
cycle_splits {xs} {n} row st few ps e br bs =
    let f = cycle_follows row st few ps e br bs in
    let b = (walk gate_byte xs (at [] row st)).bytes in
    let d = (walk gate_byte (doubled_nets xs) (at [] (split row) (split st))).bytes in
    record {
      outputs = outputs_split xs b d f.value f.mark ps e;
      state = clocked_split xs b d f.value f.mark few f.codes ps e;
    }
