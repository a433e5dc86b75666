-- Where the groups of the doubled netlist stand, and that each of its nets passes.
use Prim.Native.Nat.{ℕ, zero, suc, ◌+◌, ◌≤◌, ◌<◌}
use mathlib.Core.Logic.{◌⊎◌, inl, inr}
use mathlib.Core.Path.{◌≡◌, refl, ap, ap₂, sym, ◌∙◌, subst}
use mathlib.Core.List.{List, [], ◌∷◌, ◌++◌, append_assoc, Forall₂}
use mathlib.Core.Bool.{Bool, ◌&&◌, ◌||◌, not}
use native.Mathlib.Decide.{dec_lt}
use native.Mathlib.Omega.{arith}
use native.Mathlib.Nat.{zero-add, add-zero}
use native.Mathlib.Numerals.{add-one}
use lib.Dec.{T, eqb, eqb→eq, leb, leb→le}
use lib.ListN.{length, get_or, take, drop, length-append, take-append-drop, get_or-append}
use lib.Seq.{take_all, take-suc, drop-cons, drop_at, length-take-le, get_or-drop}
use Rattle.gates.proofs.Laws.{and_T}
use Rattle.gates.proofs.Entries.{entry}
use Rattle.image.specs.declared.image.Net.{Net}
use Rattle.image.specs.Image.{net}
use Rattle.image.specs.Pins.{pin_net}
use Rattle.image.proofs.PinNets.{net_most, like_low}
use Rattle.image.proofs.Pairs.{pairs_append, pairs_get_or}
use Rattle.image.proofs.Encoding.{nothing}
use Rattle.net_checking.proofs.Passes.{kind_most, Passes, is_const, is_input, is_reg, is_not, is_and, is_or, is_xor, is_mux, is_out}
use Rattle.checking.proofs.Checked.{AllPass, nil, cons}
use Rattle.groups.specs.Groups.{group_lengths, group_length, mark_start, group_of}
use Rattle.groups.proofs.Groups.{mark_start_code}
use Rattle.doubled.specs.Doubled.{doubled_size, value_net, mark_net, value_pin, mark_pin, group_at, groups_from, doubled_nets}

pub below_or : (j i : ℕ) → j < suc i → (j < i) ⊎ (j ≡ i)
below_or j i h = elim (dec_lt j i) [ yes k ↦ inl k | no k ↦ inr (omega arith) ]

-- every group has two to eight nets, by one test of the table
lengths_test : ℕ → ℕ → Bool
lengths_test k x = leb 2 x && leb x 8

pub two_to_eight : {n i : ℕ} {x : Net} → Passes n i x → (2 ≤ group_length x.kind) × (group_length x.kind ≤ 8)
unfolding lengths_test group_length group_lengths
two_to_eight {x = x} p =
    let l = get_or group_lengths x.kind 0 in
    let t = and_T (leb 2 l) (leb l 8) (entry lengths_test group_lengths tt x.kind (omega (arith, kind_most p))) in
    (leb→le 2 l t.0, leb→le l 8 t.1)

pub two_or_more : {n i : ℕ} {x : Net} → Passes n i x → 2 ≤ group_length x.kind
two_or_more p = (two_to_eight p).0

-- a group has the length that the table says, and every OUT in it is free; a kind above 8 has 0 there, and no nets
abbrev Free : Net → Net → Type 0
Free x y = T (not (eqb x.kind 8) || eqb x.b 0)

record Shape (k : ℕ) (g : List Net) : Type 0 where
  long : length g ≡ group_length k
  free : Forall₂ Free g g

ruleset freeing = (Forall₂.nil, Forall₂.cons, tt)

shape : (v k a b c : ℕ) (val mrk : ℕ → ℕ) → Shape k (group_of v (net k a b c) val mrk)
unfolding group_length group_lengths group_of
shape v zero a b c val mrk = record { long = refl; free = search freeing depth 20 }
shape v (suc zero) a b c val mrk = record { long = refl; free = search freeing depth 20 }
shape v (suc (suc zero)) a b c val mrk = record { long = refl; free = search freeing depth 20 }
shape v (suc (suc (suc zero))) a b c val mrk = record { long = refl; free = search freeing depth 20 }
shape v (suc (suc (suc (suc zero)))) a b c val mrk = record { long = refl; free = search freeing depth 20 }
shape v (suc (suc (suc (suc (suc zero))))) a b c val mrk = record { long = refl; free = search freeing depth 20 }
shape v (suc (suc (suc (suc (suc (suc zero)))))) a b c val mrk = record { long = refl; free = search freeing depth 20 }
shape v (suc (suc (suc (suc (suc (suc (suc zero))))))) a b c val mrk = record { long = refl; free = search freeing depth 20 }
shape v (suc (suc (suc (suc (suc (suc (suc (suc zero)))))))) a b c val mrk = record { long = refl; free = search freeing depth 20 }
shape v (suc (suc (suc (suc (suc (suc (suc (suc (suc k))))))))) a b c val mrk = record { long = refl; free = search freeing depth 20 }

shape_at : (xs : List Net) (i : ℕ) (y : Net) → Shape y.kind (group_at xs i y)
shape_at xs i y = shape (value_net xs i) y.kind y.a y.b y.c (value_pin xs) (mark_pin xs)

pub group_length_lem : (xs : List Net) (i : ℕ) (y : Net) → length (group_at xs i y) ≡ group_length y.kind
group_length_lem xs i y = (shape_at xs i y).long

pub groups_length : (xs : List Net) (i : ℕ) (ys : List Net) → length (groups_from xs i ys) ≡ doubled_size ys
unfolding groups_from doubled_size
groups_length xs i [] = refl
groups_length xs i (y ∷ ys) =
    length-append (group_at xs i y) (groups_from xs (suc i) ys)
    ∙ ap₂ ◌+◌ (group_length_lem xs i y) (groups_length xs (suc i) ys)

size_append : (xs ys : List Net) → doubled_size (xs ++ ys) ≡ doubled_size xs + doubled_size ys
unfolding doubled_size
size_append [] ys = sym (zero-add (doubled_size ys))
size_append (x ∷ xs) ys = let h = size_append xs ys in omega arith

pub value_end : (xs : List Net) (n : ℕ) → length xs ≤ n → value_net xs n ≡ doubled_size xs
unfolding value_net
value_end xs n h = ap doubled_size (take_all n xs h)

-- the nets ys are those of xs from net i on, and their groups follow each other
pub data Laid (xs : List Net) : ℕ → List Net → Type 0 where
  end : {i : ℕ} → value_net xs i ≡ doubled_size xs → Laid xs i []
  next : {i : ℕ} {y : Net} {ys : List Net} → value_net xs (suc i) ≡ value_net xs i + group_length y.kind → Laid xs (suc i) ys → Laid xs i (y ∷ ys)

pub value_next : (xs : List Net) (i : ℕ) → i < length xs → value_net xs (suc i) ≡ value_net xs i + group_length (get_or xs i nothing).kind
unfolding value_net doubled_size
value_next xs i l = rw (take-suc xs i nothing l) (size_append (take i xs) (get_or xs i nothing ∷ []) ∙ omega arith)

laid_from : (xs ys : List Net) (i : ℕ) → drop i xs ≡ ys → i + length ys ≡ length xs → Laid xs i ys
laid_from xs [] i h k = end (value_end xs i (omega arith))
laid_from xs (y ∷ ys) i h k =
    let l : i < length xs = omega arith in
    let e = drop-cons xs i nothing l in
    let f : get_or xs i nothing ≡ y = cc in
    let g : drop (suc i) xs ≡ ys = cc in
    next (rw f at (value_next xs i l)) (laid_from xs ys (suc i) g (omega arith))

pub laid : (xs : List Net) → Laid xs 0 xs
laid xs = laid_from xs xs 0 refl (omega arith)

-- a later net's group begins at least two nets further on
size_apart : {n k : ℕ} {xs : List Net} → AllPass n k xs → (j i : ℕ) → j < i → i ≤ length xs → doubled_size (take j xs) + 2 ≤ doubled_size (take i xs)
unfolding doubled_size
size_apart nil j i h l = absurd (omega arith)
size_apart (cons p ps) j zero h l = absurd (omega arith)
size_apart (cons p ps) zero (suc i) h l = omega (arith, two_or_more p)
size_apart (cons p ps) (suc j) (suc i) h l = omega (arith, size_apart ps j i (omega arith) (omega arith))

size_up : (xs : List Net) (j i : ℕ) → j ≤ i → doubled_size (take j xs) ≤ doubled_size (take i xs)
unfolding doubled_size
size_up [] zero i h = omega arith
size_up [] (suc j) zero h = omega arith
size_up [] (suc j) (suc i) h = omega arith
size_up (x ∷ xs) zero i h = omega arith
size_up (x ∷ xs) (suc j) zero h = absurd (omega arith)
size_up (x ∷ xs) (suc j) (suc i) h = omega (arith, size_up xs j i (omega arith))

-- no group begins behind the last net
pub value_up : (xs : List Net) (i : ℕ) → value_net xs i ≤ doubled_size xs
unfolding value_net
value_up xs i = omega (arith, size_up xs i (i + length xs) (omega arith), value_end xs (i + length xs) (omega arith))

module _ (xs : List Net) (n : ℕ) (ps : AllPass n 0 xs) (j i : ℕ) (h : j < i) (l : i ≤ length xs) where
  pub value_below : value_net xs j + 2 ≤ value_net xs i
  unfolding value_net
  value_below = size_apart ps j i h l

  pub mark_below : mark_net xs j < value_net xs i
  unfolding value_net mark_net
  mark_below = omega (arith, size_apart ps j (suc j) (omega arith) (omega arith), size_up xs (suc j) i (omega arith))

-- PINS of a group: as net i's pins name nets before it, theirs name nets before the group
module _ (xs : List Net) (n : ℕ) (ps : AllPass n 0 xs) (p i : ℕ) (h : pin_net p < i) (l : i ≤ length xs) where
  pub value_pin_below : pin_net (value_pin xs p) < value_net xs i
  unfolding value_pin
  value_pin_below = omega (arith, like_low p (value_net xs (pin_net p)), value_below xs n ps (pin_net p) i h l)

  pub mark_pin_below : pin_net (mark_pin xs p) < value_net xs i
  unfolding mark_pin
  mark_pin_below = omega (arith, net_most (mark_net xs (pin_net p)), mark_below xs n ps (pin_net p) i h l)

up : {a v : ℕ} → a < v → a < suc v
up h = omega arith

-- the nets of a group that its later nets read
record Earlier (v : ℕ) : Type 0 where
  at_1 : pin_net (v + 1) < suc (suc v)
  at_2 : pin_net (v + 2) < suc (suc (suc v))
  at_3 : pin_net (v + 3) < suc (suc (suc (suc v)))
  at_4 : pin_net (v + 4) < suc (suc (suc (suc (suc v))))
  at_5 : pin_net (v + 5) < suc (suc (suc (suc (suc (suc v)))))
  at_6 : pin_net (v + 6) < suc (suc (suc (suc (suc (suc (suc v))))))

earlier : (v : ℕ) → Earlier v
earlier v = omega (arith, net_most (v + 1), net_most (v + 2), net_most (v + 3), net_most (v + 4), net_most (v + 5), net_most (v + 6))

zero_le_any : {n : ℕ} → 0 ≤ n
zero_le_any = omega arith

mark_start_passes : (b : ℕ) → mark_start b ≤ 2
mark_start_passes b = omega (arith, mark_start_code b)

ruleset passing = (nil, cons, is_const, is_input, is_reg, is_not, is_and, is_or, is_xor, is_mux, is_out, up, zero_le_any, mark_start_passes)

-- the group of a net that passes as net i of n, at v of D nets
module _ (n i D v : ℕ) (val mrk : ℕ → ℕ)
    (val-v : (p : ℕ) → pin_net p < i → pin_net (val p) < v) (mrk-v : (p : ℕ) → pin_net p < i → pin_net (mrk p) < v)
    (val-D : (p : ℕ) → pin_net p < n → pin_net (val p) < D) (mrk-D : (p : ℕ) → pin_net p < n → pin_net (mrk p) < D) (new : Earlier v) where
  group_passes : {x : Net} → Passes n i x → AllPass D v (group_of v x val mrk)
  unfolding group_of
  group_passes (is_const h) = search passing depth 20
  group_passes is_input = search passing depth 20
  group_passes (is_reg h k) = search passing depth 20
  group_passes (is_not h) = search passing depth 20
  group_passes (is_and h k) = search passing depth 20
  group_passes (is_or h k) = search passing depth 20
  group_passes (is_xor h k) = search passing depth 20
  group_passes (is_mux h k l) = search passing depth 20
  group_passes (is_out h k) = search passing depth 20

pass_append : {n i : ℕ} {xs ys : List Net} → AllPass n i xs → AllPass n (i + length xs) ys → AllPass n i (xs ++ ys)
pass_append nil qs = rw add-zero at qs
pass_append {n} {i} {ys = ys} (cons {xs = xs} p ps) qs =
    cons p (pass_append ps (subst (λ m. AllPass n m ys) (let e : i + suc (length xs) ≡ suc i + length xs = omega arith in e) qs))

groups_pass : {xs : List Net} {n : ℕ} → AllPass n 0 xs → n ≡ length xs → {i : ℕ} {ys : List Net} → AllPass n i ys → Laid xs i ys → i + length ys ≡ n
    → AllPass (doubled_size xs) (value_net xs i) (groups_from xs i ys)
unfolding groups_from
groups_pass ps e nil (end l) f = nil
groups_pass {xs} {n} ps e (cons {i = i} {x = y} {xs = ys} p qs) (next l ls) f =
    let v = value_net xs i in
    let g = group_at xs i y in
    let d = value_end xs n (omega arith) in
    let i≤ : i ≤ length xs = omega arith in
    let here =
    group_passes n i (doubled_size xs) v (value_pin xs) (mark_pin xs)
    (λ p h. value_pin_below xs n ps p i h i≤)
    (λ p h. mark_pin_below xs n ps p i h i≤)
    (λ p h. omega (arith, value_pin_below xs n ps p n h (omega arith)))
    (λ p h. omega (arith, mark_pin_below xs n ps p n h (omega arith)))
    (earlier v)
    p in
    let at : value_net xs (suc i) ≡ v + length g = rw (group_length_lem xs i y) l in
    pass_append here (subst (λ m. AllPass (doubled_size xs) m (groups_from xs (suc i) ys)) at (groups_pass ps e qs ls (omega arith)))

pub doubled_passes : {xs : List Net} {n : ℕ} → AllPass n 0 xs → n ≡ length xs → AllPass (doubled_size xs) 0 (doubled_nets xs)
unfolding doubled_nets value_net doubled_size
doubled_passes {xs} ps e = groups_pass ps e ps (laid xs) (omega arith)

-- where a group stands
pub groups_append : (xs : List Net) (i : ℕ) (ys zs : List Net) → groups_from xs i (ys ++ zs) ≡ groups_from xs i ys ++ groups_from xs (i + length ys) zs
unfolding groups_from
groups_append xs i [] zs = rw add-zero
groups_append xs i (y ∷ ys) zs =
    let e : i + suc (length ys) ≡ suc i + length ys = omega arith in
    rw (groups_append xs (suc i) ys zs, e) (sym (append_assoc (group_at xs i y) (groups_from xs (suc i) ys) (groups_from xs (suc i + length ys) zs)))

pub doubled_length : (xs : List Net) → length (doubled_nets xs) ≡ doubled_size xs
unfolding doubled_nets
doubled_length xs = groups_length xs 0 xs

groups_at : (xs : List Net) (i : ℕ) → i ≤ length xs → drop (value_net xs i) (doubled_nets xs) ≡ groups_from xs i (drop i xs)
unfolding doubled_nets value_net
groups_at xs i h =
    let e : groups_from xs 0 xs ≡ groups_from xs 0 (take i xs) ++ groups_from xs i (drop i xs) =
    ap (groups_from xs 0) (sym (take-append-drop i xs)) ∙ groups_append xs 0 (take i xs) (drop i xs) ∙ rw (length-take-le i xs h, zero-add) in
    rw e (drop_at (groups_from xs 0 (take i xs)) (groups_from xs i (drop i xs)) (doubled_size (take i xs)) (groups_length xs 0 (take i xs)))

-- net j of the group of net i
pub group_net : (xs : List Net) (i j : ℕ) → i < length xs → j < group_length (get_or xs i nothing).kind
    → get_or (doubled_nets xs) (value_net xs i + j) nothing ≡ get_or (group_at xs i (get_or xs i nothing)) j nothing
unfolding groups_from
group_net xs i j h l =
    let x = get_or xs i nothing in
    let m : j < length (group_at xs i x) = rw (group_length_lem xs i x) l in
    let rest = groups_from xs (suc i) (drop (suc i) xs) in
    let e : drop (value_net xs i) (doubled_nets xs) ≡ group_at xs i x ++ rest = groups_at xs i (omega arith) ∙ rw (drop-cons xs i nothing h) in
    sym (get_or-drop (value_net xs i) (doubled_nets xs) j nothing) ∙ rw e (get_or-append (group_at xs i x) rest nothing j m)

-- a group of two has its mark net right behind its value net
pub mark_second : (xs : List Net) (i : ℕ) → value_net xs (suc i) ≡ value_net xs i + 2 → mark_net xs i ≡ suc (value_net xs i)
unfolding value_net mark_net
mark_second xs i h = omega arith

-- REGISTERS
module _ (xs : List Net) (i : ℕ) (h : i < length xs) (e : (get_or xs i nothing).kind ≡ 2) where
  register_group :
      group_at xs i (get_or xs i nothing)
      ≡ net 2 (value_pin xs (get_or xs i nothing).a) (get_or xs i nothing).b 0 ∷ net 2 (mark_pin xs (get_or xs i nothing).a) (mark_start (get_or xs i nothing).b) 0 ∷ []
  unfolding group_of
  register_group = rw e

  two_nets : group_length (get_or xs i nothing).kind ≡ 2
  unfolding group_length group_lengths
  two_nets = rw e

  pub value_register : get_or (doubled_nets xs) (value_net xs i) nothing ≡ net 2 (value_pin xs (get_or xs i nothing).a) (get_or xs i nothing).b 0
  value_register = rw (add-zero, register_group) at (group_net xs i 0 h (omega (arith, two_nets)))

  pub mark_register : get_or (doubled_nets xs) (mark_net xs i) nothing ≡ net 2 (mark_pin xs (get_or xs i nothing).a) (mark_start (get_or xs i nothing).b) 0
  mark_register =
      let m : mark_net xs i ≡ value_net xs i + 1 = rw add-one (mark_second xs i (rw two_nets at (value_next xs i h))) in
      rw m (rw register_group at (group_net xs i 1 h (omega (arith, two_nets))))

-- OUTS are free
groups_free : (xs : List Net) (i : ℕ) (ys : List Net) → Forall₂ Free (groups_from xs i ys) (groups_from xs i ys)
unfolding groups_from
groups_free xs i [] = Forall₂.nil
groups_free xs i (y ∷ ys) = pairs_append (shape_at xs i y).free (groups_free xs (suc i) ys)

pub outs_free : (xs : List Net) (j : ℕ) → (get_or (doubled_nets xs) j nothing).kind ≡ 8 → (get_or (doubled_nets xs) j nothing).b ≡ 0
unfolding doubled_nets
outs_free xs j e = eqb→eq _ 0 (rw e at (pairs_get_or j nothing tt (groups_free xs 0 xs)))
