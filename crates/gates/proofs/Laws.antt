-- A relation of bytes that every gate keeps, shown once by a table of all values and marks of the pins.
-- Its instances: agreement, the order by marks (gates are monotone in marks), equal values, and that a gate's byte is 0 to 3.
use Prim.Native.Nat.{ℕ, ◌%◌, ◌≤◌}
use mathlib.Core.Path.{◌≡◌, refl}
use mathlib.Core.Bool.{Bool, true, false, ◌&&◌, ◌||◌, not, cond, beq}
use lib.Dec.{T, eqb, lit≤}
use Rattle.gates.specs.Rules.{bit, value, mark, byte, and_mark, or_mark, xor_mark, mux_mark, not_byte, and_byte, or_byte, xor_byte, mux_byte, gate_byte}
use Rattle.gates.specs.Relations.{AgreeByte, same, low_high, high_low, BelowByte, equal, zero_marked, one_marked}

-- a relation of bytes, as a test of the value and the mark of each
abbrev Test : Type 0
Test = (v t w u : Bool) → Bool

-- what a gate's value and its mark are, from the values a, b, c of its pins and their marks
abbrev ValueRule : Type 0
ValueRule = (a b c : Bool) → Bool

abbrev MarkRule : Type 0
MarkRule = (a ta b tb c tc : Bool) → Bool

-- a test f of all pairs of pins that are related by r
abbrev both : (Bool → Bool) → Bool
both f = f true && f false

abbrev pins : Test → Test → Bool
pins r f = both (λ v. both (λ t. both (λ w. both (λ u. not (r v t w u) || f v t w u))))

-- related pins give related bytes
abbrev outcome : Test → ValueRule → MarkRule → (a ta a' ta' b tb b' tb' : Bool) → Test
outcome r f g a ta a' ta' b tb b' tb' c tc c' tc' = r (f a b c) (g a ta b tb c tc) (f a' b' c') (g a' ta' b' tb' c' tc')

abbrev keeps : Test → ValueRule → MarkRule → Bool
keeps r f g = pins r (λ a ta a' ta'. pins r (λ b tb b' tb'. pins r (outcome r f g a ta a' ta' b tb b' tb')))

pub and_T : (a b : Bool) → T (a && b) → T a × T b
and_T true b h = (tt, h)
and_T false b h = absurd h

implied : (a b : Bool) → T (not a || b) → T a → T b
implied true b h k = h
implied false b h k = absurd k

both_at : (f : Bool → Bool) → T (both f) → (b : Bool) → T (f b)
both_at f h true = (and_T (f true) (f false) h).0
both_at f h false = (and_T (f true) (f false) h).1

pins_at : (r f : Test) → T (pins r f) → (v t w u : Bool) → T (r v t w u) → T (f v t w u)
pins_at r f h v t w u k =
    implied (r v t w u) (f v t w u)
    (both_at (λ u. not (r v t w u) || f v t w u)
    (both_at (λ w. both (λ u. not (r v t w u) || f v t w u))
    (both_at (λ t. both (λ w. both (λ u. not (r v t w u) || f v t w u)))
    (both_at (λ v. both (λ t. both (λ w. both (λ u. not (r v t w u) || f v t w u)))) h v)
    t)
    w)
    u)
    k

-- the gates' rules
abbrev not_value : ValueRule
not_value a b c = not a

abbrev and_value : ValueRule
and_value a b c = a && b

abbrev or_value : ValueRule
or_value a b c = a || b

abbrev xor_value : ValueRule
xor_value a b c = cond a (not b) b

abbrev mux_value : ValueRule
mux_value a b c = cond c b a

abbrev not_rule : MarkRule
not_rule a ta b tb c tc = ta

abbrev and_rule : MarkRule
and_rule a ta b tb c tc = and_mark a ta b tb

abbrev or_rule : MarkRule
or_rule a ta b tb c tc = or_mark a ta b tb

abbrev xor_rule : MarkRule
xor_rule a ta b tb c tc = xor_mark ta tb

-- the table of a relation
record Table (R : ℕ → ℕ → Type 0) (r : Test) : Type 0 where
  into : {x y : ℕ} → R x y → T (r (value x) (mark x) (value y) (mark y))
  back : (v t w u : Bool) → T (r v t w u) → R (byte v t) (byte w u)
  at_not : T (keeps r not_value not_rule)
  at_and : T (keeps r and_value and_rule)
  at_or : T (keeps r or_value or_rule)
  at_xor : T (keeps r xor_value xor_rule)
  at_mux : T (keeps r mux_value mux_mark)

pub cond_related : {A : Type 0} (R : A → A → Type 0) (c : Bool) {x x' y y' : A} → R x x' → R y y' → R (cond c x y) (cond c x' y')
cond_related R true h k = h
cond_related R false h k = k

-- every gate keeps R
abbrev pub Gates : (ℕ → ℕ → Type 0) → Type 0
Gates R = (kind a a' b b' c c' : ℕ) → R a a' → R b b' → R c c' → R (gate_byte kind a b c) (gate_byte kind a' b' c')

module _ {R : ℕ → ℕ → Type 0} {r : Test} (table : Table R r) where
  at_pin : (f : Test) → T (pins r f) → {x y : ℕ} → R x y → T (f (value x) (mark x) (value y) (mark y))
  at_pin f h p = pins_at r f h _ _ _ _ (table.into p)

  gate : (f : ValueRule) (g : MarkRule) → T (keeps r f g) → {a a' b b' c c' : ℕ} → R a a' → R b b' → R c c'
      → R
      (byte (f (value a) (value b) (value c)) (g (value a) (mark a) (value b) (mark b) (value c) (mark c)))
      (byte (f (value a') (value b') (value c')) (g (value a') (mark a') (value b') (mark b') (value c') (mark c')))
  gate f g h {a} {a'} {b} {b'} p q s =
      let at_a = at_pin (λ a ta a' ta'. pins r (λ b tb b' tb'. pins r (outcome r f g a ta a' ta' b tb b' tb'))) h p in
      let at_b = at_pin (λ b tb b' tb'. pins r (outcome r f g (value a) (mark a) (value a') (mark a') b tb b' tb')) at_a q in
      let at_c = at_pin (outcome r f g (value a) (mark a) (value a') (mark a') (value b) (mark b) (value b') (mark b')) at_b s in
      table.back _ _ _ _ at_c

  gates : Gates R
  unfolding gate_byte not_byte and_byte or_byte xor_byte mux_byte
  gates k a a' b b' c c' p q s =
      cond_related R (eqb k 3) (gate not_value not_rule table.at_not p p p)
      (cond_related R (eqb k 4) (gate and_value and_rule table.at_and p q q)
      (cond_related R (eqb k 5) (gate or_value or_rule table.at_or p q q)
      (cond_related R (eqb k 6) (gate xor_value xor_rule table.at_xor p q q)
      (cond_related R (eqb k 7) (gate mux_value mux_mark table.at_mux p q s) p))))

related_to_itself : (r : Test) → T (both (λ v. both (λ t. r v t v t))) → (v t : Bool) → T (r v t v t)
related_to_itself r h v t = both_at (λ t. r v t v t) (both_at (λ v. both (λ t. r v t v t)) h v) t

-- AGREEMENT
abbrev agrees : Test
agrees v t w u = beq t u && (t || beq v w)

agrees_into : {x y : ℕ} → AgreeByte x y → T (agrees (value x) (mark x) (value y) (mark y))
unfolding value mark
agrees_into {x} same = related_to_itself agrees tt (value x) (mark x)
agrees_into low_high = tt
agrees_into high_low = tt

agrees_back : (v t w u : Bool) → T (agrees v t w u) → AgreeByte (byte v t) (byte w u)
unfolding byte
agrees_back true true true true h = same
agrees_back true true false true h = high_low
agrees_back false true true true h = low_high
agrees_back false true false true h = same
agrees_back true false true false h = same
agrees_back false false false false h = same
agrees_back true false false false h = absurd h
agrees_back false false true false h = absurd h
agrees_back v true w false h = absurd h
agrees_back v false w true h = absurd h

pub gates_agree : Gates AgreeByte
unfolding and_mark or_mark xor_mark mux_mark
gates_agree = gates {r = agrees} (record { into = agrees_into; back = agrees_back; at_not = tt; at_and = tt; at_or = tt; at_xor = tt; at_mux = tt })

pub agree_mark : {x y : ℕ} → AgreeByte x y → mark x ≡ mark y
unfolding mark
agree_mark same = refl
agree_mark low_high = refl
agree_mark high_low = refl

-- MONOTONE IN MARKS
abbrev below : Test
below v t w u = beq v w && (not t || u)

below_into : {x y : ℕ} → BelowByte x y → T (below (value x) (mark x) (value y) (mark y))
unfolding value mark
below_into {x} equal = related_to_itself below tt (value x) (mark x)
below_into zero_marked = tt
below_into one_marked = tt

below_back : (v t w u : Bool) → T (below v t w u) → BelowByte (byte v t) (byte w u)
unfolding byte
below_back true true true true h = equal
below_back true false true true h = one_marked
below_back true false true false h = equal
below_back true true true false h = absurd h
below_back false true false true h = equal
below_back false false false true h = zero_marked
below_back false false false false h = equal
below_back false true false false h = absurd h
below_back true t false u h = absurd h
below_back false t true u h = absurd h

pub gates_monotone : Gates BelowByte
unfolding and_mark or_mark xor_mark mux_mark
gates_monotone = gates {r = below} (record { into = below_into; back = below_back; at_not = tt; at_and = tt; at_or = tt; at_xor = tt; at_mux = tt })

pub below_value : {x y : ℕ} → BelowByte x y → value x ≡ value y
unfolding value
below_value equal = refl
below_value zero_marked = refl
below_value one_marked = refl

pub below_mark : {x y : ℕ} → BelowByte x y → mark x ≡ true → mark y ≡ true
unfolding mark
below_mark equal h = h
below_mark zero_marked h = refl
below_mark one_marked h = refl

-- VALUES: the value of a gate is found from the values of its pins alone
pub record SameValue (x y : ℕ) : Type 0 where
  pub values : x % 2 ≡ y % 2

abbrev same_values : Test
same_values v t w u = beq v w

values_into : {x y : ℕ} → SameValue x y → T (same_values (value x) (mark x) (value y) (mark y))
unfolding value
values_into {y = y} h = rw h.values (related_to_itself same_values tt (value y) (mark y))

byte_value : (v t : Bool) → byte v t % 2 ≡ bit v
unfolding byte
byte_value true true = refl
byte_value true false = refl
byte_value false true = refl
byte_value false false = refl

values_back : (v t w u : Bool) → T (same_values v t w u) → SameValue (byte v t) (byte w u)
values_back true t true u h = record { values = rw (byte_value true t, byte_value true u) }
values_back false t false u h = record { values = rw (byte_value false t, byte_value false u) }
values_back true t false u h = absurd h
values_back false t true u h = absurd h

pub gates_values : Gates SameValue
unfolding and_mark or_mark xor_mark mux_mark
gates_values = gates {r = same_values} (record { into = values_into; back = values_back; at_not = tt; at_and = tt; at_or = tt; at_xor = tt; at_mux = tt })

-- CODES. A property of one byte is a relation that looks at the first byte alone
abbrev pub Code : ℕ → ℕ → Type 0
Code x y = x ≤ 3

pub byte_code : (v t : Bool) → byte v t ≤ 3
unfolding byte
byte_code true true = lit≤ tt
byte_code true false = lit≤ tt
byte_code false true = lit≤ tt
byte_code false false = lit≤ tt

pub gates_code : Gates Code
unfolding and_mark or_mark xor_mark mux_mark
gates_code =
    gates {r = λ v t w u. true}
    (record { into = λ h. tt; back = λ v t w u h. byte_code v t; at_not = tt; at_and = tt; at_or = tt; at_xor = tt; at_mux = tt })
