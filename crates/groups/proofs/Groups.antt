-- What the nets of a group come to, past the bytes of the nets before it: the first is the value of the source's byte, the last its mark.
use Prim.Native.Nat.{ℕ, zero, suc, ◌+◌, ◌-◌, ◌/◌, ◌%◌, ◌≤◌, ◌<◌}
use mathlib.Core.Path.{◌≡◌, refl, sym, ◌∙◌}
use mathlib.Core.List.{List, [], ◌∷◌, ◌++◌, append_assoc, append-nil}
use mathlib.Core.Bool.{Bool, true, false, ◌&&◌, cond}
use native.Mathlib.Omega.{arith}
use native.Mathlib.Nat.{add-zero}
use borrow.Author.Tests.{ne_eqb, eqb-true, leb-true}
use lib.Dec.{eqb, leb, lit≤}
use lib.ListN.{length, get_or, length-append, get_or-append}
use lib.Seq.{get_or-append-add}
use Rattle.gates.specs.Rules.{bit, value, mark, byte, and_mark, or_mark, xor_mark, mux_mark, not_byte, and_byte, or_byte, xor_byte, mux_byte, gate_byte}
use Rattle.gates.proofs.EachCode.{both, each, each_pair, each_triple}
use Rattle.image.specs.declared.image.Net.{Net}
use Rattle.image.specs.Image.{net}
use Rattle.image.specs.Pins.{inverted, pin_net, like_pin}
use Rattle.image.proofs.PinNets.{plain_net, plain_pin, like_net, like_pin_lem}
use Rattle.cycle.specs.Cycle.{Walk, pin_byte, net_byte, past, walk, registers}
use Rattle.cycle.specs.Calls.{start, starts}
use Rattle.cycle.proofs.Ruling.{plain_reads, pin_same}
use Rattle.groups.specs.Groups.{mark_start, reg_group, group_of}
use Rattle.groups.proofs.GroupBytes.{not_bytes, and_bytes, or_bytes, xor_bytes, mux_bytes}

abbrev pub at : (bytes row state : List ℕ) → Walk
at b r s = record { bytes = b; row = r; state = s }

-- what a pin reads among the bytes bs
abbrev pub read : (bs : List ℕ) (p : ℕ) → ℕ
read bs p = pin_byte gate_byte bs p

pub past_gate : (k a b c : ℕ) (w : Walk) → 3 ≤ k
    → past gate_byte (net k a b c) w ≡ at (w.bytes ++ (gate_byte k (read w.bytes a) (read w.bytes b) (read w.bytes c) ∷ [])) w.row w.state
unfolding past net_byte
past_gate k a b c w h = rw (ne_eqb k 0 (λ e. omega arith), ne_eqb k 1 (λ e. omega arith), ne_eqb k 2 (λ e. omega arith))

-- what a pin of a group reads, past the bytes bs with es behind them: what it reads among bs, or a byte of es, or anything, for a pin that the gate does not use.
-- The nets of a doubled netlist are so few that none has a number with the top bit
pub data Pin (bs : List ℕ) (v : ℕ) (es : List ℕ) : ℕ → ℕ → Type 0 where
  old : {p x : ℕ} → pin_net p < v → read bs p ≡ x → Pin bs v es p x
  new : (k : ℕ) → v + k < 32768 → Pin bs v es (v + k) (get_or es k 0)
  unread : {p : ℕ} → Pin bs v es p (read (bs ++ es) p)

reads : {bs : List ℕ} {v : ℕ} {es : List ℕ} {p x : ℕ} → length bs ≡ v → Pin bs v es p x → read (bs ++ es) p ≡ x
reads {bs} {v} {es} {p} l (old h e) = pin_same gate_byte (bs ++ es) bs p (get_or-append bs es 0 (pin_net p) (omega arith)) ∙ e
reads {bs} {v} {es} l (new k h) = plain_reads gate_byte (bs ++ es) h ∙ rw (← l) (get_or-append-add bs es k 0)
reads l unread = refl

-- gates gs come to the bytes fs, past the bytes bs with es behind them
pub data Comes (bs : List ℕ) (v : ℕ) : List ℕ → List Net → List ℕ → Type 0 where
  done : {es : List ℕ} → Comes bs v es [] es
  gate :
      {k p q c x y z : ℕ} {es fs : List ℕ} {gs : List Net} → 3 ≤ k
      → Pin bs v es p x → Pin bs v es q y → Pin bs v es c z
      → Comes bs v (es ++ (gate_byte k x y z ∷ [])) gs fs → Comes bs v es (net k p q c ∷ gs) fs

walked : {bs : List ℕ} {v : ℕ} {es fs : List ℕ} {gs : List Net} (row st : List ℕ) → length bs ≡ v → Comes bs v es gs fs
    → walk gate_byte gs (at (bs ++ es) row st) ≡ at (bs ++ fs) row st
unfolding walk
walked row st l done = refl
walked {bs} {es = es} row st l (gate {k} {p} {q} {c} {x} {y} {z} {gs = gs} h a b d r) =
    rw (past_gate k p q c (at (bs ++ es) row st) h, reads l a, reads l b, reads l d, append_assoc bs es (gate_byte k x y z ∷ [])) (walked row st l r)

pub walked_all : {bs : List ℕ} {v : ℕ} {fs : List ℕ} {gs : List Net} (row st : List ℕ) → length bs ≡ v → Comes bs v [] gs fs
    → walk gate_byte gs (at bs row st) ≡ at (bs ++ fs) row st
walked_all {bs} row st l c = rw (append-nil bs) at (walked row st l c)

pub comes_length : {bs : List ℕ} {v : ℕ} {es fs : List ℕ} {gs : List Net} → Comes bs v es gs fs → length fs ≡ length es + length gs
comes_length done = sym (add-zero _)
comes_length (gate {k} {x = x} {y} {z} {es} {gs = gs} h a b c r) = comes_length r ∙ rw length-append (omega arith)

-- the first byte of a group is the value of the byte x, and the last its mark
pub record Splits (x : ℕ) (es : List ℕ) : Type 0 where
  pub more : 2 ≤ length es
  pub first : get_or es 0 0 ≡ x % 2
  pub last : get_or es (length es - 1) 0 ≡ x / 2
  pub fits : x ≤ 3

abbrev split_test : ℕ → List ℕ → Bool
split_test x es = leb 2 (length es) && (eqb (get_or es 0 0) (x % 2) && (eqb (get_or es (length es - 1) 0) (x / 2) && leb x 3))

splits : (x : ℕ) (es : List ℕ) → split_test x es ≡ true → Splits x es
splits x es h =
    let a = both _ _ h in
    let b = both _ _ a.1 in
    let c = both _ _ b.1 in
    record { more = leb-true _ _ a.0; first = eqb-true _ _ b.0; last = eqb-true _ _ c.0; fits = leb-true _ _ c.1 }

pub byte_splits : (a : ℕ) → a ≤ 3 → Splits a (a % 2 ∷ a / 2 ∷ [])
byte_splits a h = splits _ _ (each (λ a. split_test a (a % 2 ∷ a / 2 ∷ [])) refl a h)

not_splits : (a : ℕ) → a ≤ 3 → Splits (not_byte a) (not_bytes a)
unfolding value mark byte or_mark not_byte or_byte not_bytes
not_splits a h = splits _ _ (each (λ a. split_test (not_byte a) (not_bytes a)) refl a h)

and_splits : (a b : ℕ) → a ≤ 3 → b ≤ 3 → Splits (and_byte a b) (and_bytes a b)
unfolding value mark byte and_mark or_mark and_byte or_byte and_bytes
and_splits a b h k = splits _ _ (each_pair (λ a b. split_test (and_byte a b) (and_bytes a b)) refl a b h k)

or_splits : (a b : ℕ) → a ≤ 3 → b ≤ 3 → Splits (or_byte a b) (or_bytes a b)
unfolding value mark byte and_mark or_mark not_byte and_byte or_byte or_bytes
or_splits a b h k = splits _ _ (each_pair (λ a b. split_test (or_byte a b) (or_bytes a b)) refl a b h k)

xor_splits : (a b : ℕ) → a ≤ 3 → b ≤ 3 → Splits (xor_byte a b) (xor_bytes a b)
unfolding value mark byte or_mark xor_mark or_byte xor_byte xor_bytes
xor_splits a b h k = splits _ _ (each_pair (λ a b. split_test (xor_byte a b) (xor_bytes a b)) refl a b h k)

mux_splits : (a b c : ℕ) → a ≤ 3 → b ≤ 3 → c ≤ 3 → Splits (mux_byte a b c) (mux_bytes a b c)
unfolding value mark byte and_mark or_mark xor_mark mux_mark and_byte or_byte xor_byte mux_byte mux_bytes
mux_splits a b c h k l = splits _ _ (each_triple (λ a b c. split_test (mux_byte a b c) (mux_bytes a b c)) refl a b c h k l)

pub const_splits : (a : ℕ) → a ≤ 1 → Splits a (a ∷ 0 ∷ [])
const_splits zero h = splits _ _ refl
const_splits (suc zero) h = splits _ _ refl
const_splits (suc (suc a)) h = absurd (omega arith)

-- PINS. What a pin p reads among the bytes bs, and what reads its value and its mark where net m has, among ds, the value or the mark of the net that it names: a pin to m with the
-- top bit as p has it reads the value, and one without it the mark
not_value : (x : ℕ) → x ≤ 3 → gate_byte 3 (x % 2) 0 0 ≡ gate_byte 3 x 0 0 % 2
unfolding gate_byte value mark byte not_byte
not_value x h = eqb-true _ _ (each (λ x. eqb (gate_byte 3 (x % 2) 0 0) (gate_byte 3 x 0 0 % 2)) refl x h)

not_mark : (x : ℕ) → x ≤ 3 → gate_byte 3 x 0 0 / 2 ≡ x / 2
unfolding gate_byte value mark byte not_byte
not_mark x h = eqb-true _ _ (each (λ x. eqb (gate_byte 3 x 0 0 / 2) (x / 2)) refl x h)

module _ (bs ds : List ℕ) (p m : ℕ) (few : m < 32768) (code : get_or bs (pin_net p) 0 ≤ 3) where
  pub value_reads : get_or ds m 0 ≡ get_or bs (pin_net p) 0 % 2 → read ds (like_pin p m) ≡ read bs p % 2
  unfolding pin_byte
  value_reads e = rw (like_pin_lem p m few, like_net p m few, e) (by_flag (inverted p))
    where
      by_flag : (b : Bool) → let x = get_or bs (pin_net p) 0 in cond b (gate_byte 3 (x % 2) 0 0) (x % 2) ≡ cond b (gate_byte 3 x 0 0) x % 2
      by_flag true = not_value _ code
      by_flag false = refl

  pub mark_reads : get_or ds m 0 ≡ get_or bs (pin_net p) 0 / 2 → read ds m ≡ read bs p / 2
  unfolding pin_byte
  mark_reads e = rw (plain_pin few, plain_net few, e) (by_flag (inverted p))
    where
      by_flag : (b : Bool) → let x = get_or bs (pin_net p) 0 in x / 2 ≡ cond b (gate_byte 3 x 0 0) x / 2
      by_flag true = sym (not_mark _ code)
      by_flag false = refl

-- THE GROUPS. The byte x that a pin reads, as what its value pin p and its mark pin q read among bs; both name nets before net v
pub record Bits (bs : List ℕ) (v p q x : ℕ) : Type 0 where
  pub value_in : pin_net p < v
  pub mark_in : pin_net q < v
  pub value_is : read bs p ≡ x % 2
  pub mark_is : read bs q ≡ x / 2

-- the bytes ws of the nets before net i, and the bytes bs of their groups
module _ (ws bs : List ℕ) (i v : ℕ) (few : v + 8 ≤ 32768) (val mrk : ℕ → ℕ)
    (bits : (p : ℕ) → pin_net p < i → Bits bs v (val p) (mrk p) (read ws p)) (codes : (p : ℕ) → read ws p ≤ 3) where
  -- the group of a gate: what its nets come to, and that this splits the gate's byte
  pub record Group (k a b c : ℕ) : Type 0 where
    pub bytes : List ℕ
    pub comes : Comes bs v [] (group_of v (net k a b c) val mrk) bytes
    pub splits : Splits (gate_byte k (read ws a) (read ws b) (read ws c)) bytes

  value_of : {es : List ℕ} {p : ℕ} → pin_net p < i → Pin bs v es (val p) (read ws p % 2)
  value_of h = let t = bits _ h in old t.value_in t.value_is

  mark_of : {es : List ℕ} {p : ℕ} → pin_net p < i → Pin bs v es (mrk p) (read ws p / 2)
  mark_of h = let t = bits _ h in old t.mark_in t.mark_is

  inner : {es : List ℕ} (k : ℕ) → k < 8 → Pin bs v es (v + k) (get_or es k 0)
  inner k h = new k (omega arith)

  pub not_group : {a : ℕ} → pin_net a < i → Group 3 a 0 0
  unfolding group_of gate_byte not_bytes
  not_group {a} h =
      record {
        bytes = not_bytes (read ws a);
        comes = gate (lit≤ tt) (value_of h) unread unread (gate (lit≤ tt) (mark_of h) (mark_of h) unread done);
        splits = not_splits _ (codes a);
      }

  pub and_group : {a b : ℕ} → pin_net a < i → pin_net b < i → Group 4 a b 0
  unfolding group_of gate_byte and_bytes
  and_group {a} {b} h k =
      record {
        bytes = and_bytes (read ws a) (read ws b);
        comes =
            gate (lit≤ tt) (value_of h) (value_of k) unread
            (gate (lit≤ tt) (mark_of h) (value_of k) unread
            (gate (lit≤ tt) (mark_of k) (value_of h) unread
            (gate (lit≤ tt) (mark_of h) (mark_of k) unread
            (gate (lit≤ tt) (inner 1 (omega arith)) (inner 2 (omega arith)) unread
            (gate (lit≤ tt) (inner 4 (omega arith)) (inner 3 (omega arith)) unread done)))));
        splits = and_splits _ _ (codes a) (codes b);
      }

  pub or_group : {a b : ℕ} → pin_net a < i → pin_net b < i → Group 5 a b 0
  unfolding group_of gate_byte or_bytes
  or_group {a} {b} h k =
      record {
        bytes = or_bytes (read ws a) (read ws b);
        comes =
            gate (lit≤ tt) (value_of h) (value_of k) unread
            (gate (lit≤ tt) (value_of h) unread unread
            (gate (lit≤ tt) (value_of k) unread unread
            (gate (lit≤ tt) (mark_of h) (inner 2 (omega arith)) unread
            (gate (lit≤ tt) (mark_of k) (inner 1 (omega arith)) unread
            (gate (lit≤ tt) (mark_of h) (mark_of k) unread
            (gate (lit≤ tt) (inner 3 (omega arith)) (inner 4 (omega arith)) unread
            (gate (lit≤ tt) (inner 6 (omega arith)) (inner 5 (omega arith)) unread done)))))));
        splits = or_splits _ _ (codes a) (codes b);
      }

  pub xor_group : {a b : ℕ} → pin_net a < i → pin_net b < i → Group 6 a b 0
  unfolding group_of gate_byte xor_bytes
  xor_group {a} {b} h k =
      record {
        bytes = xor_bytes (read ws a) (read ws b);
        comes = gate (lit≤ tt) (value_of h) (value_of k) unread (gate (lit≤ tt) (mark_of h) (mark_of k) unread done);
        splits = xor_splits _ _ (codes a) (codes b);
      }

  pub mux_group : {a b c : ℕ} → pin_net a < i → pin_net b < i → pin_net c < i → Group 7 a b c
  unfolding group_of gate_byte mux_bytes
  mux_group {a} {b} {c} h k l =
      record {
        bytes = mux_bytes (read ws a) (read ws b) (read ws c);
        comes =
            gate (lit≤ tt) (value_of h) (value_of k) (value_of l)
            (gate (lit≤ tt) (value_of h) (value_of k) unread
            (gate (lit≤ tt) (mark_of h) (mark_of k) unread
            (gate (lit≤ tt) (inner 1 (omega arith)) (inner 2 (omega arith)) unread
            (gate (lit≤ tt) (mark_of l) (inner 3 (omega arith)) unread
            (gate (lit≤ tt) (mark_of h) (mark_of k) (value_of l)
            (gate (lit≤ tt) (inner 4 (omega arith)) (inner 5 (omega arith)) unread done))))));
        splits = mux_splits _ _ _ (codes a) (codes b) (codes c);
      }

  pub out_group : {a : ℕ} (b : ℕ) → pin_net a < i → Group 8 a b 0
  unfolding group_of gate_byte
  out_group {a} b h =
      record {
        bytes = read ws a % 2 ∷ read ws a / 2 ∷ [];
        comes = gate (lit≤ tt) (value_of h) unread unread (gate (lit≤ tt) (mark_of h) unread unread done);
        splits = byte_splits _ (codes a);
      }

-- of the two registers of a REG, the first powers up with the byte of its start, and the second with the mark of that byte
pub reg_starts : (va ta b : ℕ) → starts (reg_group va ta b) ≡ start b ∷ start b / 2 ∷ []
unfolding starts registers start byte mark_start
reg_starts va ta b = by_tests (eqb b 1) (eqb b 2)
  where
    by_tests : (o t : Bool) → (byte o t ∷ byte (eqb (bit t) 1) (eqb (bit t) 2) ∷ []) ≡ (byte o t ∷ byte o t / 2 ∷ [])
    by_tests true true = refl
    by_tests true false = refl
    by_tests false true = refl
    by_tests false false = refl

-- the start of a mark register is a start
pub mark_start_code : (b : ℕ) → mark_start b ≤ 1
unfolding mark_start
mark_start_code b = bit_code (eqb b 2)
  where
    bit_code : (t : Bool) → bit t ≤ 1
    bit_code true = lit≤ tt
    bit_code false = lit≤ tt
