-- Bytes that satisfy every net's rule are the bytes of the cycle, in whatever order they were worked out. For any rule that looks at pin a alone of an OUT.
use Prim.Native.Nat.{ℕ, zero, suc, ◌+◌, ◌≤◌, ◌<◌}
use native.Mathlib.Nat.{add-zero, eq-or-lt_of_le, le_of_suc-le-suc}
use native.Mathlib.Omega.{arith}
use mathlib.Core.Logic.{⊎_elim}
use mathlib.Core.Path.{◌≡◌, refl, sym, ◌∙◌}
use mathlib.Core.List.{List}
use lib.ListN.{length, get_or, take, drop}
use lib.Seq.{ext_get_or}
use Rattle.gates.specs.Kinds.{INPUT, REG, OUT}
use Rattle.gates.specs.Rules.{not_byte, gate_byte}
use Rattle.image.specs.declared.image.Net.{Net}
use Rattle.image.specs.Image.{count}
use Rattle.image.specs.Pins.{pin_net}
use Rattle.image.proofs.PinNets.{plain_net, plain_pin, top_net, top_pin, zero_net}
use Rattle.net_checking.proofs.Passes.{Passes, is_const, is_input, is_reg, is_not, is_and, is_or, is_xor, is_mux, is_out}
use Rattle.checking.proofs.Checked.{AllPass, nil, cons}
use Rattle.cycle.specs.Cycle.{Rule, Walk, pin_byte, net_byte, bytes_of}
use Rattle.cycle.proofs.Walks.{bytes_length, worked_out}

-- operand b of an OUT is its policy, which is read as a pin is: the rule does not look at it
pub record PolicyUnread (rule : Rule) : Type 0 where
  pub unread : (a b b' c : ℕ) → rule OUT a b c ≡ rule OUT a b' c

pub out_passes_on : PolicyUnread gate_byte
unfolding gate_byte
out_passes_on = record { unread = λ a b b' c. refl }

-- what net i reads when all nets have bytes: its own row byte and state byte come first
abbrev pub sight : (xs : List Net) (row state bs : List ℕ) (i : ℕ) → Walk
sight xs row state bs i = record { bytes = bs; row = drop (count INPUT (take i xs)) row; state = drop (count REG (take i xs)) state }

-- every net has the byte that its kind gives it, from the bytes that are there
pub record Ruled (rule : Rule) (xs : List Net) (row state bs : List ℕ) : Type 0 where
  pub size : length bs ≡ length xs
  pub byte : (i : ℕ) (d : Net) → i < length xs → get_or bs i 0 ≡ net_byte rule (get_or xs i d) (sight xs row state bs i)

pub pass_at : {n k : ℕ} {xs : List Net} → AllPass n k xs → (i : ℕ) (d : Net) → i < length xs → Passes n (k + i) (get_or xs i d)
pass_at nil i d h = absurd (omega arith)
pass_at {k = k} (cons p ps) zero d h = rw (add-zero k) p
pass_at {k = k} (cons p ps) (suc i) d h = let e : k + suc i ≡ suc k + i = omega arith in rw e (pass_at ps i d (omega arith))

-- a pin without the top bit reads the byte of the net with its number
pub plain_reads : (rule : Rule) (bs : List ℕ) {p : ℕ} → p < 32768 → pin_byte rule bs p ≡ get_or bs p 0
unfolding pin_byte
plain_reads rule bs h = rw (plain_pin h, plain_net h)

-- and one with it what a NOT of that net gives, which has the other value and the same mark
pub inverted_reads : (bs : List ℕ) (j : ℕ) → pin_byte gate_byte bs (32768 + j) ≡ not_byte (get_or bs j 0)
unfolding pin_byte gate_byte
inverted_reads bs j = rw (top_pin j, top_net j)

-- what a pin reads depends on the byte of its net alone
pub pin_same : (rule : Rule) (bs cs : List ℕ) (p : ℕ) → get_or bs (pin_net p) 0 ≡ get_or cs (pin_net p) 0 → pin_byte rule bs p ≡ pin_byte rule cs p
unfolding pin_byte
pin_same rule bs cs p e = rw e

module _ {rule : Rule} (policy : PolicyUnread rule) where
  -- the byte of net i depends on the bytes below it, the next row byte and the next state byte alone. An operand that is not listed is 0, and names net 0
  pub same_byte : {n i : ℕ} {x : Net} (w w' : Walk) → Passes n i x → ((j : ℕ) → j < i → get_or w.bytes j 0 ≡ get_or w'.bytes j 0)
      → w.row ≡ w'.row → w.state ≡ w'.state → net_byte rule x w ≡ net_byte rule x w'
  unfolding net_byte
  same_byte {i = i} w w' p h r s = by_kind p
    where
      reads : (a : ℕ) → pin_net a < i → pin_byte rule w.bytes a ≡ pin_byte rule w'.bytes a
      reads a l = pin_same rule w.bytes w'.bytes a (h (pin_net a) l)

      -- an operand that is not listed
      unlisted : 0 < i → pin_byte rule w.bytes 0 ≡ pin_byte rule w'.bytes 0
      unlisted l = reads 0 (rw zero_net l)

      by_kind : {n : ℕ} {x : Net} → Passes n i x → net_byte rule x w ≡ net_byte rule x w'
      by_kind (is_const l) = refl
      by_kind is_input = rw r
      by_kind (is_reg l m) = rw s
      by_kind (is_not {a} l) = rw (reads a l, unlisted (omega arith))
      by_kind (is_and {a} {b} l m) = rw (reads a l, reads b m, unlisted (omega arith))
      by_kind (is_or {a} {b} l m) = rw (reads a l, reads b m, unlisted (omega arith))
      by_kind (is_xor {a} {b} l m) = rw (reads a l, reads b m, unlisted (omega arith))
      by_kind (is_mux {a} {b} {c} l m o) = rw (reads a l, reads b m, reads c o)
      by_kind (is_out {a} {b} l m) = rw (reads a l, unlisted (omega arith)) (policy.unread _ _ _ _)

  module _ {n : ℕ} {xs : List Net} (ps : AllPass n 0 xs) (row state : List ℕ) where
    abbrev cycle_bytes : List ℕ
    cycle_bytes = bytes_of rule xs row state

    passes_at : (i : ℕ) (d : Net) → i < length xs → Passes n i (get_or xs i d)
    passes_at i d h = let e : 0 + i ≡ i = omega arith in rw e at (pass_at ps i d h)

    -- the bytes of the cycle are such bytes
    pub cycle_ruled : Ruled rule xs row state (bytes_of rule xs row state)
    cycle_ruled =
        record {
          size = bytes_length rule xs row state;
          byte = λ i d h.
              let w = worked_out rule xs row state i d h in
              w.byte ∙ same_byte w.before (sight xs row state cycle_bytes i) (passes_at i d h) w.pins w.row_left w.state_left;
        }

    -- and there are no others
    module _ {bs : List ℕ} (r : Ruled rule xs row state bs) (d : Net) where
      one_more : (i : ℕ) → i < length xs → ((j : ℕ) → j < i → get_or bs j 0 ≡ get_or cycle_bytes j 0) → get_or bs i 0 ≡ get_or cycle_bytes i 0
      one_more i h below =
          r.byte i d h ∙ same_byte (sight xs row state bs i) (sight xs row state cycle_bytes i) (passes_at i d h) below refl refl ∙ sym (cycle_ruled.byte i d h)

      all_below : (i : ℕ) → i ≤ length xs → (j : ℕ) → j < i → get_or bs j 0 ≡ get_or cycle_bytes j 0
      all_below zero h j l = absurd (omega arith)
      all_below (suc i) h j l =
          let below = all_below i (omega arith) in
          ⊎_elim (λ e. rw e (one_more i (omega arith) below)) (λ m. below j m) (eq-or-lt_of_le (le_of_suc-le-suc l))

      pub ruled_bytes : bs ≡ bytes_of rule xs row state
      ruled_bytes =
          ext_get_or 0 bs cycle_bytes (r.size ∙ sym (bytes_length rule xs row state))
          (λ i h. all_below (length xs) (omega arith) i (omega (arith, r.size)))
