-- Settling the gates of an image in net order: each net that takes the byte of its rule leaves the nets below it, and so their rules, as they are.
use Prim.Native.Nat.{ℕ, suc, ◌-◌, ◌≤◌, ◌<◌, ◌%◌}
use native.Mathlib.Omega.{arith}
use mathlib.Core.Logic.{⊎_elim}
use mathlib.Core.Path.{◌≡◌, refl, sym, ap, ◌∙◌}
use mathlib.Core.List.{List, []}
use mathlib.Core.Bool.{Bool, true, false, cond}
use lib.Dec.{eqb, leb, lit<}
use lib.ListN.{length, get_or}
use borrow.Author.Tests.{eq-eqb, ne_eqb, le-leb, leb-true, leb-false}
use Rattle.gates.specs.Kinds.{CONST, NOT}
use Rattle.unknowns.specs.Widths.{rule_by, code_by}
use Rattle.unknowns.proofs.ByWidth.{const_code, not_known, policy_unread, rule_code}
use Rattle.image.specs.declared.image.Net.{Net}
use Rattle.image.specs.Image.{sizes_of, net, kind_at, operand_at, net_at}
use Rattle.image.specs.Pins.{pin_net}
use Rattle.image.proofs.PinNets.{zero_net, net_most, pin_most}
use Rattle.net_checking.proofs.Passes.{Passes, is_const, is_input, is_reg, is_not, is_and, is_or, is_xor, is_mux, is_out}
use Rattle.std.proofs.Math.Option.{none}
use Rattle.checking.specs.Check.{check_refusal}
use Rattle.checking.proofs.Checked.{Checked, check_none, net_passes}
use Rattle.cycle.specs.Cycle.{Walk, pin_byte, net_byte}
use Rattle.cycle.proofs.Deciding.{below_or_here}
use Rattle.cycle.proofs.Ruling.{PolicyUnread, same_byte}
use Rattle.inverses.specs.Inverses.{put_pair, put_both, Both}
use Rattle.inverses.proofs.Places.{put_size, put_here, put_other, put_keeps, put_next, pin_place, pin_code}
use Rattle.settling.specs.Settling.{rule_at, settled_at, Settled, Prepared}

-- by every width, an OUT does not look at its policy
pub policy_of : (w : ℕ) → PolicyUnread (rule_by w)
policy_of w = record { unread = policy_unread w }

-- THE RULE of a gate or OUT is that of the cycle, and depends on the bytes below it alone
pub gate_rule : (width : ℕ) (s : List ℕ) (i : ℕ) (w : Walk) → NOT ≤ kind_at s i → net_byte (rule_by width) (net_at s (sizes_of s).nets i) w ≡ rule_at width s w.bytes i
unfolding net_byte net_at rule_at
gate_rule width s i w h = rw (ne_eqb (kind_at s i) 0 (λ e. omega arith), ne_eqb (kind_at s i) 1 (λ e. omega arith), ne_eqb (kind_at s i) 2 (λ e. omega arith))

rule_same : (width : ℕ) (s bs cs : List ℕ) (i : ℕ) → Passes (sizes_of s).nets i (net_at s (sizes_of s).nets i) → NOT ≤ kind_at s i
    → ((j : ℕ) → j < i → get_or bs j 0 ≡ get_or cs j 0) → rule_at width s bs i ≡ rule_at width s cs i
rule_same width s bs cs i p h below =
    let v : Walk = record { bytes = bs; row = []; state = [] } in
    let w : Walk = record { bytes = cs; row = []; state = [] } in
    sym (gate_rule width s i v h) ∙ same_byte (policy_of width) v w p below refl refl ∙ gate_rule width s i w h

-- what a gate or OUT reads is there. Operand b of an OUT, its policy, is read as a pin is
pub record Pins (n : ℕ) (x : Net) : Type 0 where
  pub kind : x.kind < 9
  pub a : pin_net x.a < n
  pub b : pin_net x.b < n
  pub c : pin_net x.c < n

unlisted : {n i : ℕ} → i < n → pin_net 0 < n
unlisted l = rw zero_net (omega arith)

gate_pins : {n i : ℕ} {x : Net} → Passes n i x → i < n → NOT ≤ x.kind → Pins n x
gate_pins (is_const p) l h = absurd (omega arith)
gate_pins is_input l h = absurd (omega arith)
gate_pins (is_reg p q) l h = absurd (omega arith)
gate_pins (is_not p) l h = record { kind = lit< tt; a = omega arith; b = unlisted l; c = unlisted l }
gate_pins (is_and p q) l h = record { kind = lit< tt; a = omega arith; b = omega arith; c = unlisted l }
gate_pins (is_or p q) l h = record { kind = lit< tt; a = omega arith; b = omega arith; c = unlisted l }
gate_pins (is_xor p q) l h = record { kind = lit< tt; a = omega arith; b = omega arith; c = unlisted l }
gate_pins (is_mux p q r) l h = record { kind = lit< tt; a = omega arith; b = omega arith; c = omega arith }
gate_pins (is_out {b = b} p q) l h = record { kind = lit< tt; a = omega arith; b = omega (arith, net_most b); c = unlisted l }

pub pins_there : {s : List ℕ} → Checked s → (i : ℕ) → i < (sizes_of s).nets → NOT ≤ kind_at s i
    → Pins (sizes_of s).nets (net (kind_at s i) (operand_at s (sizes_of s).nets i 0) (operand_at s (sizes_of s).nets i 1) (operand_at s (sizes_of s).nets i 2))
unfolding net_at
pins_there c i h g = gate_pins (net_passes c refl i h) h g

-- what a pin reads stands at the place that is its number, and is a code
pub pin_there : {n : ℕ} (p : ℕ) → n ≤ 8192 → pin_net p < n → p < 40960
pin_there p few h = omega (arith, pin_most p)

pub pin_coded : {w : ℕ} {bs : List ℕ} {n : ℕ} → Both w bs n → (p : ℕ) → pin_net p < n → code_by w (get_or bs p 0) ≡ true
pin_coded {w} {bs} both p h = rw (pin_place both p h) (pin_code w bs p (both.codes (pin_net p) h))

-- what a pin p reads: it is a place that is there, and has a code
pub record Reads (w : ℕ) (nets : List ℕ) (p : ℕ) : Type 0 where
  pub place : p < 40960
  pub code : code_by w (get_or nets p 0) ≡ true
  pub pin : get_or nets p 0 ≡ pin_byte (rule_by w) nets p

-- and the pins of a gate or OUT, with its kind: each names a net
pub record Gate (w : ℕ) (s nets : List ℕ) (i : ℕ) : Type 0 where
  pub kind : kind_at s i < 9
  pub a-named : pin_net (operand_at s (sizes_of s).nets i 0) < (sizes_of s).nets
  pub b-named : pin_net (operand_at s (sizes_of s).nets i 1) < (sizes_of s).nets
  pub c-named : pin_net (operand_at s (sizes_of s).nets i 2) < (sizes_of s).nets
  pub a : Reads w nets (operand_at s (sizes_of s).nets i 0)
  pub b : Reads w nets (operand_at s (sizes_of s).nets i 1)
  pub c : Reads w nets (operand_at s (sizes_of s).nets i 2)

pub gate_there : {w : ℕ} {s nets : List ℕ} {i k : ℕ} → check_refusal s ≡ none → i < (sizes_of s).nets → Both w nets (sizes_of s).nets → k ≡ kind_at s i → NOT ≤ k → Gate w s nets i
gate_there {w} {s} {nets} {i} accepted h both kind gate =
    let known : Checked s = (check_none s).0 accepted in
    let pins = pins_there known i h (rw kind at gate) in
    let reads : (p : ℕ) → pin_net p < (sizes_of s).nets → Reads w nets p = λ p l. record { place = pin_there p known.few_nets l; code = pin_coded both p l; pin = pin_place both p l } in
    record { kind = pins.kind; a-named = pins.a; b-named = pins.b; c-named = pins.c; a = reads _ pins.a; b = reads _ pins.b; c = reads _ pins.c }

rule_coded : (w : ℕ) (s bs : List ℕ) (i : ℕ) → Both w bs (sizes_of s).nets
    → Pins (sizes_of s).nets (net (kind_at s i) (operand_at s (sizes_of s).nets i 0) (operand_at s (sizes_of s).nets i 1) (operand_at s (sizes_of s).nets i 2))
    → code_by w (rule_at w s bs i) ≡ true
unfolding rule_at
rule_coded w s bs i both p = rule_code w _ _ _ _ (pin_code w bs _ (both.codes _ p.a)) (pin_code w bs _ (both.codes _ p.b)) (pin_code w bs _ (both.codes _ p.c))

-- net i with its kind and its operands as they are read: it takes the code that the table has for what stands at the places of its pins
module _ (w : ℕ) (s nets : List ℕ) (i : ℕ) {k a b c x y : ℕ} (kind : k ≡ kind_at s i) (gate : NOT ≤ kind_at s i)
    (a-is : a ≡ operand_at s (sizes_of s).nets i 0) (b-is : b ≡ operand_at s (sizes_of s).nets i 1) (c-is : c ≡ operand_at s (sizes_of s).nets i 2)
    (a-reads : get_or nets a 0 ≡ pin_byte (rule_by w) nets a) (b-reads : get_or nets b 0 ≡ pin_byte (rule_by w) nets b) (c-reads : get_or nets c 0 ≡ pin_byte (rule_by w) nets c)
    (code : x ≡ rule_by w k (get_or nets a 0) (get_or nets b 0) (get_or nets c 0)) (inverse : y ≡ rule_by w NOT x 0 0) where
  pub takes_code : put_pair nets i x y ≡ settled_at w s i nets
  unfolding settled_at rule_at
  takes_code = rw (inverse, code, a-reads, b-reads, c-reads, kind, a-is, b-is, c-is, le-leb NOT (kind_at s i) gate)

-- SETTLING may start at any net below which there is no gate and no OUT
pub settle_begins : {w : ℕ} {s nets : List ℕ} {from : ℕ} → Both w nets (sizes_of s).nets → ((i : ℕ) → i < from → kind_at s i < NOT) → Settled w s nets nets from
settle_begins b below = record { size = refl; sources = λ j m h. refl; gates = λ j h g. let m = below j h in absurd (omega arith); both = b }

module _ {width : ℕ} {s : List ℕ} (c : Checked s) {before nets : List ℕ} {i : ℕ} (h : i < (sizes_of s).nets) (size : length nets ≡ 40960)
    (w : Settled width s before nets i) where
  -- a gate or OUT
  takes : NOT ≤ kind_at s i → Settled width s before (put_both width nets i (rule_at width s nets i)) (suc i)
  takes g =
      let v = rule_at width s nets i in
      let y = rule_by width NOT v 0 0 in
      let few = c.few_nets in
      let here = put_here nets i v y (omega arith) (omega arith) in
      let kept : (j : ℕ) → j < (sizes_of s).nets → (j ≡ i → ⊥) → get_or (put_both width nets i v) j 0 ≡ get_or nets j 0 = λ j m o. put_other nets i v y (omega arith) o in
      record {
        size = put_size nets i v y ∙ w.size;
        sources = λ j m l. kept j m (λ o. let k = rw o at l in omega arith) ∙ w.sources j m l;
        gates = λ j l k.
            ⊎_elim
            (λ o. rw o (here ∙ rule_same width s nets (put_both width nets i v) i (net_passes c refl i h) g (λ a m. sym (kept a (omega arith) (λ o. omega arith)))))
            (λ m.
            kept j (omega arith) (λ o. omega arith)
            ∙ w.gates j m k
            ∙ rule_same width s nets (put_both width nets i v) j (net_passes c refl j (omega arith)) k (λ a m. sym (kept a (omega arith) (λ o. omega arith))))
            (below_or_here i j l);
        both = put_keeps width nets i v (omega arith) (omega arith) (rule_coded width s nets i w.both (pins_there c i h g)) (omega arith) w.both;
      }

  -- a net of another kind
  stays : kind_at s i < NOT → Settled width s before nets (suc i)
  stays g =
      record {
        size = w.size;
        sources = w.sources;
        gates = λ j l k. ⊎_elim (λ o. let m = rw o at k in absurd (omega arith)) (λ m. w.gates j m k) (below_or_here i j l);
        both = w.both;
      }

  either : (b : Bool) → leb NOT (kind_at s i) ≡ b → Settled width s before (cond b (put_both width nets i (rule_at width s nets i)) nets) (suc i)
  either true o = takes (leb-true NOT (kind_at s i) o)
  either false o = stays (leb-false NOT (kind_at s i) o)

  pub settle_goes_on : Settled width s before (settled_at width s i nets) (suc i)
  unfolding settled_at
  settle_goes_on = either (leb NOT (kind_at s i)) refl

  pub settle_next : {exit : List ℕ} {j : ℕ} → exit ≡ settled_at width s i nets → j ≡ suc i → Settled width s before exit j
  settle_next o j-is = rw (o, j-is) settle_goes_on

pub settled_at_lem : {w : ℕ} {s before after : List ℕ} {i j : ℕ} → i ≡ j → Settled w s before after i → Settled w s before after j
settled_at_lem e h = rw e at h

-- PREPARING: each net below i has its constant, or 0
abbrev pub first_byte : (s : List ℕ) (i : ℕ) → ℕ
first_byte s i = cond (eqb (kind_at s i) CONST) (operand_at s (sizes_of s).nets i 0 % 2) 0

pub first_is : (s : List ℕ) (i : ℕ) {k a x : ℕ} → k ≡ kind_at s i → a ≡ operand_at s (sizes_of s).nets i 0 → x ≡ cond (eqb k CONST) (a % 2) 0 → x ≡ first_byte s i
first_is s i kind a-is e = e ∙ rw (kind, a-is)

const_small : {n i : ℕ} {x : Net} → Passes n i x → x.kind ≡ CONST → x.a ≤ 1
const_small (is_const p) h = p
const_small is_input h = absurd (omega arith)
const_small (is_reg p q) h = absurd (omega arith)
const_small (is_not p) h = absurd (omega arith)
const_small (is_and p q) h = absurd (omega arith)
const_small (is_or p q) h = absurd (omega arith)
const_small (is_xor p q) h = absurd (omega arith)
const_small (is_mux p q r) h = absurd (omega arith)
const_small (is_out p q) h = absurd (omega arith)

constant_at : {s : List ℕ} → Checked s → (i : ℕ) → i < (sizes_of s).nets → kind_at s i ≡ CONST → operand_at s (sizes_of s).nets i 0 ≤ 1
unfolding net_at
constant_at c i h k = const_small (net_passes c refl i h) k

first_small : (b : Bool) (a : ℕ) → cond b (a % 2) 0 ≤ 1
first_small true a = omega arith
first_small false a = omega arith

chosen_small : (s : List ℕ) (i : ℕ) → first_byte s i ≤ 1
chosen_small s i = first_small (eqb (kind_at s i) CONST) (operand_at s (sizes_of s).nets i 0)

-- a NOT of a CONST's byte, or of 0, is the other one by every width
pub prepare_goes_on : {w : ℕ} {s nets : List ℕ} {i : ℕ} → Checked s → i < (sizes_of s).nets → length nets ≡ 40960
    → Prepared w s nets i → Prepared w s (put_pair nets i (first_byte s i) (1 - first_byte s i)) (suc i)
prepare_goes_on {w} {s} {nets} {i} c h size p =
    let n = (sizes_of s).nets in
    let v = first_byte s i in
    let y = rule_by w NOT v 0 0 in
    let few = c.few_nets in
    let e : 1 - v ≡ y = sym (not_known w v (chosen_small s i)) in
    let here : get_or (put_both w nets i v) i 0 ≡ v = put_here nets i v y (omega arith) (omega arith) in
    let kept : (j : ℕ) → j < i → get_or (put_both w nets i v) j 0 ≡ get_or nets j 0 = λ j m. put_other nets i v y (omega arith) (λ o. omega arith) in
    rw e
    (record {
      constants = λ j l k.
          ⊎_elim
          (λ o.
          let m : kind_at s i ≡ CONST = ap (λ a. kind_at s a) (sym o) ∙ k in
          let small : operand_at s n i 0 % 2 ≡ operand_at s n i 0 = omega (arith, constant_at c i h m) in
          rw o (here ∙ rw (eq-eqb (kind_at s i) CONST m) small))
          (λ m. kept j m ∙ p.constants j m k)
          (below_or_here i j l);
      both = put_next w nets i v (omega arith) (omega arith) (const_code w v (chosen_small s i)) p.both;
    })
