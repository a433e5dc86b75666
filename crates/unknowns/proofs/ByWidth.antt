-- Tables with places for the codes of the pins: what their codes are, for both widths, and the table of width 8 as it is written.
use Prim.Native.Nat.{ℕ, zero, suc, ◌-◌, ◌≤◌, ◌<◌}
use native.Mathlib.Omega.{arith}
use mathlib.Core.Logic.{◌⊎◌, ⊎_elim, inl, inr}
use mathlib.Core.Path.{◌≡◌, refl, sym}
use mathlib.Core.List.{List, flat_map}
use mathlib.Core.Bool.{Bool, true, false, cond}
use lib.Dec.{eqb, ltb, lit≤}
use lib.ListN.{length}
use borrow.Author.Tests.{lt-ltb, ltb-true, ne_eqb}
use Rattle.gates.specs.Kinds.{NOT, OUT}
use Rattle.gates.specs.Rules.{value, mark, byte, not_byte, gate_byte}
use Rattle.gates.specs.Table.{GateTable}
use Rattle.gates.proofs.Laws.{gates_code}
use Rattle.unknowns.specs.Filling.{is_code, fillings, filled, code_of, static_byte}
use Rattle.unknowns.specs.Widths.{rule_by, code_by, width_index, Tabled, Wide}
use Rattle.unknowns.proofs.SixCodes.{IsCode, a_byte, unknown, untrusted, is_code_lem, byte_code, code_small}
use Rattle.unknowns.proofs.Known.{static_known, static_code}
use Rattle.unknowns.proofs.Outs.{out_unread}

-- THE CODES of a width
pub code_4 : (x : ℕ) → code_by 4 x ≡ true → x < 4
unfolding code_by
code_4 x h = ltb-true x 4 h

pub code_8 : (x : ℕ) → code_by 8 x ≡ true → x < 8
unfolding code_by
code_8 x h = code_small (is_code_lem x h)

-- each is below the width
pub code_below : {w : ℕ} {t : List ℕ} → Tabled w t → (x : ℕ) → code_by w x ≡ true → x < w
code_below t x h = ⊎_elim (λ e. rw e (code_4 x (rw e at h))) (λ e. rw e (code_8 x (rw e at h))) t.width_is

-- a code's place is there
pub place_there : {w : ℕ} {t : List ℕ} → Tabled w t → {kind a b c : ℕ} → kind < 9 → a < w → b < w → c < w → width_index w kind a b c < length t
place_there {w} {t} g {kind} {a} {b} {c} k la lb lc =
    ⊎_elim
    (λ e.
    let size : length t ≡ 576 = rw e at g.size in
    let ha : a < 4 = rw e at la in
    let hb : b < 4 = rw e at lb in
    let hc : c < 4 = rw e at lc in
    rw e (omega (arith, size, ha, hb, hc, k)))
    (λ e.
    let size : length t ≡ 4608 = rw e at g.size in
    let ha : a < 8 = rw e at la in
    let hb : b < 8 = rw e at lb in
    let hc : c < 8 = rw e at lc in
    rw e (omega (arith, size, ha, hb, hc, k)))
    g.width_is

-- a width that is not 4 is 8
pub other_width : {w : ℕ} → (w ≡ 4) ⊎ (w ≡ 8) → (w ≡ 4 → ⊥) → w ≡ 8
other_width is other = ⊎_elim (λ e. absurd (other e)) (λ e. e) is

-- a CONST's byte is one, and the rule gives codes
pub const_code : (w a : ℕ) → a ≤ 1 → code_by w a ≡ true
unfolding code_by
const_code w a h = by_width (eqb w 4)
  where
    by_width : (b : Bool) → cond b (ltb a 4) (is_code a) ≡ true
    by_width true = lt-ltb a 4 (omega arith)
    by_width false = byte_code a (omega arith)

pub rule_code : (w kind a b c : ℕ) → code_by w a ≡ true → code_by w b ≡ true → code_by w c ≡ true → code_by w (rule_by w kind a b c) ≡ true
unfolding code_by rule_by
rule_code w kind a b c = by_width (eqb w 4)
  where
    by_width : (q : Bool) → cond q (ltb a 4) (is_code a) ≡ true → cond q (ltb b 4) (is_code b) ≡ true → cond q (ltb c 4) (is_code c) ≡ true
        → cond q (ltb (cond q (gate_byte kind a b c) (static_byte kind a b c)) 4) (is_code (cond q (gate_byte kind a b c) (static_byte kind a b c))) ≡ true
    by_width true ha hb hc =
        let g : gate_byte kind a b c ≤ 3 = gates_code kind a a b b c c (omega (arith, ltb-true a 4 ha)) (omega (arith, ltb-true b 4 hb)) (omega (arith, ltb-true c 4 hc)) in
        lt-ltb (gate_byte kind a b c) 4 (omega arith)
    by_width false ha hb hc = static_code kind a b c

-- a NOT of a known trusted bit is the other one
either_width : (b : Bool) (x : ℕ) → cond b x x ≡ x
either_width true x = refl
either_width false x = refl

pub not_known : (w x : ℕ) → x ≤ 1 → rule_by w NOT x 0 0 ≡ 1 - x
unfolding rule_by gate_byte not_byte value mark byte static_byte filled fillings code_of flat_map
not_known w zero h = either_width (eqb w 4) 1
not_known w (suc zero) h = either_width (eqb w 4) 0
not_known w (suc (suc x)) h = absurd (omega arith)

-- what a NOT gives: of a byte the other value with its mark, by either width; of an unknown bit the bit
pub not_low : (w x : ℕ) → x < 4 → not_byte x ≡ rule_by w NOT x 0 0
unfolding rule_by gate_byte
not_low w x h = by_width (eqb w 4)
  where
    by_width : (b : Bool) → not_byte x ≡ cond b (not_byte x) (static_byte NOT x 0 0)
    by_width true = refl
    by_width false = sym (static_known NOT x 0 0 (omega arith) (lit≤ tt) (lit≤ tt))

-- a code of width 4 is a byte
pub low_code : {w x : ℕ} → code_by w x ≡ true → ((w ≡ 4 → ⊥) × x ≤ 3) ⊎ (w ≡ 4) → x < 4
low_code {w} {x} h is = ⊎_elim (λ low. omega (arith, low.1)) (λ e. code_4 x (rw e at h)) is

code_wide : (w x : ℕ) → (w ≡ 4 → ⊥) → code_by w x ≡ true → is_code x ≡ true
unfolding code_by
code_wide w x other h = rw (ne_eqb w 4 other) at h

unknown_stays : (w : ℕ) {x : ℕ} → (w ≡ 4 → ⊥) → IsCode x → 4 ≤ x → rule_by w NOT x 0 0 ≡ x
unfolding rule_by gate_byte not_byte value mark byte static_byte filled fillings code_of flat_map
unknown_stays w other (a_byte l) h = absurd (omega arith)
unknown_stays w other unknown h = rw (ne_eqb w 4 other)
unknown_stays w other untrusted h = rw (ne_eqb w 4 other)

pub not_unknown : (w x : ℕ) → (w ≡ 4 → ⊥) → code_by w x ≡ true → 4 ≤ x → rule_by w NOT x 0 0 ≡ x
not_unknown w x other h l = unknown_stays w other (is_code_lem x (code_wide w x other h)) l

-- an OUT looks at pin a alone
pub policy_unread : (w a b b' c : ℕ) → rule_by w OUT a b c ≡ rule_by w OUT a b' c
unfolding rule_by gate_byte
policy_unread w a b b' c = by_width (eqb w 4)
  where
    by_width : (q : Bool) → cond q a (static_byte OUT a b c) ≡ cond q a (static_byte OUT a b' c)
    by_width true = refl
    by_width false = out_unread a b b' c

-- WIDTH 4: the plain table
pub plain_tabled : {t : List ℕ} → GateTable t → Tabled 4 t
unfolding rule_by
plain_tabled g =
    record {
      width_is = inl refl;
      size = g.size;
      codes = λ kind a b c k ha hb hc. g.codes kind a b c k (code_4 a ha) (code_4 b hb) (code_4 c hc);
    }

-- WIDTH 8: the table with all its places written
pub wide_tabled : (n : ℕ) (t : List ℕ) → Wide n t → 4608 ≤ n → Tabled 8 t
unfolding rule_by code_by
wide_tabled n t w all =
    record {
      width_is = inr refl;
      size = w.size;
      codes = λ kind a b c k ha hb hc.
          let sa = code_small (is_code_lem a ha) in
          let sb = code_small (is_code_lem b hb) in
          let sc = code_small (is_code_lem c hc) in
          w.codes kind a b c k ha hb hc (omega arith);
    }
