-- The byte of net i, by what code reads for it: a code of the table for a gate or OUT, a row byte, a state byte, or a constant.
use Prim.Native.Nat.{ℕ, zero, suc, ◌+◌, ◌*◌, ◌≤◌, ◌<◌}
use native.Mathlib.Omega.{arith}
use native.Mathlib.Nat.{add-zero}
use mathlib.Core.Logic.{◌⊎◌, inl, inr}
use mathlib.Core.Path.{◌≡◌, refl}
use mathlib.Core.List.{List}
use lib.Dec.{lit<}
use lib.ListN.{length, get_or, take, length-take, get_or-eq_default}
use lib.Seq.{get_or-take, get_or-drop}
use borrow.Author.Tests.{ne_eqb}
use Rattle.gates.specs.Kinds.{CONST, INPUT, REG}
use Rattle.gates.specs.Rules.{gate_byte}
use Rattle.image.specs.declared.image.Net.{Net}
use Rattle.image.specs.Image.{net, kind_at, operand_at, net_at}
use Rattle.image.specs.Pins.{pin_net}
use Rattle.image.proofs.PinNets.{zero_net, one_net}
use Rattle.net_checking.proofs.Passes.{Passes, is_const, is_input, is_reg, is_not, is_and, is_or, is_xor, is_mux, is_out, passes}
use Rattle.cycle.specs.Cycle.{pin_byte, net_byte}
use Rattle.cycle.proofs.Ruling.{pin_same}
use Rattle.cycle_parts.specs.Readable.{walk_at, Readable}

-- what an operand that is read as a pin of net i may be: it names a net below it; or it is 1, at net 1, where it is a policy
abbrev pub Read : (i p : ℕ) → Type 0
Read i p = (pin_net p < i) ⊎ ((i ≡ 1) × (p ≡ 1))

-- an operand that is not listed
unlisted : {i : ℕ} → 0 < i → Read i 0
unlisted h = inl (rw zero_net h)

pub record Gate (i : ℕ) (x : Net) : Type 0 where
  pub kind : x.kind < 9
  pub a : Read i x.a
  pub b : Read i x.b
  pub c : Read i x.c

policy_read : (i b : ℕ) → 0 < i → b ≤ 1 → Read i b
policy_read i zero h l = unlisted h
policy_read zero (suc b) h l = absurd (omega arith)
policy_read (suc zero) (suc zero) h l = inr (refl, refl)
policy_read (suc (suc i)) (suc zero) h l = inl (rw one_net (omega arith))
policy_read (suc i) (suc (suc b)) h l = absurd (omega arith)

-- the pins of a gate or OUT, of which those below net i are read, and those that are not listed are 0
gate_reads : {n i : ℕ} {x : Net} → Passes n i x → 3 ≤ x.kind → Gate i x
gate_reads (is_const p) h = absurd (omega arith)
gate_reads is_input h = absurd (omega arith)
gate_reads (is_reg p q) h = absurd (omega arith)
gate_reads (is_not p) h = record { kind = lit< tt; a = inl p; b = unlisted (omega arith); c = unlisted (omega arith) }
gate_reads (is_and p q) h = record { kind = lit< tt; a = inl p; b = inl q; c = unlisted (omega arith) }
gate_reads (is_or p q) h = record { kind = lit< tt; a = inl p; b = inl q; c = unlisted (omega arith) }
gate_reads (is_xor p q) h = record { kind = lit< tt; a = inl p; b = inl q; c = unlisted (omega arith) }
gate_reads (is_mux p q r) h = record { kind = lit< tt; a = inl p; b = inl q; c = inl r }
gate_reads {i = i} (is_out {b = b} p q) h = record { kind = lit< tt; a = inl p; b = policy_read i b (omega arith) q; c = unlisted (omega arith) }

-- a net that is neither a gate nor OUT, INPUT or REG is a CONST
const_value : {n i : ℕ} {x : Net} → Passes n i x → x.kind < 3 → (x.kind ≡ INPUT → ⊥) → (x.kind ≡ REG → ⊥) → (x.kind ≡ CONST) × (x.a ≤ 1)
const_value (is_const p) h f g = (refl, p)
const_value is_input h f g = absurd (f refl)
const_value (is_reg p q) h f g = absurd (g refl)
const_value (is_not p) h f g = absurd (omega arith)
const_value (is_and p q) h f g = absurd (omega arith)
const_value (is_or p q) h f g = absurd (omega arith)
const_value (is_xor p q) h f g = absurd (omega arith)
const_value (is_mux p q r) h f g = absurd (omega arith)
const_value (is_out p q) h f g = absurd (omega arith)

-- with all that is asked of the bytes, for net i of n
module _ {s : List ℕ} {n : ℕ} {row state nets : List ℕ} {i inputs registers : ℕ}
    (asked : ((i < n) × (length s ≡ 8 + 7 * n) × (length nets ≡ n)) × Readable s n row state nets i inputs registers) where
  pub gate : 3 ≤ kind_at s i → Gate i (net (kind_at s i) (operand_at s n i 0) (operand_at s n i 1) (operand_at s n i 2))
  unfolding net_at
  gate h = gate_reads (passes n i (net_at s n i) asked.1.passes) h

  -- an operand that is read: its net is there, the byte of that net is a code, and the pin reads it
  pub in_range : {p : ℕ} → Read i p → pin_net p < length nets
  in_range (inl l) = omega arith
  in_range (inr e) = rw (e.1, one_net) (omega arith)

  pub code_at : {p : ℕ} → Read i p → get_or nets (pin_net p) 0 < 4
  code_at {p} (inl l) = asked.1.codes (pin_net p) l
  code_at {p} (inr e) = rw (e.1, one_net, asked.1.second (omega arith)) (lit< tt)

  -- a pin whose operand was read as p
  pub reads : {p q : ℕ} → p ≡ q → Read i q → p < 65536 → (p < 65536) × (pin_net p < length nets) × (get_or nets (pin_net p) 0 < 4)
  reads e r l = (l, rw e (in_range r), rw e (code_at r))

  pin_at : {p : ℕ} → Read i p → pin_byte gate_byte (take i nets) p ≡ pin_byte gate_byte nets p
  pin_at {p} (inl l) = pin_same gate_byte (take i nets) nets p (get_or-take i nets (pin_net p) 0 l)
  pin_at {p} (inr e) =
      pin_same gate_byte (take i nets) nets p
      (rw (e.0, e.1, one_net, asked.1.second (omega arith)) (get_or-eq_default (take 1 nets) 0 (rw length-take (omega arith))))

  pub gate_byte_lem : 3 ≤ kind_at s i
      → net_byte gate_byte (net_at s n i) (walk_at row state nets i inputs registers)
      ≡ gate_byte (kind_at s i) (pin_byte gate_byte nets (operand_at s n i 0)) (pin_byte gate_byte nets (operand_at s n i 1)) (pin_byte gate_byte nets (operand_at s n i 2))
  unfolding net_byte net_at
  gate_byte_lem h =
      let g = gate h in
      rw (ne_eqb (kind_at s i) 0 (λ e. omega arith), ne_eqb (kind_at s i) 1 (λ e. omega arith), ne_eqb (kind_at s i) 2 (λ e. omega arith), pin_at g.a, pin_at g.b, pin_at g.c)

  pub input_byte : kind_at s i ≡ INPUT → net_byte gate_byte (net_at s n i) (walk_at row state nets i inputs registers) ≡ get_or row inputs 0
  unfolding net_byte net_at
  input_byte h = rw (h, get_or-drop, add-zero)

  pub register_byte : kind_at s i ≡ REG → net_byte gate_byte (net_at s n i) (walk_at row state nets i inputs registers) ≡ get_or state registers 0
  unfolding net_byte net_at
  register_byte h = rw (h, get_or-drop, add-zero)

  pub const_byte : kind_at s i ≡ CONST → net_byte gate_byte (net_at s n i) (walk_at row state nets i inputs registers) ≡ operand_at s n i 0
  unfolding net_byte net_at
  const_byte h = rw h

  pub is_const_value : kind_at s i < 3 → (kind_at s i ≡ INPUT → ⊥) → (kind_at s i ≡ REG → ⊥) → (kind_at s i ≡ CONST) × (operand_at s n i 0 ≤ 1)
  unfolding net_at
  is_const_value h f g = const_value (passes n i (net_at s n i) asked.1.passes) h f g
