-- The byte of every net in a cycle, and what becomes of it.
use Prim.Native.Nat.{ℕ, ◌<◌}
use native.Mathlib.Nat.{add-zero}
use native.Mathlib.Omega.{arith}
use mathlib.Core.Path.{◌≡◌, refl, sym, ◌∙◌}
use mathlib.Core.List.{List}
use lib.ListN.{length, get_or, drop}
use lib.Seq.{get_or-drop}
use Rattle.gates.specs.Rules.{gate_byte}
use Rattle.image.specs.declared.image.Net.{Net}
use Rattle.image.specs.Image.{sizes_of, net, nets_of, count}
use Rattle.image.specs.Pins.{pin_net}
use Rattle.image.proofs.Nets.{net_in, length_nets}
use Rattle.net_checking.proofs.Passes.{Passes, is_const, is_input, is_reg, is_not, is_and, is_or, is_xor, is_mux, is_out}
use Rattle.checking.proofs.Checked.{Checked, check_none, net_passes}
use Rattle.cycle.specs.Cycle.{pin_byte, net_byte, clocked, cycle_of}
use Rattle.cycle.proofs.Selections.{Selection, outputs_selected, registers_selected, selection_length, place_below, selection_place}
use Rattle.cycle.proofs.Walks.{WorkedOut, bytes_length, worked_out}
use Rattle.cycle.proofs.Ruling as ruling
use Rattle.cycle.proofs.Ruling.{sight, pin_same, out_passes_on}
use Rattle.claims.specs.NetBytes.{net_of, place_of, Counted, HasByte, const, input, reg, not, and, or, xor, mux, out, NetBytesAll, RuledBytesAll}

-- the first of what is left of a list
pub first_left : (l : List ℕ) (n : ℕ) {r : List ℕ} → r ≡ drop n l → get_or l n 0 ≡ get_or r 0 0
first_left l n e = rw (e, get_or-drop n l 0 0, add-zero)

module _ {s : List ℕ} (i : ℕ) (h : i < (sizes_of s).nets) where
  counted : {k x : ℕ} {bytes : List ℕ} → (net_of s i).kind ≡ k → length bytes ≡ count k (nets_of s) → get_or bytes (place_of k s i) 0 ≡ x → Counted k s i bytes x
  counted {k} e l b = record { below = omega (arith, place_below k (nets_of s) i _ (omega (arith, length_nets s)) e); byte = b }

  pub selected : {k : ℕ} {list : ℕ → List Net → List ℕ} {byte : ℕ → Net → ℕ} → Selection k list byte → (net_of s i).kind ≡ k
      → Counted k s i (list 0 (nets_of s)) (byte i (net_of s i))
  selected z e = counted e (selection_length z 0 (nets_of s)) (selection_place z (nets_of s) i _ (omega (arith, length_nets s)) e)

  -- net i, by its kind
  module _ (c : Checked s) {row st bs : List ℕ} (inputs : length row ≡ (sizes_of s).inputs) (registers : length st ≡ (sizes_of s).registers) where
    reads : {x : Net} (w : WorkedOut gate_byte (nets_of s) row st bs i x) (p : ℕ) → pin_net p < i → pin_byte gate_byte w.before.bytes p ≡ pin_byte gate_byte bs p
    reads w p l = pin_same gate_byte w.before.bytes bs p (w.pins (pin_net p) l)

    by_kind : {x : Net} → (net_of s i).kind ≡ x.kind → Passes (sizes_of s).nets i x → (w : WorkedOut gate_byte (nets_of s) row st bs i x)
        → HasByte s row st bs i x (net_byte gate_byte x w.before)
    unfolding net_byte gate_byte
    by_kind e (is_const l) w = const l
    by_kind e is_input w = input (counted e (inputs ∙ c.inputs) (first_left row _ w.row_left))
    by_kind e (is_reg l m) w = reg l (counted e (registers ∙ c.registers) (first_left st _ w.state_left))
    by_kind e (is_not {a} l) w = rw (reads w a l) (not l)
    by_kind e (is_and {a} {b} l m) w = rw (reads w a l, reads w b m) (and l m)
    by_kind e (is_or {a} {b} l m) w = rw (reads w a l, reads w b m) (or l m)
    by_kind e (is_xor {a} {b} l m) w = rw (reads w a l, reads w b m) (xor l m)
    by_kind e (is_mux {a} {b} {c} l m o) w = rw (reads w a l, reads w b m, reads w c o) (mux l m o)
    by_kind e (is_out {a} l m) w = rw (reads w a l) (out l)

    has_byte : WorkedOut gate_byte (nets_of s) row st bs i (net_of s i) → HasByte s row st bs i (net_of s i) (get_or bs i 0)
    has_byte w = rw w.byte (by_kind refl (rw (net_in s _ i _ refl h) (net_passes c refl i h)) w)

pub net_bytes : NetBytesAll
unfolding cycle_of clocked
net_bytes s row st a inputs registers =
    let c = (check_none s).0 a in
    record {
      nets = bytes_length gate_byte (nets_of s) row st ∙ length_nets s;
      net_byte_lem = λ i h. has_byte i h c inputs registers (worked_out gate_byte (nets_of s) row st i _ (omega (arith, length_nets s)));
      outputs = selection_length (outputs_selected _) 0 (nets_of s) ∙ sym c.outputs;
      output_byte = λ i h e. selected i h (outputs_selected _) e;
      registers = selection_length (registers_selected _) 0 (nets_of s) ∙ sym c.registers;
      clock = λ i h e. selected i h (registers_selected _) e;
    }

-- the byte that a net may have is the one that its rule gives it
by_rule : {s row st bs : List ℕ} {i : ℕ} {x : Net} {b : ℕ} → HasByte s row st bs i x b → b ≡ net_byte gate_byte x (sight (nets_of s) row st bs i)
unfolding net_byte gate_byte
by_rule (const l) = refl
by_rule {row = row} (input c) = sym c.byte ∙ first_left row _ refl
by_rule {st = st} (reg l c) = sym c.byte ∙ first_left st _ refl
by_rule (not l) = refl
by_rule (and l m) = refl
by_rule (or l m) = refl
by_rule (xor l m) = refl
by_rule (mux l m o) = refl
by_rule (out l) = refl

pub ruled_bytes : RuledBytesAll
unfolding cycle_of
ruled_bytes s row st bs a size has =
    ruling.ruled_bytes out_passes_on ((check_none s).0 a).nets row st
    (record {
      size = size ∙ sym (length_nets s);
      byte = λ i d h.
          let l : i < (sizes_of s).nets = omega (arith, length_nets s) in
          rw (net_in s _ i d refl l ∙ sym (net_in s _ i (net 0 0 0 0) refl l)) (by_rule (has i l));
    })
    (net 0 0 0 0)
