-- Static cycles, net by net, by the law that the bytes of a cycle satisfy every net's rule.
use Prim.Native.Nat.{ℕ, zero, suc, ◌≤◌, ◌<◌}
use native.Mathlib.Omega.{arith}
use mathlib.Core.Path.{◌≡◌, refl, sym, ◌∙◌}
use mathlib.Core.List.{List, [], ◌∷◌, flat_map}
use lib.ListN.{get_or}
use borrow.Author.Tests.{ne_eqb}
use Rattle.gates.specs.Kinds.{CONST, INPUT, REG, NOT}
use Rattle.gates.specs.Rules.{value, mark, byte, and_mark, or_mark, xor_mark, mux_mark, not_byte, and_byte, or_byte, xor_byte, mux_byte, gate_byte}
use Rattle.unknowns.specs.Filling.{fillings, filled, code_of, static_byte}
use Rattle.unknowns.proofs.Outs.{out_unread}
use Rattle.image.specs.declared.image.Net.{Net}
use Rattle.image.specs.Image.{sizes_of, net, net_at, nets_from, nets_of, count, encode}
use Rattle.image.specs.Pins.{pin_net}
use Rattle.image.specs.Examples.{counter}
use Rattle.image.proofs.Nets.{length_nets}
use Rattle.image.proofs.PinNets.{top_net, top_pin}
use Rattle.refusals.specs.Refusals.{bad_byte, bad_length}
use Rattle.net_checking.specs.NetCheck.{net_refusal}
use Rattle.checking.specs.Check.{nets_refusal, check_refusal}
use Rattle.checking.proofs.Checked.{Checked}
use Rattle.cycle.specs.Cycle.{Walk, pin_byte, net_byte, past, walk, bytes_of, flow, verdict_from, outputs_from, registers, clocked, cycle_of, cycles_of, outputs_of, state_after, first_of, first_flow}
use Rattle.cycle.specs.Calls.{done, as_run}
use Rattle.cycle.proofs.Ruling.{PolicyUnread, sight, plain_reads, cycle_ruled}
use Rattle.cycle.proofs.Selections.{outputs_selected, registers_selected, selection_length}
use Rattle.cycle.proofs.Walks.{bytes_length}
use Rattle.static_run.specs.StaticCalls.{static, static_run_refusal, static_run_of}
use Rattle.static_run.proofs.StaticRefused.{static_none, static_accepted}
use Rattle.claims.specs.NetBytes.{net_of}
use Rattle.claims.specs.StaticNets.{StaticPins, StaticNets, StaticCycles, nil, cons, static_counted, StaticNetsAll}
use Rattle.claims.proofs.NetBytes.{selected, first_left}
use Rattle.claims.proofs.Verdicts.{verdicts}

static_pins : StaticPins
unfolding pin_byte
static_pins = record { upright = λ bs j h. plain_reads static_byte bs h; inverted = λ bs j. rw (top_pin j, top_net j) }

-- an OUT looks at pin a alone
policy : PolicyUnread static_byte
policy = record { unread = out_unread }

-- the code of a net by its kind, at what it sees
module _ (x : Net) (w : Walk) where
  const_is : x.kind ≡ CONST → net_byte static_byte x w ≡ x.a
  unfolding net_byte
  const_is h = rw h

  input_is : x.kind ≡ INPUT → net_byte static_byte x w ≡ get_or w.row 0 0
  unfolding net_byte
  input_is h = rw h

  register_is : x.kind ≡ REG → net_byte static_byte x w ≡ get_or w.state 0 0
  unfolding net_byte
  register_is h = rw h

  gate_is : NOT ≤ x.kind
      → net_byte static_byte x w ≡ static_byte x.kind (pin_byte static_byte w.bytes x.a) (pin_byte static_byte w.bytes x.b) (pin_byte static_byte w.bytes x.c)
  unfolding net_byte
  gate_is h = rw (ne_eqb x.kind 0 (λ e. omega arith), ne_eqb x.kind 1 (λ e. omega arith), ne_eqb x.kind 2 (λ e. omega arith))

module _ {s : List ℕ} (c : Checked s) (row st : List ℕ) where
  abbrev bs : List ℕ
  bs = bytes_of static_byte (nets_of s) row st

  ruled : (i : ℕ) → i < (sizes_of s).nets → get_or bs i 0 ≡ net_byte static_byte (net_of s i) (sight (nets_of s) row st bs i)
  ruled i h = (cycle_ruled policy c.nets row st).byte i (net 0 0 0 0) (omega (arith, length_nets s))

  static_cycle : StaticNets s row st (cycle_of static (nets_of s) row st)
  unfolding cycle_of clocked
  static_cycle =
      record {
        nets = bytes_length static_byte (nets_of s) row st ∙ length_nets s;
        constant = λ i h e. ruled i h ∙ const_is (net_of s i) _ e;
        input = λ i h e. ruled i h ∙ input_is (net_of s i) _ e ∙ sym (first_left row _ refl);
        register = λ i h e. ruled i h ∙ register_is (net_of s i) _ e ∙ sym (first_left st _ refl);
        gate = λ i h e. ruled i h ∙ gate_is (net_of s i) _ e;
        verdict = verdicts static_byte (nets_of s) row st;
        outputs = selection_length (outputs_selected _) 0 (nets_of s) ∙ sym c.outputs;
        output = λ i h e. selected i h (outputs_selected _) e;
        registers = selection_length (registers_selected _) 0 (nets_of s) ∙ sym c.registers;
        clock = λ i h e. selected i h (registers_selected _) e;
      }

static_cycles : {s : List ℕ} (k : ℕ) {rows st : List ℕ} → Checked s → StaticCycles s k rows st (cycles_of static (nets_of s) (sizes_of s).inputs k rows st)
unfolding cycles_of
static_cycles zero c = nil
static_cycles (suc k) c = cons (static_cycle c _ _) (static_cycles k c)

-- THE EXAMPLE, computed
gating : Unit {0}
unfolding value mark byte and_mark or_mark xor_mark mux_mark not_byte and_byte or_byte xor_byte mux_byte gate_byte fillings filled code_of static_byte flat_map
gating = tt

refusing : Unit {0}
unfolding sizes_of net_at nets_from nets_of pin_net count net_refusal nets_refusal check_refusal bad_byte bad_length static_run_refusal
refusing = tt

running : Unit {0}
unfolding pin_byte net_byte past walk bytes_of verdict_from outputs_from registers clocked cycle_of cycles_of outputs_of state_after first_of first_flow as_run static_run_of
running = tt

static_example : static_counted ≡ record { answer = done (record { cycle = 3; verdict = flow 5 }); state = 6 ∷ []; outputs = 0 ∷ 4 ∷ 4 ∷ 6 ∷ [] }
unfolding gating refusing running counter encode static_counted
static_example = refl

pub static_nets : StaticNetsAll
unfolding as_run
static_nets =
    record {
      pins = static_pins;
      example = static_example;
      run = λ s st k rows outputs h.
          let a = static_accepted s st k rows outputs h in
          record {
            cycles = cycles_of static (nets_of s) (sizes_of s).inputs k rows st;
            are = static_cycles k ((static_none s st k rows outputs).0 h).0.image;
            answer = rw a;
            state = rw a;
            output_codes = rw a;
          };
    }
