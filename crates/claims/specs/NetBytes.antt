-- Demand 2, the first half of its first sentence: each value and each mark is the one that the gate rules give, in every cycle. The other half is Verdicts.
use Rattle.std.specs.Prelude.{ℕ, ◌≤◌, ◌<◌, ◌≡◌, List, length, get_or, take}
use Rattle.std.proofs.Math.Option.{none}
use Rattle.gates.specs.Kinds.{CONST, INPUT, REG, NOT, AND, OR, XOR, MUX, OUT}
use Rattle.gates.specs.Rules.{not_byte, and_byte, or_byte, xor_byte, mux_byte, gate_byte}
use Rattle.image.specs.declared.image.Net.{Net}
use Rattle.image.specs.Image.{sizes_of, net, nets_of, count}
use Rattle.image.specs.Pins.{pin_net}
use Rattle.checking.specs.Check.{check_refusal}
use Rattle.cycle.specs.Cycle.{plain, pin_byte, Cycle, cycle_of}
pub use Rattle.claims.specs.Reading.{net_of}

-- "Inputs, registers and outputs are each counted in net order": the place of net i among the nets of its kind k is how many of them stand before it
abbrev pub place_of : (k : ℕ) (s : List ℕ) (i : ℕ) → ℕ
place_of k s i = count k (take i (nets_of s))

-- in a list with a byte for each net of kind k, net i has the byte x
pub record Counted (k : ℕ) (s : List ℕ) (i : ℕ) (bytes : List ℕ) (x : ℕ) : Type 0 where
  pub below : place_of k s i < length bytes
  pub byte : get_or bytes (place_of k s i) 0 ≡ x

-- in a cycle with this row and with the register bytes st, and with the bytes bs of all nets: what net i may be, and the byte that it then has
module _ (s row st bs : List ℕ) (i : ℕ) where
  -- what a pin reads (PinsMean says what that is). It names a net below i, so that all bytes follow from the row and the state, net after net
  abbrev pin : (p : ℕ) → ℕ
  pin p = pin_byte gate_byte bs p

  pub data HasByte : Net → ℕ → Type 0 where
    const : {a : ℕ} → a ≤ 1 → HasByte (net CONST a 0 0) a
    input : {x : ℕ} → Counted INPUT s i row x → HasByte (net INPUT 0 0 0) x
    reg : {a b x : ℕ} → pin_net a < (sizes_of s).nets → Counted REG s i st x → HasByte (net REG a b 0) x
    not : {a : ℕ} → pin_net a < i → HasByte (net NOT a 0 0) (not_byte (pin a))
    and : {a b : ℕ} → pin_net a < i → pin_net b < i → HasByte (net AND a b 0) (and_byte (pin a) (pin b))
    or : {a b : ℕ} → pin_net a < i → pin_net b < i → HasByte (net OR a b 0) (or_byte (pin a) (pin b))
    xor : {a b : ℕ} → pin_net a < i → pin_net b < i → HasByte (net XOR a b 0) (xor_byte (pin a) (pin b))
    mux : {a b c : ℕ} → pin_net a < i → pin_net b < i → pin_net c < i → HasByte (net MUX a b c) (mux_byte (pin a) (pin b) (pin c))
    out : {a b : ℕ} → pin_net a < i → HasByte (net OUT a b 0) (pin a)

-- a cycle c with this row and these register bytes: N net bytes; O output bytes, those of the OUTs; and R register bytes after the clock, when every register has taken
-- what its pin reads, as it was in this cycle
pub record NetBytes (s row st : List ℕ) (c : Cycle) : Type 0 where
  pub nets : length c.bytes ≡ (sizes_of s).nets
  pub net_byte_lem : (i : ℕ) → i < (sizes_of s).nets → HasByte s row st c.bytes i (net_of s i) (get_or c.bytes i 0)
  pub outputs : length c.outputs ≡ (sizes_of s).outputs
  pub output_byte : (i : ℕ) → i < (sizes_of s).nets → (net_of s i).kind ≡ OUT → Counted OUT s i c.outputs (get_or c.bytes i 0)
  pub registers : length c.state ≡ (sizes_of s).registers
  pub clock : (i : ℕ) → i < (sizes_of s).nets → (net_of s i).kind ≡ REG → Counted REG s i c.state (pin_byte gate_byte c.bytes (net_of s i).a)

-- every cycle on an accepted image, with a row of I bytes and R register bytes. An accepted step is one (StepIsCycle of Steps), and an accepted run is its steps (AsSteps).
-- Proved as `net_bytes`
abbrev pub NetBytesAll : Type 0
NetBytesAll =
    (s row st : List ℕ) → check_refusal s ≡ none → length row ≡ (sizes_of s).inputs → length st ≡ (sizes_of s).registers
    → NetBytes s row st (cycle_of plain (nets_of s) row st)

-- and no other bytes are such: N bytes of which each is the one that its net may have are the bytes of the cycle, in whatever order they were worked out.
-- Proved as `ruled_bytes`
abbrev pub RuledBytesAll : Type 0
RuledBytesAll =
    (s row st bs : List ℕ) → check_refusal s ≡ none → length bs ≡ (sizes_of s).nets
    → ((i : ℕ) → i < (sizes_of s).nets → HasByte s row st bs i (net_of s i) (get_or bs i 0))
    → bs ≡ (cycle_of plain (nets_of s) row st).bytes
