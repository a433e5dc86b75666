-- When a call is accepted: exactly if its image is as document 01's "The image" asks, and K, the state, the rows and the buffer have the lengths and bytes that 9 to 16 and 18 to 20 ask for.
-- Which refusal is given otherwise is Refused. The kinds are 0 CONST, 1 INPUT, 2 REG, 3 NOT, 4 AND, 5 OR, 6 XOR, 7 MUX, 8 OUT.
use Rattle.std.specs.Prelude.{ℕ, ◌+◌, ◌*◌, ◌/◌, ◌≤◌, ◌<◌, ◌↔◌, ◌≡◌, List, length, get_or, drop}
use Rattle.std.proofs.Math.Option.{none}
use Rattle.image.specs.declared.image.Net.{Net}
use Rattle.image.specs.Image.{sizes_of, nets_of, count, u16}
use Rattle.image.specs.Pins.{pin_net}
use Rattle.checking.specs.Check.{check_refusal}
use Rattle.cycle.specs.State.{state_length, marked_count, registers_in}
use Rattle.cycle.specs.Calls.{power_up_refusal, step_refusal, run_refusal}
use Rattle.doubled.specs.Doubled.{doubled_size}
use Rattle.figures.specs.Figures.{doubled_size_of}
use Rattle.doubling.specs.Doubling.{double_refusal}
use Rattle.static_run.specs.StaticCalls.{static_power_up_refusal, static_run_refusal}
use Rattle.paging.specs.Paging.{page_refusal}
use Rattle.claims.specs.Reading.{net_of}

-- 1 to 3 do not apply
pub record Sized (s : List ℕ) : Type 0 where
  pub some_nets : 1 ≤ (sizes_of s).nets
  pub few_nets : (sizes_of s).nets ≤ 8192
  pub exact : length s ≡ 8 + 7 * (sizes_of s).nets

-- 5 does not apply to x as net i of n: the pin of a REG names a net below n; the pins of kinds 3 to 8 name nets below i, where kinds 4 to 7 have b and kind 7 has c.
-- Which net a pin names, with its top bit or without, is said in PinsMean
pub record PinsBelow (n i : ℕ) (x : Net) : Type 0 where
  pub reg : x.kind ≡ 2 → pin_net x.a < n
  pub a : 3 ≤ x.kind → x.kind ≤ 8 → pin_net x.a < i
  pub b : 4 ≤ x.kind → x.kind ≤ 7 → pin_net x.b < i
  pub c : x.kind ≡ 7 → pin_net x.c < i

-- 6 does not apply: a CONST is 0 or 1, a start 0 to 2, a policy 0 or 1
pub record ValuesListed (x : Net) : Type 0 where
  pub const : x.kind ≡ 0 → x.a ≤ 1
  pub start : x.kind ≡ 2 → x.b ≤ 2
  pub policy : x.kind ≡ 8 → x.b ≤ 1

-- 7 does not apply: an INPUT lists no operand, a CONST and a NOT only a, and no kind but 7 lists c
pub record UnlistedZero (x : Net) : Type 0 where
  pub input_a : x.kind ≡ 1 → x.a ≡ 0
  pub input_b : x.kind ≡ 1 → x.b ≡ 0
  pub const_b : x.kind ≡ 0 → x.b ≡ 0
  pub not_b : x.kind ≡ 3 → x.b ≡ 0
  pub c : (x.kind ≡ 7 → ⊥) → x.c ≡ 0

-- 4 to 7 do not apply
pub record AcceptedNet (n i : ℕ) (x : Net) : Type 0 where
  pub kind : x.kind ≤ 8
  pub pins : PinsBelow n i x
  pub values : ValuesListed x
  pub unlisted : UnlistedZero x

-- 4 to 7 do not apply to any of the first k nets
abbrev pub NetsAccepted : (s : List ℕ) (k : ℕ) → Type 0
NetsAccepted s k = (i : ℕ) → i < k → AcceptedNet (sizes_of s).nets i (net_of s i)

-- 8 does not apply: I, R and O are the numbers of nets of kinds 1, 2 and 8
pub record RightCounts (s : List ℕ) : Type 0 where
  pub inputs : (sizes_of s).inputs ≡ count 1 (nets_of s)
  pub registers : (sizes_of s).registers ≡ count 2 (nets_of s)
  pub outputs : (sizes_of s).outputs ≡ count 8 (nets_of s)

-- none of 1 to 8 applies
pub record AcceptedImage (s : List ℕ) : Type 0 where
  pub sized : Sized s
  pub nets : NetsAccepted s (sizes_of s).nets
  pub counts : RightCounts s

-- no byte is above 3
abbrev pub NoneAbove3 : List ℕ → Type 0
NoneAbove3 xs = (i : ℕ) → i < length xs → get_or xs i 0 ≤ 3

-- register bytes: R of them, none above 3
pub record AcceptedRegisters (s rs : List ℕ) : Type 0 where
  pub size : length rs ≡ (sizes_of s).registers
  pub codes : NoneAbove3 rs

-- 20 does not apply: the two bytes behind those of the registers are the number of marked registers, low byte first
abbrev pub RightCount : (s st : List ℕ) → Type 0
RightCount s st = drop (sizes_of s).registers st ≡ u16 (marked_count (registers_in s st))

-- none of 10, 11 and 20 applies. 11 looks at the register bytes alone
pub record AcceptedState (s st : List ℕ) : Type 0 where
  pub size : length st ≡ state_length (sizes_of s)
  pub codes : NoneAbove3 (registers_in s st)
  pub count : RightCount s st

-- neither 12 nor 13 applies, with n row bytes wanted
pub record AcceptedRows (n : ℕ) (rows : List ℕ) : Type 0 where
  pub size : length rows ≡ n
  pub codes : NoneAbove3 rows

-- no byte is 5 or above 6
abbrev pub OnlyCodes : List ℕ → Type 0
OnlyCodes xs = (i : ℕ) → i < length xs → (get_or xs i 0 ≡ 5 → ⊥) × (get_or xs i 0 ≤ 6)

-- of a static run: neither 10 nor 18 applies to the state
pub record AcceptedStaticState (s st : List ℕ) : Type 0 where
  pub size : length st ≡ (sizes_of s).registers
  pub codes : OnlyCodes st

-- and neither 12 nor 18 to the rows, with n row bytes wanted
pub record AcceptedStaticRows (n : ℕ) (rows : List ℕ) : Type 0 where
  pub size : length rows ≡ n
  pub codes : OnlyCodes rows

-- of pages: neither 13 nor 14 applies to the record of k cycles, k × O bytes
pub record AcceptedRecord (s : List ℕ) (k : ℕ) (outputs : List ℕ) : Type 0 where
  pub codes : NoneAbove3 outputs
  pub size : length outputs ≡ k * (sizes_of s).outputs

-- the length of the pages of k cycles: one for each 64 cycles and one for a rest, of 1 + O lines of 70 characters and a newline each
abbrev pub pages_bytes : (s : List ℕ) (k : ℕ) → ℕ
pages_bytes s k = (k + 63) / 64 * ((1 + (sizes_of s).outputs) * 71)

-- proved as `when_accepted`
pub record Accepted : Type 0 where
  pub check : (s : List ℕ) → (check_refusal s ≡ none) ↔ AcceptedImage s
  pub power_up : (s st : List ℕ) → (power_up_refusal s st ≡ none) ↔ (AcceptedImage s × (length st ≡ state_length (sizes_of s)))
  pub step : (s st row nets : List ℕ)
      → (step_refusal s st row nets ≡ none) ↔ (AcceptedImage s × AcceptedState s st × AcceptedRows (sizes_of s).inputs row × (length nets ≡ (sizes_of s).nets))
  pub run : (s st : List ℕ) (k : ℕ) (rows outputs : List ℕ)
      → (run_refusal s st k rows outputs ≡ none)
      ↔ (AcceptedImage s × (k ≤ 4096) × AcceptedState s st × AcceptedRows (k * (sizes_of s).inputs) rows × (length outputs ≡ k * (sizes_of s).outputs))
  pub static_power_up : (s st : List ℕ) → (static_power_up_refusal s st ≡ none) ↔ (AcceptedImage s × (length st ≡ (sizes_of s).registers))
  pub static_run : (s st : List ℕ) (k : ℕ) (rows outputs : List ℕ)
      → (static_run_refusal s st k rows outputs ≡ none)
      ↔ (AcceptedImage s × (k ≤ 4096) × AcceptedStaticState s st × AcceptedStaticRows (k * (sizes_of s).inputs) rows × (length outputs ≡ k * (sizes_of s).outputs))
  pub doubled_size_lem : (s : List ℕ) → ((doubled_size_of s).refusal ≡ none) ↔ (AcceptedImage s × (doubled_size (nets_of s) ≤ 8192))
  pub double : (s buf : List ℕ)
      → (double_refusal s buf ≡ none) ↔ (AcceptedImage s × (doubled_size (nets_of s) ≤ 8192) × (length buf ≡ 8 + 7 * doubled_size (nets_of s)))
  pub page : (s : List ℕ) (k : ℕ) (outputs page : List ℕ)
      → (page_refusal s k outputs page ≡ none) ↔ (AcceptedImage s × (k ≤ 4096) × AcceptedRecord s k outputs × (length page ≡ pages_bytes s k))
