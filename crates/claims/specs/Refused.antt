-- Which refusal each call gives: its number, its place, and the order of the conditions (document 01, "When a call turns back"; document 02, L4, for 18, L6 for pages, and L7 for 20).
-- Each condition stands with what has to hold for it to be tried, so that of any call at most one of them holds; where none does, the call is accepted (Accepted).
use Rattle.std.specs.Prelude.{ℕ, ◌+◌, ◌*◌, ◌≤◌, ◌<◌, ◌↔◌, ◌⊎◌, ◌≡◌, List, length, get_or}
use Rattle.std.proofs.Math.Option.{some}
use Rattle.image.specs.declared.image.Net.{Net}
use Rattle.image.specs.Image.{sizes_of, nets_of}
use Rattle.refusals.specs.declared.answer.Refusal.{Refusal}
use Rattle.checking.specs.Check.{check_refusal}
use Rattle.cycle.specs.State.{state_length, registers_in}
use Rattle.cycle.specs.Calls.{refused, power_up_of, step_of, run_of}
use Rattle.doubled.specs.Doubled.{doubled_size}
use Rattle.figures.specs.Figures.{doubled_size_of}
use Rattle.doubling.specs.Doubling.{double_of}
use Rattle.static_run.specs.StaticCalls.{static_power_up_of, static_run_of}
use Rattle.paging.specs.Paging.{page_of}
use Rattle.claims.specs.Reading.{net_of}
use Rattle.claims.specs.Accepted.{Sized, PinsBelow, ValuesListed, UnlistedZero, NetsAccepted, RightCounts, AcceptedImage, RightCount, AcceptedState, AcceptedRows, AcceptedStaticState, AcceptedStaticRows, NoneAbove3, AcceptedRecord, pages_bytes}

-- a call, with the state and the bytes that it is lent beside its image
pub data AnyCall : Type 0 where
  check : AnyCall
  power_up : (st : List ℕ) → AnyCall
  step : (st row nets : List ℕ) → AnyCall
  run : (st : List ℕ) (k : ℕ) (rows outputs : List ℕ) → AnyCall
  static_power_up : (st : List ℕ) → AnyCall
  static_run : (st : List ℕ) (k : ℕ) (rows outputs : List ℕ) → AnyCall
  doubled_size_lem : AnyCall
  double : (buf : List ℕ) → AnyCall
  page : (k : ℕ) (outputs page : List ℕ) → AnyCall

-- the call on the image s gives the refusal r
abbrev pub Gives : (s : List ℕ) → AnyCall → Refusal → Type 0
Gives s check r = check_refusal s ≡ some r
Gives s (power_up st) r = (power_up_of s st).refusal ≡ some r
Gives s (step st row nets) r = (step_of s st row nets).answer ≡ refused r
Gives s (run st k rows outputs) r = (run_of s st k rows outputs).answer ≡ refused r
Gives s (static_power_up st) r = (static_power_up_of s st).refusal ≡ some r
Gives s (static_run st k rows outputs) r = (static_run_of s st k rows outputs).answer ≡ refused r
Gives s doubled_size_lem r = (doubled_size_of s).refusal ≡ some r
Gives s (double buf) r = (double_of s buf).refusal ≡ some r
Gives s (page k outputs buf) r = (page_of s k outputs buf).refusal ≡ some r

-- byte i of xs is the first above 3
pub record FirstAbove3 (xs : List ℕ) (i : ℕ) : Type 0 where
  pub below : i < length xs
  pub above : 3 < get_or xs i 0
  pub first : (j : ℕ) → j < i → get_or xs j 0 ≤ 3

-- byte i of xs is the first that is 5 or above 6
pub record FirstNoCode (xs : List ℕ) (i : ℕ) : Type 0 where
  pub below : i < length xs
  pub no_code_lem : (get_or xs i 0 ≡ 5) ⊎ (6 < get_or xs i 0)
  pub first : (j : ℕ) → j < i → (get_or xs j 0 ≡ 5 → ⊥) × (get_or xs j 0 ≤ 6)

-- at x as net i of n, the number of the first of 4 to 7 that applies
module _ (n i : ℕ) (x : Net) where
  pub data BadNet : (number : ℕ) → Type 0 where
    kind : 8 < x.kind → BadNet 4
    pin : x.kind ≤ 8 → (PinsBelow n i x → ⊥) → BadNet 5
    value : x.kind ≤ 8 → PinsBelow n i x → (ValuesListed x → ⊥) → BadNet 6
    unlisted : x.kind ≤ 8 → PinsBelow n i x → ValuesListed x → (UnlistedZero x → ⊥) → BadNet 7

-- on the image s, the number and the place of the first that applies
module _ (s : List ℕ) where
  -- of 1 to 8. Nets are tried in turn, each for 4 to 7, and 8 only where all of them are accepted
  pub data BadImage : (number place : ℕ) → Type 0 where
    short : length s < 8 → BadImage 1 0
    no_nets : 8 ≤ length s → (sizes_of s).nets ≡ 0 → BadImage 2 0
    many_nets : 8 ≤ length s → 8192 < (sizes_of s).nets → BadImage 2 0
    inexact : 8 ≤ length s → 1 ≤ (sizes_of s).nets → (sizes_of s).nets ≤ 8192 → (length s ≡ 8 + 7 * (sizes_of s).nets → ⊥) → BadImage 3 0
    bad_net : {number i : ℕ} → Sized s → i < (sizes_of s).nets → NetsAccepted s i → BadNet (sizes_of s).nets i (net_of s i) number → BadImage number i
    miscounted : Sized s → NetsAccepted s (sizes_of s).nets → (RightCounts s → ⊥) → BadImage 8 0

  -- of 10 to 14 and 20, which stands directly after 11, where rowBytes bytes are wanted in the rows and filled bytes in the buffer
  module _ (rowBytes filled : ℕ) (st rows buffer : List ℕ) where
    pub data BadLent : (number place : ℕ) → Type 0 where
      state_size : (length st ≡ state_length (sizes_of s) → ⊥) → BadLent 10 0
      state_byte : {i : ℕ} → length st ≡ state_length (sizes_of s) → FirstAbove3 (registers_in s st) i → BadLent 11 i
      state_count : length st ≡ state_length (sizes_of s) → NoneAbove3 (registers_in s st) → (RightCount s st → ⊥) → BadLent 20 0
      row_size : AcceptedState s st → (length rows ≡ rowBytes → ⊥) → BadLent 12 0
      row_byte : {i : ℕ} → AcceptedState s st → length rows ≡ rowBytes → FirstAbove3 rows i → BadLent 13 i
      buffer_size : AcceptedState s st → AcceptedRows rowBytes rows → (length buffer ≡ filled → ⊥) → BadLent 14 0

    -- the same of a static run, with 18 where 11 and 13 stand
    pub data BadStatic : (number place : ℕ) → Type 0 where
      static_state_size : (length st ≡ (sizes_of s).registers → ⊥) → BadStatic 10 0
      static_state_byte : {i : ℕ} → length st ≡ (sizes_of s).registers → FirstNoCode st i → BadStatic 18 i
      static_row_size : AcceptedStaticState s st → (length rows ≡ rowBytes → ⊥) → BadStatic 12 0
      static_row_byte : {i : ℕ} → AcceptedStaticState s st → length rows ≡ rowBytes → FirstNoCode rows i → BadStatic 18 i
      static_buffer_size : AcceptedStaticState s st → AcceptedStaticRows rowBytes rows → (length buffer ≡ filled → ⊥) → BadStatic 14 0

  -- of all that the call meets. There is no line for 17, which is never given
  pub data Refused : AnyCall → (number place : ℕ) → Type 0 where
    -- 1 to 8: every call
    bad_image : {c : AnyCall} {number place : ℕ} → BadImage number place → Refused c number place
    -- 10: power-up
    bad_state : {st : List ℕ} → AcceptedImage s → (length st ≡ state_length (sizes_of s) → ⊥) → Refused (power_up st) 10 0
    -- 10 to 14 and 20: a step
    bad_step :
        {st row nets : List ℕ} {number place : ℕ} → AcceptedImage s
        → BadLent (sizes_of s).inputs (sizes_of s).nets st row nets number place
        → Refused (step st row nets) number place
    -- 9, and then 10 to 14 and 20: a run
    many_cycles : {st : List ℕ} {k : ℕ} {rows outputs : List ℕ} → AcceptedImage s → 4096 < k → Refused (run st k rows outputs) 9 0
    bad_run :
        {st : List ℕ} {k : ℕ} {rows outputs : List ℕ} {number place : ℕ} → AcceptedImage s → k ≤ 4096
        → BadLent (k * (sizes_of s).inputs) (k * (sizes_of s).outputs) st rows outputs number place
        → Refused (run st k rows outputs) number place
    -- 10: static power-up
    bad_static_state : {st : List ℕ} → AcceptedImage s → (length st ≡ (sizes_of s).registers → ⊥) → Refused (static_power_up st) 10 0
    -- 9, and then 10, 18, 12, 18 and 14: a static run
    many_static_cycles : {st : List ℕ} {k : ℕ} {rows outputs : List ℕ} → AcceptedImage s → 4096 < k → Refused (static_run st k rows outputs) 9 0
    bad_static_run :
        {st : List ℕ} {k : ℕ} {rows outputs : List ℕ} {number place : ℕ} → AcceptedImage s → k ≤ 4096
        → BadStatic (k * (sizes_of s).inputs) (k * (sizes_of s).outputs) st rows outputs number place
        → Refused (static_run st k rows outputs) number place
    -- 15: the doubled size
    size_large : AcceptedImage s → 8192 < doubled_size (nets_of s) → Refused doubled_size_lem 15 0
    -- 15 and 16: doubling
    doubled_large : {buf : List ℕ} → AcceptedImage s → 8192 < doubled_size (nets_of s) → Refused (double buf) 15 0
    doubled_length :
        {buf : List ℕ} → AcceptedImage s → doubled_size (nets_of s) ≤ 8192 → (length buf ≡ 8 + 7 * doubled_size (nets_of s) → ⊥)
        → Refused (double buf) 16 0
    -- 9, and then 13, 14 and 19: pages. The record's bytes are tried before its length
    many_page_cycles : {k : ℕ} {outputs buf : List ℕ} → AcceptedImage s → 4096 < k → Refused (page k outputs buf) 9 0
    record_byte : {k : ℕ} {outputs buf : List ℕ} {i : ℕ} → AcceptedImage s → k ≤ 4096 → FirstAbove3 outputs i → Refused (page k outputs buf) 13 i
    record_size :
        {k : ℕ} {outputs buf : List ℕ} → AcceptedImage s → k ≤ 4096 → NoneAbove3 outputs → (length outputs ≡ k * (sizes_of s).outputs → ⊥)
        → Refused (page k outputs buf) 14 0
    page_size :
        {k : ℕ} {outputs buf : List ℕ} → AcceptedImage s → k ≤ 4096 → AcceptedRecord s k outputs → (length buf ≡ pages_bytes s k → ⊥)
        → Refused (page k outputs buf) 19 0

-- "Given on the stated condition and otherwise never." Proved as `refusals`
abbrev pub Refusals : Type 0
Refusals = (s : List ℕ) (c : AnyCall) (r : Refusal) → Gives s c r ↔ Refused s c r.number r.place
