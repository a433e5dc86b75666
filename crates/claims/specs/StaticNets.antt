-- Static cycles, net by net: each net has the code that its kind gives it, by filling; and a static run is its cycles, each from the state that the one before left.
use Rattle.std.specs.Prelude.{ℕ, zero, suc, ◌+◌, ◌≤◌, ◌<◌, ◌≡◌, List, [], ◌∷◌, length, get_or, take, drop}
use Rattle.std.proofs.Math.Option.{none}
use Rattle.gates.specs.Kinds.{CONST, INPUT, REG, NOT, OUT}
use Rattle.unknowns.specs.Filling.{static_byte}
use Rattle.image.specs.Image.{sizes_of, nets_of}
use Rattle.image.specs.Examples.{counter}
use Rattle.cycle.specs.Cycle.{pin_byte, flow, Cycle, outputs_of, state_after, first_flow}
use Rattle.cycle.specs.Calls.{done, Ran}
use Rattle.static_run.specs.StaticCalls.{static_run_refusal, static_run_of}
use Rattle.claims.specs.NetBytes.{net_of, place_of, Counted}
use Rattle.claims.specs.Verdicts.{Judged}

-- what a pin reads: the code of the net that it names; with its top bit set, what a NOT of that net gives by filling
pub record StaticPins : Type 0 where
  pub upright : (bs : List ℕ) (j : ℕ) → j < 32768 → pin_byte static_byte bs j ≡ get_or bs j 0
  pub inverted : (bs : List ℕ) (j : ℕ) → pin_byte static_byte bs (32768 + j) ≡ static_byte NOT (get_or bs j 0) 0 0

-- a static cycle c with this row and state. Of a gate or OUT all three operands are read as pins; the rule does not look at one that is none
pub record StaticNets (s row st : List ℕ) (c : Cycle) : Type 0 where
  pub nets : length c.bytes ≡ (sizes_of s).nets
  pub constant : (i : ℕ) → i < (sizes_of s).nets → (net_of s i).kind ≡ CONST → get_or c.bytes i 0 ≡ (net_of s i).a
  pub input : (i : ℕ) → i < (sizes_of s).nets → (net_of s i).kind ≡ INPUT → get_or c.bytes i 0 ≡ get_or row (place_of INPUT s i) 0
  pub register : (i : ℕ) → i < (sizes_of s).nets → (net_of s i).kind ≡ REG → get_or c.bytes i 0 ≡ get_or st (place_of REG s i) 0
  pub gate :
      (i : ℕ) → i < (sizes_of s).nets → NOT ≤ (net_of s i).kind
      → let pin = pin_byte static_byte c.bytes in
      let x = net_of s i in
      get_or c.bytes i 0 ≡ static_byte x.kind (pin x.a) (pin x.b) (pin x.c)
  pub verdict : Judged (nets_of s) c.bytes c.verdict
  pub outputs : length c.outputs ≡ (sizes_of s).outputs
  pub output : (i : ℕ) → i < (sizes_of s).nets → (net_of s i).kind ≡ OUT → Counted OUT s i c.outputs (get_or c.bytes i 0)
  pub registers : length c.state ≡ (sizes_of s).registers
  pub clock : (i : ℕ) → i < (sizes_of s).nets → (net_of s i).kind ≡ REG → Counted REG s i c.state (pin_byte static_byte c.bytes (net_of s i).a)

-- k such cycles with rows of I bytes each, one after the other
pub data StaticCycles (s : List ℕ) : (k : ℕ) (rows st : List ℕ) → List Cycle → Type 0 where
  nil : {rows st : List ℕ} → StaticCycles s zero rows st []
  cons :
      {k : ℕ} {rows st : List ℕ} {c : Cycle} {cs : List Cycle} → StaticNets s (take (sizes_of s).inputs rows) st c
      → StaticCycles s k (drop (sizes_of s).inputs rows) c.state cs → StaticCycles s (suc k) rows st (c ∷ cs)

-- an accepted static run: its answer, its state and its outputs are read off such cycles
pub record StaticRunIs (s st : List ℕ) (k : ℕ) (rows outputs : List ℕ) : Type 0 where
  pub cycles : List Cycle
  pub are : StaticCycles s k rows st cycles
  pub answer : (static_run_of s st k rows outputs).answer ≡ done (first_flow 0 cycles)
  pub state : (static_run_of s st k rows outputs).state ≡ state_after st cycles
  pub output_codes : (static_run_of s st k rows outputs).outputs ≡ outputs_of cycles

-- the counter, with its reset unknown and trusted for two cycles, then unknown and untrusted, then a trusted 0: an unknown trusted output is no flow
unfoldable pub static_counted : Ran
static_counted = static_run_of counter (0 ∷ []) 4 (4 ∷ 4 ∷ 6 ∷ 0 ∷ []) (9 ∷ 9 ∷ 9 ∷ 9 ∷ [])

-- proved as `static_nets`
pub record StaticNetsAll : Type 0 where
  pub pins : StaticPins
  pub run : (s st : List ℕ) (k : ℕ) (rows outputs : List ℕ) → static_run_refusal s st k rows outputs ≡ none → StaticRunIs s st k rows outputs
  pub example : static_counted ≡ record { answer = done (record { cycle = 3; verdict = flow 5 }); state = 6 ∷ []; outputs = 0 ∷ 4 ∷ 4 ∷ 6 ∷ [] }
