-- Clock cycles. One: the bytes of all nets, the verdict, the output bytes, and the registers after the clock. Many: their outputs, the last state, and the first flow.
use Rattle.std.specs.Prelude.{ℕ, zero, suc, List, [], ◌∷◌, ◌++◌, Bool, ◌&&◌, cond, eqb, get_or, take, drop}
use Rattle.gates.specs.Rules.{mark, gate_byte}
use Rattle.gates.specs.Kinds.{CONST, INPUT, REG, NOT, OUT}
use Rattle.image.specs.declared.image.Net.{Net}
use Rattle.image.specs.Pins.{inverted, pin_net}

-- a rule for the byte of a gate or OUT (kinds 3 to 8), from its kind and the bytes of its pins
abbrev pub Rule : Type 0
Rule = (kind a b c : ℕ) → ℕ

-- what cycles go by: that rule, and which bytes count as marked for the verdict
pub record Rules : Type 0 where
  pub gate : Rule
  pub marked : ℕ → Bool

-- the gate rules of the GLIFT paper, and mark 1
abbrev pub plain : Rules
plain = record { gate = gate_byte; marked = mark }

-- how far a cycle has come in working out its nets, in net order: their bytes so far, and the row and state bytes that no net has taken yet
pub record Walk : Type 0 where
  pub bytes : List ℕ
  pub row : List ℕ
  pub state : List ℕ

-- what a pin reads: the byte of the net that it names; with its top bit set, what a NOT of that net gives by the rule, its value inverted and its mark unchanged.
-- Checking sees to it that there is such a net; otherwise its byte counts as 0
unfoldable pub pin_byte : Rule → (bs : List ℕ) (p : ℕ) → ℕ
pin_byte rule bs p = let x = get_or bs (pin_net p) 0 in cond (inverted p) (rule NOT x 0 0) x

-- the byte of a net: a CONST's operand a, which is 0 or 1, so that its mark is 0, the next row byte for an INPUT, the next state byte for a REG, and the rule for every other kind.
-- All three operands are read as pins; the rule does not look at one that is no pin, such as an OUT's policy
unfoldable pub net_byte : Rule → Net → Walk → ℕ
net_byte rule x w =
    cond (eqb x.kind CONST) x.a
    (cond (eqb x.kind INPUT) (get_or w.row 0 0)
    (cond (eqb x.kind REG) (get_or w.state 0 0)
    (rule x.kind (pin_byte rule w.bytes x.a) (pin_byte rule w.bytes x.b) (pin_byte rule w.bytes x.c))))

-- one net further: an INPUT takes a row byte, a REG a state byte
unfoldable pub past : Rule → Net → Walk → Walk
past rule x w =
    record {
      bytes = w.bytes ++ (net_byte rule x w ∷ []);
      row = drop (cond (eqb x.kind INPUT) 1 0) w.row;
      state = drop (cond (eqb x.kind REG) 1 0) w.state;
    }

-- through all nets of a list
unfoldable pub walk : Rule → List Net → Walk → Walk
walk rule [] w = w
walk rule (x ∷ xs) w = walk rule xs (past rule x w)

-- the bytes of all nets in a cycle
unfoldable pub bytes_of : Rule → List Net → (row state : List ℕ) → List ℕ
bytes_of rule xs row state = (walk rule xs (record { bytes = []; row = row; state = state })).bytes

-- clear, or a flow that carries the output's net
pub data Verdict : Type 0 where
  clear : Verdict
  flow : ℕ → Verdict

-- a flow at the lowest-numbered protected OUT that is marked among nets, the first of which is net i; clear where there is none
unfoldable pub verdict_from : (marked : ℕ → Bool) (i : ℕ) → List Net → (bs : List ℕ) → Verdict
verdict_from marked i [] bs = clear
verdict_from marked i (x ∷ xs) bs =
    cond (eqb x.kind OUT && eqb x.b 1 && marked (get_or bs i 0)) (flow i) (verdict_from marked (suc i) xs bs)

-- the bytes of the OUTs among nets, the first of which is net i, in net order
unfoldable pub outputs_from : (i : ℕ) → List Net → (bs : List ℕ) → List ℕ
outputs_from i [] bs = []
outputs_from i (x ∷ xs) bs =
    cond (eqb x.kind OUT) (get_or bs i 0 ∷ outputs_from (suc i) xs bs) (outputs_from (suc i) xs bs)

-- one byte for each register among nets, in net order
unfoldable pub registers : (Net → ℕ) → List Net → List ℕ
registers f [] = []
registers f (x ∷ xs) = cond (eqb x.kind REG) (f x ∷ registers f xs) (registers f xs)

-- the clock: every register takes what its pin reads, all together
unfoldable pub clocked : Rule → List Net → (bs : List ℕ) → List ℕ
clocked rule xs bs = registers (λ x. pin_byte rule bs x.a) xs

-- what a cycle gives: the bytes of all nets, the verdict, the output bytes, and the register bytes after the clock. In this file a state is the register bytes alone
pub record Cycle : Type 0 where
  pub bytes : List ℕ
  pub verdict : Verdict
  pub outputs : List ℕ
  pub state : List ℕ

-- one cycle: all nets are worked out, then the verdict is given, then the clock
unfoldable pub cycle_of : Rules → List Net → (row state : List ℕ) → Cycle
cycle_of rules xs row state =
    let bs = bytes_of rules.gate xs row state in
    record { bytes = bs; verdict = verdict_from rules.marked 0 xs bs; outputs = outputs_from 0 xs bs; state = clocked rules.gate xs bs }

-- k cycles with rows of `inputs` bytes each, from a state
unfoldable pub cycles_of : Rules → List Net → (inputs k : ℕ) → (rows state : List ℕ) → List Cycle
cycles_of rules xs inputs zero rows state = []
cycles_of rules xs inputs (suc k) rows state =
    let c = cycle_of rules xs (take inputs rows) state in
    c ∷ cycles_of rules xs inputs k (drop inputs rows) c.state

-- the output bytes, cycle after cycle
unfoldable pub outputs_of : List Cycle → List ℕ
outputs_of [] = []
outputs_of (c ∷ cs) = c.outputs ++ outputs_of cs

-- the register bytes after the last cycle, or st where there is none
unfoldable pub state_after : (st : List ℕ) → List Cycle → List ℕ
state_after st [] = st
state_after st (c ∷ cs) = state_after c.state cs

-- the first flow with its cycle; with a clear verdict the cycle is the number of cycles, K
pub record FirstFlow : Type 0 where
  pub cycle : ℕ
  pub verdict : Verdict

-- with a flow, cycle i and that flow; with a clear verdict, the other answer
unfoldable pub first_of : (i : ℕ) → Verdict → (otherwise : FirstFlow) → FirstFlow
first_of i clear otherwise = otherwise
first_of i (flow n) otherwise = record { cycle = i; verdict = flow n }

-- the first flow among cycles, the first of which is cycle i; clear, with the number that follows the last cycle, where there is none
unfoldable pub first_flow : (i : ℕ) → List Cycle → FirstFlow
first_flow i [] = record { cycle = i; verdict = clear }
first_flow i (c ∷ cs) = first_of i c.verdict (first_flow (suc i) cs)
