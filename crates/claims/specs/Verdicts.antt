-- Every verdict names the first protected output that is marked, or is clear when none is; and a run answers with the first flow of its cycles.
use Rattle.std.specs.Prelude.{ℕ, ◌<◌, ◌≡◌, List, map, true, length, get_or}
use Rattle.gates.specs.Kinds.{OUT}
use Rattle.gates.specs.Rules.{mark}
use Rattle.image.specs.declared.image.Net.{Net}
use Rattle.image.specs.Image.{net}
use Rattle.cycle.specs.Cycle.{Rule, Verdict, clear, flow, Cycle, cycle_of, FirstFlow, first_flow}

-- net i is a protected OUT with mark 1, by the bytes bs of all nets
pub record MarkedOutput (xs : List Net) (bs : List ℕ) (i : ℕ) : Type 0 where
  pub below : i < length xs
  pub out : (get_or xs i (net 0 0 0 0)).kind ≡ OUT
  pub protected : (get_or xs i (net 0 0 0 0)).b ≡ 1
  pub marked : mark (get_or bs i 0) ≡ true

-- clear where there is none, and else a flow that carries the lowest
pub data Judged (xs : List Net) (bs : List ℕ) : Verdict → Type 0 where
  none : ((i : ℕ) → MarkedOutput xs bs i → ⊥) → Judged xs bs clear
  lowest : {i : ℕ} → MarkedOutput xs bs i → ((j : ℕ) → j < i → MarkedOutput xs bs j → ⊥) → Judged xs bs (flow i)

-- of every cycle, plain or static, and whatever the rule of its gates; proved as `verdicts`
abbrev pub Verdicts : Type 0
Verdicts =
    (rule : Rule) (xs : List Net) (row state : List ℕ)
    → let c = cycle_of (record { gate = rule; marked = mark }) xs row state in Judged xs c.bytes c.verdict

-- the first flow among verdicts, one a cycle: clear with the number of cycles where all are clear, and else the first cycle with a flow, and that flow
pub data First (vs : List Verdict) : FirstFlow → Type 0 where
  all_clear : ((c : ℕ) → c < length vs → get_or vs c clear ≡ clear) → First vs (record { cycle = length vs; verdict = clear })
  first : {c n : ℕ} → c < length vs → get_or vs c clear ≡ flow n → ((d : ℕ) → d < c → get_or vs d clear ≡ clear) → First vs (record { cycle = c; verdict = flow n })

-- proved as `first_flows`
abbrev pub FirstFlows : Type 0
FirstFlows = (cs : List Cycle) → First (map (λ c. c.verdict) cs) (first_flow 0 cs)
