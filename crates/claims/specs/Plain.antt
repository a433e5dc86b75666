-- The calls as document 01 has them without document 02's L3: a pin is the number of a net, and reads the byte of that net. Upright says that images without inverted pins give
-- by every call what these definitions give. Nothing else uses them. What does not look at operands is that of the other definitions, `plain_bytes` and the state with its count too.
use Rattle.std.specs.Prelude.{ℕ, zero, suc, ◌+◌, ◌*◌, List, [], ◌∷◌, ◌++◌, Bool, ◌&&◌, ◌||◌, not, cond, eqb, leb, ltb, length, get_or, take, drop, replicate}
use Rattle.std.proofs.Math.Option.{Option, none, some}
use Rattle.gates.specs.Kinds.{CONST, INPUT, REG, OUT}
use Rattle.gates.specs.Rules.{mark, gate_byte}
use Rattle.image.specs.declared.image.Net.{Net}
use Rattle.image.specs.Image.{sizes_of, nets_of, encode}
use Rattle.refusals.specs.declared.answer.Refusal.{Refusal}
use Rattle.refusals.specs.Refusals.{refusal, refuse, ◌then◌, plain_bytes, bad_length}
use Rattle.net_checking.specs.Operands.{lists_a, lists_b, lists_c, pin_a, pin_b, pin_c}
use Rattle.checking.specs.Check.{wrong_counts}
use Rattle.checking.specs.Counts.{kind_counts}
use Rattle.cycle.specs.Cycle.{Walk, verdict_from, outputs_from, registers, Cycle}
use Rattle.cycle.specs.State.{state_length, with_count, registers_in}
use Rattle.cycle.specs.Calls.{refused, starts, PoweredUp, state_refusal, lent_refusal, Stepped, as_step, Ran, as_run, counting}
use Rattle.groups.specs.Groups.{group_of}
use Rattle.doubled.specs.Doubled.{doubled_size, value_net, mark_net}
use Rattle.figures.specs.Figures.{Figures, no_figures}
use Rattle.doubling.specs.Doubling.{paired_sizes, Doubling}

-- CHECKING. 5: a REG pin that is not below N, or another pin that is not below its net
abbrev pub plain_bad_pin : (n i : ℕ) → Net → Bool
plain_bad_pin n i x =
    (eqb x.kind REG && leb n x.a)
    || (pin_a x.kind && leb i x.a)
    || (pin_b x.kind && leb i x.b)
    || (pin_c x.kind && leb i x.c)

-- 6 and 7 look at operands that are no pins
abbrev pub plain_bad_value : Net → Bool
plain_bad_value x =
    (eqb x.kind CONST && ltb 1 x.a)
    || (eqb x.kind REG && ltb 2 x.b)
    || (eqb x.kind OUT && ltb 1 x.b)

abbrev pub plain_bad_unlisted : Net → Bool
plain_bad_unlisted x =
    (not (lists_a x.kind) && not (eqb x.a 0))
    || (not (lists_b x.kind) && not (eqb x.b 0))
    || (not (lists_c x.kind) && not (eqb x.c 0))

unfoldable pub plain_net_refusal : (n i : ℕ) → Net → Option Refusal
plain_net_refusal n i x =
    refuse (ltb 8 x.kind) 4 i
    then refuse (plain_bad_pin n i x) 5 i
    then refuse (plain_bad_value x) 6 i
    then refuse (plain_bad_unlisted x) 7 i

unfoldable pub plain_nets_refusal : (n i : ℕ) → List Net → Option Refusal
plain_nets_refusal n i [] = none
plain_nets_refusal n i (x ∷ xs) = plain_net_refusal n i x then plain_nets_refusal n (suc i) xs

unfoldable pub plain_check : List ℕ → Option Refusal
plain_check s =
    refuse (ltb (length s) 8) 1 0
    then refuse (eqb (sizes_of s).nets 0 || ltb 8192 (sizes_of s).nets) 2 0
    then refuse (not (eqb (length s) (8 + 7 * (sizes_of s).nets))) 3 0
    then plain_nets_refusal (sizes_of s).nets 0 (nets_of s)
    then refuse (wrong_counts s) 8 0

-- CYCLES. The byte of a net, by the bytes of the nets that its pins name
unfoldable pub plain_net_byte : Net → Walk → ℕ
plain_net_byte x w =
    cond (eqb x.kind CONST) x.a
    (cond (eqb x.kind INPUT) (get_or w.row 0 0)
    (cond (eqb x.kind REG) (get_or w.state 0 0)
    (gate_byte x.kind (get_or w.bytes x.a 0) (get_or w.bytes x.b 0) (get_or w.bytes x.c 0))))

unfoldable pub plain_past : Net → Walk → Walk
plain_past x w =
    record {
      bytes = w.bytes ++ (plain_net_byte x w ∷ []);
      row = drop (cond (eqb x.kind INPUT) 1 0) w.row;
      state = drop (cond (eqb x.kind REG) 1 0) w.state;
    }

unfoldable pub plain_walk : List Net → Walk → Walk
plain_walk [] w = w
plain_walk (x ∷ xs) w = plain_walk xs (plain_past x w)

unfoldable pub plain_cycle : List Net → (row state : List ℕ) → Cycle
plain_cycle xs row state =
    let bs = (plain_walk xs (record { bytes = []; row = row; state = state })).bytes in
    record { bytes = bs; verdict = verdict_from mark 0 xs bs; outputs = outputs_from 0 xs bs; state = registers (λ x. get_or bs x.a 0) xs }

unfoldable pub plain_cycles : List Net → (inputs k : ℕ) → (rows state : List ℕ) → List Cycle
plain_cycles xs inputs zero rows state = []
plain_cycles xs inputs (suc k) rows state =
    let c = plain_cycle xs (take inputs rows) state in
    c ∷ plain_cycles xs inputs k (drop inputs rows) c.state

-- THE CALLS on cycles
unfoldable pub plain_power_up : (s st : List ℕ) → PoweredUp
plain_power_up s st =
    elim (plain_check s then bad_length 10 (state_length (sizes_of s)) st) [
      | none ↦ record { refusal = none; state = with_count (starts (nets_of s)) }
      | some r ↦ record { refusal = some r; state = st }
    ]

unfoldable pub plain_step : (s st row nets : List ℕ) → Stepped
plain_step s st row nets =
    elim (plain_check s then state_refusal (sizes_of s) st then lent_refusal plain_bytes (sizes_of s).inputs (sizes_of s).nets row nets) [
      | none ↦ as_step (plain_cycle (nets_of s) row (registers_in s st))
      | some r ↦ record { answer = refused r; state = st; nets = nets }
    ]

unfoldable pub plain_run : (s st : List ℕ) (k : ℕ) (rows outputs : List ℕ) → Ran
plain_run s st k rows outputs =
    elim (plain_check s
    then refuse (ltb 4096 k) 9 0
    then state_refusal (sizes_of s) st
    then lent_refusal plain_bytes (k * (sizes_of s).inputs) (k * (sizes_of s).outputs) rows outputs) [
      | none ↦ let rs = registers_in s st in counting (as_run rs (plain_cycles (nets_of s) (sizes_of s).inputs k rows rs))
      | some r ↦ record { answer = refused r; state = st; outputs = outputs }
    ]

-- DOUBLING. The groups of the nets ys, the first of which is net i of xs, with the value net and the mark net of each pin
unfoldable pub plain_groups : List Net → (i : ℕ) → List Net → List Net
plain_groups xs i [] = []
plain_groups xs i (y ∷ ys) = group_of (value_net xs i) y (value_net xs) (mark_net xs) ++ plain_groups xs (suc i) ys

unfoldable pub plain_image : List ℕ → List ℕ
plain_image s = encode (paired_sizes s) (plain_groups (nets_of s) 0 (nets_of s))

unfoldable pub plain_size : List ℕ → Figures
plain_size s =
    elim (plain_check s then refuse (ltb 8192 (doubled_size (nets_of s))) 15 0) [
      | none ↦
          record {
            refusal = none;
            nets = doubled_size (nets_of s);
            bytes = 8 + 7 * doubled_size (nets_of s);
            kinds = kind_counts (plain_groups (nets_of s) 0 (nets_of s));
          }
      | some r ↦ no_figures r
    ]

unfoldable pub plain_double : (s buf : List ℕ) → Doubling
plain_double s buf =
    elim (plain_check s then refuse (ltb 8192 (doubled_size (nets_of s))) 15 0 then bad_length 16 (8 + 7 * doubled_size (nets_of s)) buf) [
      | none ↦
          elim (plain_check (plain_image s)) [
            | none ↦ record { refusal = none; buffer = plain_image s }
            | some r ↦ record { refusal = some (refusal 17 0); buffer = replicate (length buf) 0 }
          ]
      | some r ↦ record { refusal = some r; buffer = buf }
    ]
