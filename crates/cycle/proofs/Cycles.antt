-- Cycles by two rules on related rows and states: a relation of bytes that the rules keep between them holds of every byte that comes of them.
-- Its instances here have one rule twice: agreement, values, and codes.
use Prim.Native.Nat.{ℕ, zero, suc, ◌≤◌, ◌<◌}
use native.Mathlib.Omega.{arith}
use mathlib.Core.Path.{◌≡◌, refl, ap}
use mathlib.Core.List.{List, [], ◌∷◌, Forall₂}
use mathlib.Core.Bool.{Bool, true, false, ◌&&◌, cond}
use lib.Dec.{eqb, lit≤}
use lib.ListN.{length, get_or}
use Rattle.gates.specs.Rules.{mark, gate_byte}
use Rattle.gates.specs.Relations.{AgreeByte, same, Agree}
use Rattle.gates.specs.Kinds.{REG, OUT}
use Rattle.gates.proofs.Laws.{gates_agree, agree_mark, SameValue, gates_values, Code, gates_code}
use Rattle.image.specs.declared.image.Net.{Net}
use Rattle.image.specs.Image.{count}
use Rattle.image.specs.Pins.{inverted, pin_net}
use Rattle.image.proofs.Pairs.{pairs_append, pairs_get_or, pairs_places, pairs_take, pairs_drop}
use Rattle.refusals.proofs.Refusals.{Codes}
use Rattle.net_checking.proofs.Passes.{Passes, is_const, is_input, is_reg, is_not, is_and, is_or, is_xor, is_mux, is_out}
use Rattle.checking.proofs.Checked.{AllPass, nil, cons}
use Rattle.cycle.specs.Codes.{Low}
use Rattle.cycle.specs.Cycle.{Rule, Rules, plain, Walk, pin_byte, net_byte, past, walk, bytes_of, Verdict, clear, flow, verdict_from, outputs_from, registers, clocked, Cycle, cycle_of, cycles_of, outputs_of, state_after, FirstFlow, first_of, first_flow}
use Rattle.cycle.proofs.Selections.{outputs_selected, registers_selected, selection_length, selections_related}

-- a relation of bytes that a CONST's bytes have to themselves, and that two rules keep between them
pub record Kept (f g : Rule) (R : ℕ → ℕ → Type 0) : Type 0 where
  pub const : (a : ℕ) → a ≤ 1 → R a a
  pub gate : (kind a a' b b' c c' : ℕ) → R a a' → R b b' → R c c' → R (f kind a b c) (g kind a' b' c')

pub record WalkRelated (R : ℕ → ℕ → Type 0) (w w' : Walk) : Type 0 where
  pub bytes : Forall₂ R w.bytes w'.bytes
  pub row : Forall₂ R w.row w'.row
  pub state : Forall₂ R w.state w'.state

pub registers_related : (R : ℕ → ℕ → Type 0) {f g : Net → ℕ} → ((x : Net) → R (f x) (g x)) → (xs : List Net)
    → Forall₂ R (registers f xs) (registers g xs)
registers_related R {f} {g} h xs = selections_related R (registers_selected f) (registers_selected g) (λ i x. h x) 0 xs

module _ {f g : Rule} {R : ℕ → ℕ → Type 0} (kept : Kept f g R) where
  byte_related : {bs cs : List ℕ} (i : ℕ) → Forall₂ R bs cs → R (get_or bs i 0) (get_or cs i 0)
  byte_related i h = pairs_get_or i 0 (kept.const 0 (lit≤ tt)) h

  pin_related : {bs cs : List ℕ} (p : ℕ) → Forall₂ R bs cs → R (pin_byte f bs p) (pin_byte g cs p)
  unfolding pin_byte
  pin_related {bs} {cs} p h = by_flag (inverted p)
    where
      x : R (get_or bs (pin_net p) 0) (get_or cs (pin_net p) 0)
      x = byte_related (pin_net p) h

      by_flag : (b : Bool) → R (cond b (f 3 (get_or bs (pin_net p) 0) 0 0) (get_or bs (pin_net p) 0)) (cond b (g 3 (get_or cs (pin_net p) 0) 0 0) (get_or cs (pin_net p) 0))
      by_flag true = let z = kept.const 0 (lit≤ tt) in kept.gate 3 _ _ _ _ _ _ x z z
      by_flag false = x

  gate_related : {w w' : Walk} (k a b c : ℕ) → WalkRelated R w w'
      → R
      (f k (pin_byte f w.bytes a) (pin_byte f w.bytes b) (pin_byte f w.bytes c))
      (g k (pin_byte g w'.bytes a) (pin_byte g w'.bytes b) (pin_byte g w'.bytes c))
  gate_related k a b c h = kept.gate k _ _ _ _ _ _ (pin_related a h.bytes) (pin_related b h.bytes) (pin_related c h.bytes)

  net_related : {n i : ℕ} {x : Net} {w w' : Walk} → Passes n i x → WalkRelated R w w' → R (net_byte f x w) (net_byte g x w')
  unfolding net_byte
  net_related (is_const {a} p) h = kept.const a p
  net_related is_input h = byte_related 0 h.row
  net_related (is_reg p q) h = byte_related 0 h.state
  net_related (is_not {a} p) h = gate_related 3 a 0 0 h
  net_related (is_and {a} {b} p q) h = gate_related 4 a b 0 h
  net_related (is_or {a} {b} p q) h = gate_related 5 a b 0 h
  net_related (is_xor {a} {b} p q) h = gate_related 6 a b 0 h
  net_related (is_mux {a} {b} {c} p q r) h = gate_related 7 a b c h
  net_related (is_out {a} {b} p q) h = gate_related 8 a b 0 h

  pub past_related : {n i : ℕ} {x : Net} {w w' : Walk} → Passes n i x → WalkRelated R w w' → WalkRelated R (past f x w) (past g x w')
  unfolding past
  past_related {x = x} p h =
      record {
        bytes = pairs_append h.bytes (Forall₂.cons (net_related p h) Forall₂.nil);
        row = pairs_drop (cond (eqb x.kind 1) 1 0) h.row;
        state = pairs_drop (cond (eqb x.kind 2) 1 0) h.state;
      }

  walk_related : {n i : ℕ} {xs : List Net} {w w' : Walk} → AllPass n i xs → WalkRelated R w w'
      → WalkRelated R (walk f xs w) (walk g xs w')
  unfolding walk
  walk_related nil h = h
  walk_related (cons p ps) h = walk_related ps (past_related p h)

  bytes_related :
      {n i : ℕ} {xs : List Net} {row row' st st' : List ℕ} → AllPass n i xs → Forall₂ R row row' → Forall₂ R st st'
      → Forall₂ R (bytes_of f xs row st) (bytes_of g xs row' st')
  unfolding bytes_of
  bytes_related ps p q = (walk_related ps (record { bytes = Forall₂.nil; row = p; state = q })).bytes

  outputs_related : {bs cs : List ℕ} (i : ℕ) (xs : List Net) → Forall₂ R bs cs → Forall₂ R (outputs_from i xs bs) (outputs_from i xs cs)
  outputs_related {bs} {cs} i xs h = selections_related R (outputs_selected bs) (outputs_selected cs) (λ j x. byte_related j h) i xs

  clocked_related : {bs cs : List ℕ} (xs : List Net) → Forall₂ R bs cs → Forall₂ R (clocked f xs bs) (clocked g xs cs)
  unfolding clocked
  clocked_related xs h = registers_related R (λ x. pin_related x.a h) xs

-- CYCLES whose bytes are related by R, and their verdicts by Q
pub record Related (R : ℕ → ℕ → Type 0) (Q : Verdict → Verdict → Type 0) (c c' : Cycle) : Type 0 where
  pub bytes : Forall₂ R c.bytes c'.bytes
  pub verdict : Q c.verdict c'.verdict
  pub outputs : Forall₂ R c.outputs c'.outputs
  pub state : Forall₂ R c.state c'.state

abbrev pub Judged : (marked marked' : ℕ → Bool) → (ℕ → ℕ → Type 0) → (Verdict → Verdict → Type 0) → Type 0
Judged marked marked' R Q = (i : ℕ) (xs : List Net) (bs cs : List ℕ) → Forall₂ R bs cs → Q (verdict_from marked i xs bs) (verdict_from marked' i xs cs)

-- equal verdicts, where related bytes are marked alike
pub judged_alike : {marked marked' : ℕ → Bool} {R : ℕ → ℕ → Type 0} → R 0 0 → ((x y : ℕ) → R x y → marked x ≡ marked' y) → Judged marked marked' R ◌≡◌
unfolding verdict_from
judged_alike z h i [] bs cs p = refl
judged_alike z h i (x ∷ xs) bs cs p = rw (h _ _ (pairs_get_or i 0 z p), judged_alike z h (suc i) xs bs cs p)

-- where the first is clear, so is the second: this holds where of two related bytes the second is marked only if the first is
abbrev pub ClearAfter : Verdict → Verdict → Type 0
ClearAfter v w = v ≡ clear → w ≡ clear

clear_here : (protected m m' : Bool) (i : ℕ) {v w : Verdict} → (m' ≡ true → m ≡ true) → ClearAfter v w
    → ClearAfter (cond (protected && m) (flow i) v) (cond (protected && m') (flow i) w)
clear_here false m m' i h k = k
clear_here true true m' i h k = λ e. cc
clear_here true false false i h k = k
clear_here true false true i h k = λ e. let z = h refl in cc

pub judged_clear : {marked marked' : ℕ → Bool} {R : ℕ → ℕ → Type 0} → R 0 0 → ((x y : ℕ) → R x y → marked' y ≡ true → marked x ≡ true)
    → Judged marked marked' R ClearAfter
unfolding verdict_from
judged_clear z h i [] bs cs p = λ e. refl
judged_clear z h i (x ∷ xs) bs cs p =
    clear_here (eqb x.kind OUT && eqb x.b 1) _ _ i (h _ _ (pairs_get_or i 0 z p)) (judged_clear z h (suc i) xs bs cs p)

module _ (f g : Rules) {R : ℕ → ℕ → Type 0} {Q : Verdict → Verdict → Type 0} (kept : Kept f.gate g.gate R) (judged : Judged f.marked g.marked R Q)
    {n : ℕ} {xs : List Net} (ps : AllPass n 0 xs) where
  pub cycle_related : {row row' st st' : List ℕ} → Forall₂ R row row' → Forall₂ R st st' → Related R Q (cycle_of f xs row st) (cycle_of g xs row' st')
  unfolding cycle_of
  cycle_related p q =
      let b = bytes_related kept ps p q in
      record {
        bytes = b;
        verdict = judged 0 xs _ _ b;
        outputs = outputs_related kept 0 xs b;
        state = clocked_related kept xs b;
      }

  pub cycles_related : (i k : ℕ) {rows rows' st st' : List ℕ} → Forall₂ R rows rows' → Forall₂ R st st'
      → Forall₂ (Related R Q) (cycles_of f xs i k rows st) (cycles_of g xs i k rows' st')
  unfolding cycles_of
  cycles_related i zero p q = Forall₂.nil
  cycles_related i (suc k) p q = let c = cycle_related (pairs_take i p) q in Forall₂.cons c (cycles_related i k (pairs_drop i p) c.state)

module _ {R : ℕ → ℕ → Type 0} {Q : Verdict → Verdict → Type 0} where
  pub outputs_of_related : {cs cs' : List Cycle} → Forall₂ (Related R Q) cs cs' → Forall₂ R (outputs_of cs) (outputs_of cs')
  unfolding outputs_of
  outputs_of_related Forall₂.nil = Forall₂.nil
  outputs_of_related (Forall₂.cons h t) = pairs_append h.outputs (outputs_of_related t)

  pub state_after_related : {cs cs' : List Cycle} {st st' : List ℕ} → Forall₂ R st st' → Forall₂ (Related R Q) cs cs'
      → Forall₂ R (state_after st cs) (state_after st' cs')
  unfolding state_after
  state_after_related q Forall₂.nil = q
  state_after_related q (Forall₂.cons h t) = state_after_related h.state t

-- a run that is clear, and so the other
first_clear_here : (i n : ℕ) (v w : Verdict) {f g : FirstFlow} → ClearAfter v w
    → (f ≡ record { cycle = n; verdict = clear } → g ≡ record { cycle = n; verdict = clear })
    → first_of i v f ≡ record { cycle = n; verdict = clear } → first_of i w g ≡ record { cycle = n; verdict = clear }
unfolding first_of
first_clear_here i n clear clear h k e = k e
first_clear_here i n clear (flow m) h k e = let z = h refl in cc
first_clear_here i n (flow m) w h k e = let z : flow m ≡ clear = ap (λ f. f.verdict) e in cc

pub first_clear : {R : ℕ → ℕ → Type 0} {cs cs' : List Cycle} (i n : ℕ) → Forall₂ (Related R ClearAfter) cs cs'
    → first_flow i cs ≡ record { cycle = n; verdict = clear } → first_flow i cs' ≡ record { cycle = n; verdict = clear }
unfolding first_flow
first_clear i n Forall₂.nil e = e
first_clear i n (Forall₂.cons h t) e = first_clear_here i n _ _ h.verdict (first_clear (suc i) n t) e

-- AGREEMENT: the verdicts are equal
agree_kept : Kept gate_byte gate_byte AgreeByte
agree_kept = record { const = λ a h. same; gate = gates_agree }

agree_verdict : Judged mark mark AgreeByte ◌≡◌
agree_verdict = judged_alike same (λ x y h. agree_mark h)

pub agree_outputs : {bs cs : List ℕ} (i : ℕ) (xs : List Net) → Agree bs cs → Agree (outputs_from i xs bs) (outputs_from i xs cs)
agree_outputs = outputs_related agree_kept

module _ {n : ℕ} {xs : List Net} (ps : AllPass n 0 xs) where
  pub agree_cycle : {row row' st st' : List ℕ} → Agree row row' → Agree st st' → Related AgreeByte ◌≡◌ (cycle_of plain xs row st) (cycle_of plain xs row' st')
  agree_cycle = cycle_related plain plain agree_kept agree_verdict ps

  pub agree_cycles : (i k : ℕ) {rows rows' st st' : List ℕ} → Agree rows rows' → Agree st st'
      → Forall₂ (Related AgreeByte ◌≡◌) (cycles_of plain xs i k rows st) (cycles_of plain xs i k rows' st')
  agree_cycles = cycles_related plain plain agree_kept agree_verdict ps

-- a relation that says nothing of verdicts
abbrev pub AnyVerdicts : Verdict → Verdict → Type 0
AnyVerdicts v w = Unit {0}

-- VALUES: the plain values of a cycle depend on the plain values of its row and its state alone, whatever the marks
value_kept : Kept gate_byte gate_byte SameValue
value_kept = record { const = λ a h. record { values = refl }; gate = gates_values }

pub values_cycle : {n : ℕ} {xs : List Net} {row row' st st' : List ℕ} → AllPass n 0 xs → Forall₂ SameValue row row' → Forall₂ SameValue st st'
    → Related SameValue AnyVerdicts (cycle_of plain xs row st) (cycle_of plain xs row' st')
values_cycle ps = cycle_related plain plain {Q = AnyVerdicts} value_kept (λ i xs bs cs h. tt) ps

-- CODES: a cycle's bytes are 0 to 3 where its row's and its state's are
pub code_kept : Kept gate_byte gate_byte Code
code_kept = record { const = λ a h. omega arith; gate = gates_code }

pub codes_outputs : {bs : List ℕ} (i : ℕ) (xs : List Net) → Codes bs → Codes (outputs_from i xs bs)
codes_outputs = outputs_related code_kept

pub codes_cycle : {n : ℕ} {xs : List Net} {row st : List ℕ} → AllPass n 0 xs → Codes row → Codes st
    → Related Code AnyVerdicts (cycle_of plain xs row st) (cycle_of plain xs row st)
codes_cycle ps = cycle_related plain plain {Q = AnyVerdicts} code_kept (λ i xs bs cs h. tt) ps

-- codes are low, and so is what is read where there is no byte
pub low_codes : {bs : List ℕ} → Codes bs → Low bs
low_codes {bs} h = record { low = λ i. let m = pairs_get_or i 0 (lit≤ tt) h in omega arith }

pub codes_low : {bs : List ℕ} → Low bs → Codes bs
codes_low {bs} l = pairs_places bs bs 0 refl (λ i h. let m = l.low i in omega arith)

-- what a pin reads of a code is one
pub pin_code : (bs : List ℕ) (p : ℕ) → get_or bs (pin_net p) 0 < 4 → pin_byte gate_byte bs p < 4
unfolding pin_byte
pin_code bs p h = by_flag (inverted p)
  where
    x : ℕ
    x = get_or bs (pin_net p) 0

    by_flag : (b : Bool) → cond b (gate_byte 3 x 0 0) x < 4
    by_flag true = let g : gate_byte 3 x 0 0 ≤ 3 = gates_code 3 x x 0 0 0 0 (omega arith) (lit≤ tt) (lit≤ tt) in omega arith
    by_flag false = h

-- LENGTHS
pub registers_length : (f : Net → ℕ) (xs : List Net) → length (registers f xs) ≡ count REG xs
registers_length f xs = selection_length (registers_selected f) 0 xs

pub outputs_length : (i : ℕ) (xs : List Net) (bs : List ℕ) → length (outputs_from i xs bs) ≡ count OUT xs
outputs_length i xs bs = selection_length (outputs_selected bs) i xs
