-- Each promise that no proof of `codes` uses, used by its parts: so one that is left out of the record, or loses one of these parts, is missed here.
use Prim.Native.Nat.{ℕ, ◌+◌, ◌*◌, ◌/◌, ◌%◌, ◌≤◌, ◌<◌}
use mathlib.Core.Logic.{◌↔◌}
use mathlib.Core.Path.{◌≡◌}
use mathlib.Core.List.{List, [], ◌∷◌, map, Forall₂}
use mathlib.Core.Option.{none, some}
use mathlib.Core.Bool.{true}
use lib.ListN.{length, get_or, replicate}
use Rattle.gates.specs.Kinds.{CONST, INPUT, REG, NOT, AND, OR, XOR, MUX, OUT}
use Rattle.gates.specs.Rules.{mark, not_byte, and_byte, or_byte, xor_byte, mux_byte, gate_byte}
use Rattle.gates.specs.Relations.{AgreeByte, BelowByte}
use Rattle.gates.specs.Meaning.{Changed}
use Rattle.image.specs.declared.image.Net.{Net}
use Rattle.image.specs.Image.{sizes_of, net, nets_of, count}
use Rattle.image.specs.Pins.{pin_net}
use Rattle.refusals.specs.declared.answer.Refusal.{Refusal}
use Rattle.checking.specs.Check.{check_refusal}
use Rattle.cycle.specs.Cycle.{plain, pin_byte, Verdict, clear, flow, outputs_from, cycle_of, cycles_of}
use Rattle.cycle.specs.State.{state_length, registers_in, with_count}
use Rattle.cycle.specs.Calls.{done, power_up_refusal, power_up_of, step_of, step_refusal, run_of, run_refusal, Stepped, as_step}
use Rattle.doubled.specs.Doubled.{doubled_size, value_net, doubled_nets}
use Rattle.figures.specs.Figures.{doubled_size_of}
use Rattle.doubling.specs.Doubling.{double_refusal, double_of}
use Rattle.claims.specs.Reading.{two_bytes}
use Rattle.claims.specs.Accepted.{AcceptedImage, PinsBelow, ValuesListed, UnlistedZero}
use Rattle.claims.specs.Examples.{counted, two_rows, inverted_step}
use Rattle.claims.specs.NetBytes.{net_of, Counted, HasByte}
use Rattle.claims.specs.Steps.{steps_of, outputs_in, last_state, Gives}
use Rattle.claims.specs.Figures.{total}
use Rattle.claims.specs.Bound.{ors_image}
use Rattle.claims.specs.Verdicts.{MarkedOutput, Judged, lowest, First, first}
use Rattle.claims.proofs.Promised.{promised}

-- TERMS
kind_numbers : (CONST ≡ 0) × (INPUT ≡ 1) × (REG ≡ 2) × (NOT ≡ 3) × (AND ≡ 4) × (OR ≡ 5) × (XOR ≡ 6) × (MUX ≡ 7) × (OUT ≡ 8)
kind_numbers = promised.terms.kinds

one_more : (x : Net) (xs : List Net) (k : ℕ) → (x.kind ≡ k → ⊥) → (count x.kind (x ∷ xs) ≡ 1 + count x.kind xs) × (count k (x ∷ xs) ≡ count k xs)
one_more x xs k h = (promised.terms.count_one x xs, promised.terms.count_other k x xs h)

no_net : (k : ℕ) → count k [] ≡ 0
no_net = promised.terms.count_none

marks : (x : ℕ) → x ≤ 3 → mark x ≡ true → x / 2 ≡ 1
marks x h = (promised.terms.marked x h).0

itself : (x : ℕ) → AgreeByte x x
itself = promised.terms.same

cycle_outputs : (xs : List Net) (row st : List ℕ) → outputs_from 0 xs (cycle_of plain xs row st).bytes ≡ (cycle_of plain xs row st).outputs
cycle_outputs = promised.terms.outputs

doubled_size_lem : (s : List ℕ) → doubled_size (nets_of s) ≡ value_net (nets_of s) (sizes_of s).nets
doubled_size_lem = promised.terms.size

-- PINS: which net a pin names, and what it reads, without the top bit and with it
pin_plain : (bs : List ℕ) (j : ℕ) → j < 32768 → (pin_net j ≡ j) × (pin_byte gate_byte bs j ≡ get_or bs j 0)
pin_plain bs j h = (promised.pins_mean.names j h, promised.pins_mean.reads bs j h)

pin_inverted : (bs : List ℕ) (j : ℕ) → j < 32768 → get_or bs j 0 ≤ 3
    → let x = pin_byte gate_byte bs (32768 + j) in
    (pin_net (32768 + j) ≡ j) × (x % 2 ≡ (1 + get_or bs j 0) % 2) × (x / 2 ≡ get_or bs j 0 / 2) × (x ≡ not_byte (get_or bs j 0))
pin_inverted bs j h c = let p = promised.pins_mean in (p.names_inverted j h, p.reads_value bs j h c, p.reads_mark bs j h c, p.as_not bs j h)

sizes_read : (s : List ℕ) → ((sizes_of s).nets ≡ two_bytes s 0) × ((sizes_of s).inputs ≡ two_bytes s 2) × ((sizes_of s).registers ≡ two_bytes s 4) × ((sizes_of s).outputs ≡ two_bytes s 6)
sizes_read s = let r = promised.image_read s in (r.nets, r.inputs, r.registers, r.outputs)

net_read : (s : List ℕ) (i : ℕ) → i < (sizes_of s).nets
    → ((net_of s i).kind ≡ get_or s (8 + i) 0) × ((net_of s i).a ≡ two_bytes s (8 + (sizes_of s).nets + 6 * i))
    × ((net_of s i).b ≡ two_bytes s (8 + (sizes_of s).nets + 6 * i + 2)) × ((net_of s i).c ≡ two_bytes s (8 + (sizes_of s).nets + 6 * i + 4))
net_read s i h = let r = promised.image_read s in (r.kind i h, r.a i h, r.b i h, r.c i h)

-- ACCEPTED calls. 5 looks at the nets that pins name, and at nothing else of them; 6 and 7 at all 16 bits of operands that are no pins
pins_below : (n i : ℕ) (x : Net) → pin_net x.a < n → pin_net x.a < i → pin_net x.b < i → pin_net x.c < i → PinsBelow n i x
pins_below n i x reg a b c = record { reg = λ k. reg; a = λ l m. a; b = λ l m. b; c = λ k. c }

values_listed : (x : Net) → ValuesListed x → (x.kind ≡ 0 → x.a ≤ 1) × (x.kind ≡ 2 → x.b ≤ 2) × (x.kind ≡ 8 → x.b ≤ 1)
values_listed x v = (v.const, v.start, v.policy)

unlisted_zero : (x : Net) → UnlistedZero x
    → (x.kind ≡ 1 → (x.a ≡ 0) × (x.b ≡ 0)) × (x.kind ≡ 0 → x.b ≡ 0) × (x.kind ≡ 3 → x.b ≡ 0) × ((x.kind ≡ 7 → ⊥) → x.c ≡ 0)
unlisted_zero x u = (λ k. (u.input_a k, u.input_b k), u.const_b, u.not_b, u.c)

accepted_power_up : (s st : List ℕ) → AcceptedImage s → length st ≡ state_length (sizes_of s) → power_up_refusal s st ≡ none
accepted_power_up s st a l = (promised.when_accepted.power_up s st).1 (a, l)

accepted_double : (s buf : List ℕ) → AcceptedImage s → doubled_size (nets_of s) ≤ 8192 → length buf ≡ 8 + 7 * doubled_size (nets_of s) → double_refusal s buf ≡ none
accepted_double s buf a few l = (promised.when_accepted.double s buf).1 (a, few, l)

-- GATES
gate_values : (a b : ℕ) → a ≤ 3 → b ≤ 3
    → (not_byte a % 2 ≡ (1 + a) % 2) × (and_byte a b % 2 ≡ (a * b) % 2) × (or_byte a b % 2 ≡ (a + b + a * b) % 2) × (xor_byte a b % 2 ≡ (a + b) % 2)
gate_values a b h k = let g = promised.gate_values in (g.not a h, g.and a b h k, g.or a b h k, g.xor a b h k)

gate_marks : (a b c : ℕ) → a ≤ 3 → b ≤ 3 → c ≤ 3
    → ((not_byte a / 2 ≡ 1) ↔ Changed (λ a b c. not_byte a) a b c) × ((and_byte a b / 2 ≡ 1) ↔ Changed (λ a b c. and_byte a b) a b c)
    × ((or_byte a b / 2 ≡ 1) ↔ Changed (λ a b c. or_byte a b) a b c) × ((xor_byte a b / 2 ≡ 1) ↔ Changed (λ a b c. xor_byte a b) a b c)
    × ((mux_byte a b c / 2 ≡ 1) ↔ Changed mux_byte a b c)
gate_marks a b c h k l = let g = promised.marks_exact in (g.not a b c h k l, g.and a b c h k l, g.or a b c h k l, g.xor a b c h k l, g.mux a b c h k l)

changed : {f : (a b c : ℕ) → ℕ} {a b c : ℕ} (d : Changed f a b c)
    → (f d.other_a d.other_b d.other_c % 2 ≡ f a b c % 2 → ⊥) × AgreeByte a d.other_a × AgreeByte b d.other_b × AgreeByte c d.other_c
changed d = (d.changed, d.agree_a, d.agree_b, d.agree_c)

to_change : {f : (a b c : ℕ) → ℕ} {a b c a' b' c' : ℕ} → AgreeByte a a' → AgreeByte b b' → AgreeByte c c' → (f a' b' c' % 2 ≡ f a b c % 2 → ⊥) → Changed f a b c
to_change p q r n = record { other_a = _; other_b = _; other_c = _; agree_a = p; agree_b = q; agree_c = r; changed = n }

mux_values : (a b c : ℕ) → a ≤ 3 → b ≤ 3 → c ≤ 3 → (c % 2 ≡ 0 → mux_byte a b c % 2 ≡ a % 2) × (c % 2 ≡ 1 → mux_byte a b c % 2 ≡ b % 2)
mux_values a b c h k l = let g = promised.gate_values in (g.mux_a a b c h k l, g.mux_b a b c h k l)

more_marks : (kind a a' b b' c c' : ℕ) → BelowByte a a' → BelowByte b b' → BelowByte c c' → BelowByte (gate_byte kind a b c) (gate_byte kind a' b' c')
more_marks = promised.gates_monotone

relations : (x y : ℕ) → x ≤ 3 → y ≤ 3
    → (AgreeByte x y ↔ ((x / 2 ≡ y / 2) × (x / 2 ≡ 0 → x % 2 ≡ y % 2))) × (BelowByte x y ↔ ((x % 2 ≡ y % 2) × (x / 2 ≤ y / 2)))
relations x y h k = let r = promised.relations_mean in (r.agree x y h k, r.below x y h k)

examples : (and_byte 0 2 ≡ 0) × (and_byte 1 2 ≡ 2) × (and_byte 2 2 ≡ 2) × (or_byte 1 3 ≡ 1) × (or_byte 0 3 ≡ 3) × (xor_byte 1 3 ≡ 2)
    × (mux_byte 0 3 0 ≡ 0) × (mux_byte 0 3 1 ≡ 3) × (mux_byte 0 0 2 ≡ 0) × (mux_byte 1 1 2 ≡ 1) × (mux_byte 0 1 2 ≡ 2)
examples = let e = promised.examples in (e.c1, e.c2, e.c3, e.c4, e.c5, e.c6, e.c7, e.c8, e.c9, e.c10, e.c11)

counter_run : (counted.outputs ≡ 0 ∷ 3 ∷ 2 ∷ 0 ∷ []) × (counted.answer ≡ done (record { cycle = 1; verdict = flow 5 }))
counter_run = (promised.examples.c12, promised.examples.c12_flow)

two_rows_lem : two_rows.outputs ≡ 2 ∷ 1 ∷ 0 ∷ 3 ∷ []
two_rows_lem = promised.examples.two_rows_lem

-- a step with inverted pins, each pin of each kind
inverted_pins : (inverted_step.answer ≡ done (flow 12)) × (inverted_step.state ≡ 3 ∷ 1 ∷ 0 ∷ []) × (inverted_step.nets ≡ 2 ∷ 1 ∷ 0 ∷ 2 ∷ 3 ∷ 0 ∷ 2 ∷ 2 ∷ 2 ∷ 2 ∷ 3 ∷ 3 ∷ 3 ∷ [])
inverted_pins = let e = promised.examples.inverted in (rw e, rw e, rw e)

-- CYCLES of an accepted image
module _ (s st : List ℕ) (h : check_refusal s ≡ none) (l : length st ≡ state_length (sizes_of s)) where
  register_starts : (i : ℕ) → i < (sizes_of s).nets → (net_of s i).kind ≡ REG
      → ((net_of s i).b ≡ 0 → Counted REG s i (registers_in s (power_up_of s st).state) 0) × ((net_of s i).b ≡ 1 → Counted REG s i (registers_in s (power_up_of s st).state) 1)
      × ((net_of s i).b ≡ 2 → Counted REG s i (registers_in s (power_up_of s st).state) 2)
  register_starts i m k = let p = promised.power_up_starts s st h l in (p.start_0 i m k, p.start_1 i m k, p.none_given i m k)

  powered_up_lem : ((power_up_of s st).refusal ≡ none) × (length (power_up_of s st).state ≡ state_length (sizes_of s))
  powered_up_lem = let p = promised.power_up_starts s st h l in (p.done, p.size)

-- of register bytes
module _ (s st : List ℕ) (h : check_refusal s ≡ none) (l : length st ≡ (sizes_of s).registers) where
  sizes : (row : List ℕ) → length row ≡ (sizes_of s).inputs
      → let c = cycle_of plain (nets_of s) row st in (length c.bytes ≡ (sizes_of s).nets) × (length c.state ≡ (sizes_of s).registers)
  sizes row m = let n = promised.net_bytes s row st h m l in (n.nets, n.registers)

  net_has : (row : List ℕ) → length row ≡ (sizes_of s).inputs → (i : ℕ) → i < (sizes_of s).nets
      → let bs = (cycle_of plain (nets_of s) row st).bytes in HasByte s row st bs i (net_of s i) (get_or bs i 0)
  net_has row m = (promised.net_bytes s row st h m l).net_byte_lem

  register_takes : (row : List ℕ) → length row ≡ (sizes_of s).inputs → (i : ℕ) → i < (sizes_of s).nets → (net_of s i).kind ≡ REG
      → let c = cycle_of plain (nets_of s) row st in Counted REG s i c.state (pin_byte gate_byte c.bytes (net_of s i).a)
  register_takes row m = (promised.net_bytes s row st h m l).clock

  only_bytes : (row bs : List ℕ) → length bs ≡ (sizes_of s).nets
      → ((i : ℕ) → i < (sizes_of s).nets → HasByte s row st bs i (net_of s i) (get_or bs i 0)) → bs ≡ (cycle_of plain (nets_of s) row st).bytes
  only_bytes row bs = promised.ruled_bytes s row st bs h

-- the byte that a net of each kind may have, by what its pins read
module _ (s row st bs : List ℕ) (i a b c : ℕ) (ha : pin_net a < i) (hb : pin_net b < i) (hc : pin_net c < i) where
  abbrev pin : ℕ → ℕ
  pin p = pin_byte gate_byte bs p

  abbrev Has : Net → ℕ → Type 0
  Has = HasByte s row st bs i

  may_have :
      Has (net NOT a 0 0) (not_byte (pin a)) × Has (net AND a b 0) (and_byte (pin a) (pin b)) × Has (net OR a b 0) (or_byte (pin a) (pin b))
      × Has (net XOR a b 0) (xor_byte (pin a) (pin b)) × Has (net MUX a b c) (mux_byte (pin a) (pin b) (pin c)) × Has (net OUT a 1 0) (pin a)
  may_have = (HasByte.not ha, HasByte.and ha hb, HasByte.or ha hb, HasByte.xor ha hb, HasByte.mux ha hb hc, HasByte.out ha)

-- CALLS
step_nets : (s st row nets : List ℕ) → step_refusal s st row nets ≡ none → (step_of s st row nets).nets ≡ (cycle_of plain (nets_of s) row (registers_in s st)).bytes
step_nets s st row nets h = rw (promised.step_is_cycle s st row nets h)

run_outputs : (s st : List ℕ) (k : ℕ) (rows outputs : List ℕ) → run_refusal s st k rows outputs ≡ none
    → ((run_of s st k rows outputs).outputs ≡ outputs_in s (steps_of s st k rows)) × ((run_of s st k rows outputs).state ≡ last_state st (steps_of s st k rows))
run_outputs s st k rows outputs h = let a = promised.run_is_steps s st k rows outputs h in (a.outs, a.state)

run_first : (s st : List ℕ) (k : ℕ) (rows outputs : List ℕ) (h : run_refusal s st k rows outputs ≡ none)
    → let a = promised.run_is_steps s st k rows outputs h in ((run_of s st k rows outputs).answer ≡ done a.first) × First a.verdicts a.first
run_first s st k rows outputs h = let a = promised.run_is_steps s st k rows outputs h in (a.answer, a.is_first)

-- HOW BIG IT GETS
figures_accepted : (s : List ℕ) → AcceptedImage s → doubled_size (nets_of s) ≤ 8192 → (doubled_size_of s).refusal ≡ none
figures_accepted s a few = (promised.when_accepted.doubled_size_lem s).1 (a, few)

figures_of : (s buf : List ℕ) → (double_of s buf).refusal ≡ none → (doubled_size_of s).bytes ≡ length (double_of s buf).buffer
figures_of s buf w = (promised.figures_written s buf w).bytes

figures_summed : (s : List ℕ) → total (doubled_size_of s).kinds ≡ (doubled_size_of s).nets
figures_summed = promised.kinds_add_up

figures_refused : (s : List ℕ) (r : Refusal) → (doubled_size_of s).refusal ≡ some r → doubled_size_of s ≡ record { refusal = some r; nets = 0; bytes = 0; kinds = replicate 9 0 }
figures_refused = promised.no_figures

largest : (s : List ℕ) → check_refusal s ≡ none → length (doubled_nets (nets_of s)) + 6 ≤ 8 * (sizes_of s).nets
largest = promised.size_bound

reached : (n : ℕ) → 1 ≤ n → n ≤ 8192
    → (check_refusal (ors_image n) ≡ none) × ((sizes_of (ors_image n)).nets ≡ n) × ((p : ℕ) → get_or (ors_image n) p 0 < 256)
    × (length (doubled_nets (nets_of (ors_image n))) + 6 ≡ 8 * n)
reached n l m = let r = promised.bound_reached n l m in (r.accepted, r.nets, r.bytes, r.size)

-- VERDICTS
lowest_flow : {xs : List Net} {bs : List ℕ} {i : ℕ} → Judged xs bs (flow i) → MarkedOutput xs bs i × ((j : ℕ) → j < i → MarkedOutput xs bs j → ⊥)
lowest_flow (lowest m h) = (m, h)

earliest_flow : {vs : List Verdict} {c n : ℕ} → First vs (record { cycle = c; verdict = flow n })
    → (get_or vs c clear ≡ flow n) × ((d : ℕ) → d < c → get_or vs d clear ≡ clear)
earliest_flow (first l e h) = (e, h)

-- what a step leaves beside the net bytes: the verdict, and the registers after the clock, with their count
step_leaves : (s st row nets : List ℕ) → step_refusal s st row nets ≡ none
    → let c = cycle_of plain (nets_of s) row (registers_in s st) in
    ((step_of s st row nets).answer ≡ done c.verdict) × ((step_of s st row nets).state ≡ with_count c.state)
step_leaves s st row nets h = let e = promised.step_is_cycle s st row nets h in (rw e, rw e)

-- the steps of a run: none is refused, and they are its cycles
run_steps : (s st : List ℕ) (k : ℕ) (rows outputs : List ℕ) (h : run_refusal s st k rows outputs ≡ none)
    → let a = promised.run_is_steps s st k rows outputs h in
    Forall₂ Gives (steps_of s st k rows) a.verdicts
    × (steps_of s st k rows ≡ map as_step (cycles_of plain (nets_of s) (sizes_of s).inputs k rows (registers_in s st)))
run_steps s st k rows outputs h = let a = promised.run_is_steps s st k rows outputs h in (a.steps, a.cycles)

gives : {o : Stepped} {v : Verdict} → Gives o v → o.answer ≡ done v
gives g = g.answer

each_output : (s row st : List ℕ) → check_refusal s ≡ none → length row ≡ (sizes_of s).inputs → length st ≡ (sizes_of s).registers
    → let c = cycle_of plain (nets_of s) row st in
    (length c.outputs ≡ (sizes_of s).outputs)
    × ((i : ℕ) → i < (sizes_of s).nets → (net_of s i).kind ≡ OUT → Counted OUT s i c.outputs (get_or c.bytes i 0))
each_output s row st h m l = let n = promised.net_bytes s row st h m l in (n.outputs, n.output_byte)
