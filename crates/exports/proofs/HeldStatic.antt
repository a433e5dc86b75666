-- The promises about static runs, used by their parts, as in Held.
use Prim.Native.Nat.{ℕ, ◌+◌, ◌*◌, ◌/◌, ◌%◌, ◌≤◌, ◌<◌}
use mathlib.Core.Path.{◌≡◌, refl}
use mathlib.Core.List.{List, [], ◌∷◌, Memᴰ, Forall₂}
use mathlib.Core.Option.{none}
use mathlib.Core.Bool.{true, false}
use lib.ListN.{length, get_or, take, drop}
use Rattle.gates.specs.Kinds.{CONST, INPUT, REG, NOT, OUT}
use Rattle.gates.specs.Rules.{value, mark, gate_byte}
use Rattle.unknowns.specs.Filling.{is_code, known, fillings, static_byte}
use Rattle.unknowns.specs.Covering.{Covers, CoversAll}
use Rattle.image.specs.Image.{sizes_of, nets_of}
use Rattle.checking.specs.Check.{check_refusal}
use Rattle.cycle.specs.Cycle.{pin_byte, clear, flow, plain, Cycle, cycles_of, outputs_of, state_after, first_flow}
use Rattle.cycle.specs.State.{with_count, registers_in}
use Rattle.cycle.specs.Calls.{done, power_up_of, counting, run_refusal, run_of}
use Rattle.static_run.specs.StaticCalls.{static, static_power_up_refusal, static_power_up_of, static_run_refusal, static_run_of}
use Rattle.unknowns.proofs.Covered.{covers_itself, covers_trusted, covers_every}
use Rattle.claims.specs.Accepted.{NoneAbove3, AcceptedImage}
use Rattle.claims.specs.NetBytes.{net_of, place_of, Counted}
use Rattle.claims.specs.PowerUp.{Wakes}
use Rattle.claims.specs.InBytes.{clear_after}
use Rattle.claims.specs.Verdicts.{Judged}
use Rattle.claims.specs.StaticNets.{StaticNets, StaticCycles, static_counted}
use Rattle.claims.specs.StaticRuns.{CoversCycle, CoversState, SoundRun, RunPair, AllCovered, no_more, one_more, SoundRuns}
use Rattle.claims.specs.StaticBytes.{FilledBy, ToldBy, ToldState}
use Rattle.claims.proofs.Promised.{promised}

-- A CODE covers a byte by these four conditions and no others
made : (code byte : ℕ) → is_code code ≡ true → (known code ≡ true → value byte ≡ value code) → (mark byte ≡ true → mark code ≡ true) → byte ≤ 3 → Covers code byte
made code byte e v m s = record { exists = e; values = v; marks = m; small = s }

parts : {code byte : ℕ} → Covers code byte → (is_code code ≡ true) × (known code ≡ true → value byte ≡ value code) × (mark byte ≡ true → mark code ≡ true) × (byte ≤ 3)
parts c = (c.exists, c.values, c.marks, c.small)

-- CYCLES, net by net. A run of two cycles is read off two, the second from the state that the first left
two_cycles : {s rows st : List ℕ} {c d : Cycle} → StaticCycles s 2 rows st (c ∷ d ∷ [])
    → StaticNets s (take (sizes_of s).inputs rows) st c × StaticNets s (take (sizes_of s).inputs (drop (sizes_of s).inputs rows)) c.state d
two_cycles (StaticCycles.cons p (StaticCycles.cons q r)) = (p, q)

read_off : (s st : List ℕ) (k : ℕ) (rows outputs : List ℕ) (h : static_run_refusal s st k rows outputs ≡ none)
    → let r = promised.static_nets.run s st k rows outputs h in
    StaticCycles s k rows st r.cycles × ((static_run_of s st k rows outputs).answer ≡ done (first_flow 0 r.cycles))
    × ((static_run_of s st k rows outputs).state ≡ state_after st r.cycles) × ((static_run_of s st k rows outputs).outputs ≡ outputs_of r.cycles)
read_off s st k rows outputs h = let r = promised.static_nets.run s st k rows outputs h in (r.are, r.answer, r.state, r.output_codes)

-- a gate has the code of the rule, a source its own, and what becomes of them
gate_code : {s row st : List ℕ} {c : Cycle} → StaticNets s row st c → (i : ℕ) → i < (sizes_of s).nets → NOT ≤ (net_of s i).kind
    → let pin = pin_byte static_byte c.bytes in
    let x = net_of s i in
    get_or c.bytes i 0 ≡ static_byte x.kind (pin x.a) (pin x.b) (pin x.c)
gate_code n = n.gate

source_codes : {s row st : List ℕ} {c : Cycle} → StaticNets s row st c → (i : ℕ) → i < (sizes_of s).nets
    → ((net_of s i).kind ≡ CONST → get_or c.bytes i 0 ≡ (net_of s i).a) × ((net_of s i).kind ≡ INPUT → get_or c.bytes i 0 ≡ get_or row (place_of INPUT s i) 0)
    × ((net_of s i).kind ≡ REG → get_or c.bytes i 0 ≡ get_or st (place_of REG s i) 0)
source_codes n i h = (n.constant i h, n.input i h, n.register i h)

becomes : {s row st : List ℕ} {c : Cycle} → StaticNets s row st c
    → (length c.bytes ≡ (sizes_of s).nets) × Judged (nets_of s) c.bytes c.verdict × (length c.outputs ≡ (sizes_of s).outputs) × (length c.state ≡ (sizes_of s).registers)
becomes n = (n.nets, n.verdict, n.outputs, n.registers)

shown_and_clocked : {s row st : List ℕ} {c : Cycle} → StaticNets s row st c → (i : ℕ) → i < (sizes_of s).nets
    → ((net_of s i).kind ≡ OUT → Counted OUT s i c.outputs (get_or c.bytes i 0))
    × ((net_of s i).kind ≡ REG → Counted REG s i c.state (pin_byte static_byte c.bytes (net_of s i).a))
shown_and_clocked n i h = (n.output i h, n.clock i h)

pins_read : (bs : List ℕ) (j : ℕ) → j < 32768 → (pin_byte static_byte bs j ≡ get_or bs j 0) × (pin_byte static_byte bs (32768 + j) ≡ static_byte NOT (get_or bs j 0) 0 0)
pins_read bs j h = let p = promised.static_nets.pins in (p.upright bs j h, p.inverted bs j)

-- ONE RUN
-- a static state is compared with the register bytes of a state, whose count stands behind them
covers_state : {codes : List ℕ} (rs : List ℕ) → CoversAll codes rs → CoversState codes (with_count rs)
covers_state rs h = record { registers = rs; covered = h; state = refl }

covered_state : {codes st : List ℕ} (c : CoversState codes st) → CoversAll codes c.registers × (st ≡ with_count c.registers)
covered_state c = (c.covered, c.state)

same_refusal : (s st st' : List ℕ) (k : ℕ) (codes rows b b' : List ℕ) → CoversState st st' → CoversAll codes rows → length b ≡ length b'
    → static_run_refusal s st k codes b ≡ run_refusal s st' k rows b'
same_refusal s st st' k codes rows b b' p q l = (promised.static_sound s st st' k codes rows b b' p q l).refusal

state_covered : (s st st' : List ℕ) (k : ℕ) (codes rows b b' : List ℕ) → CoversState st st' → CoversAll codes rows → length b ≡ length b'
    → CoversState (static_run_of s st k codes b).state (run_of s st' k rows b').state
state_covered s st st' k codes rows b b' p q l = (promised.static_sound s st st' k codes rows b b' p q l).state

each_cycle : {c d : Cycle} → CoversCycle c d
    → CoversAll c.bytes d.bytes × (c.verdict ≡ clear → d.verdict ≡ clear) × CoversAll c.outputs d.outputs × CoversAll c.state d.state
each_cycle h = (h.nets, h.verdict, h.outputs, h.state)

accepted_run : (s st st' : List ℕ) (k : ℕ) (codes rows b b' : List ℕ) → CoversState st st' → CoversAll codes rows → length b ≡ length b'
    → static_run_refusal s st k codes b ≡ none
    → Forall₂ CoversCycle (cycles_of static (nets_of s) (sizes_of s).inputs k codes st) (cycles_of plain (nets_of s) (sizes_of s).inputs k rows (registers_in s st'))
    × CoversAll (static_run_of s st k codes b).outputs (run_of s st' k rows b').outputs
    × ((static_run_of s st k codes b).answer ≡ clear_after k → (run_of s st' k rows b').answer ≡ clear_after k)
accepted_run s st st' k codes rows b b' p q l h =
    let a = (promised.static_sound s st st' k codes rows b b' p q l).accepted h in
    (a.cycles, a.outputs, a.clears)

-- in bytes alone: what it asks for can be made, and what it gives is used
filled : (codes bytes : List ℕ) → length codes ≡ length bytes → ((i : ℕ) → i < length codes → (get_or codes i 0 ≡ 5 → ⊥) × (get_or codes i 0 ≤ 6))
    → ((i : ℕ) → i < length codes → get_or codes i 0 ≤ 3 → get_or bytes i 0 ≡ get_or codes i 0)
    → ((i : ℕ) → i < length codes → get_or codes i 0 ≡ 4 → get_or bytes i 0 ≤ 1)
    → ((i : ℕ) → i < length codes → get_or codes i 0 ≡ 6 → (2 ≤ get_or bytes i 0) × (get_or bytes i 0 ≤ 3)) → FilledBy codes bytes
filled codes bytes l c k u t = record { size = l; codes_are = c; known = k; unknown_trusted = u; unknown_untrusted = t }

told : {codes bytes : List ℕ} → ToldBy codes bytes → (length codes ≡ length bytes)
    × ((i : ℕ) → i < length codes → (get_or codes i 0 ≡ 5 → ⊥) × (get_or codes i 0 ≤ 6)) × ((i : ℕ) → i < length codes → get_or bytes i 0 ≤ 3)
    × ((i : ℕ) → i < length codes → get_or codes i 0 ≤ 3 → get_or bytes i 0 % 2 ≡ get_or codes i 0 % 2)
    × ((i : ℕ) → i < length codes → get_or codes i 0 / 2 % 2 ≡ 0 → get_or bytes i 0 / 2 ≡ 0)
told t = (t.size, t.codes_are, t.bytes_are, t.values, t.marks)

told_state : {codes st : List ℕ} (t : ToldState codes st) → ToldBy codes t.registers × (st ≡ with_count t.registers)
told_state t = (t.told, t.state)

clear_too : (s st rs : List ℕ) (k : ℕ) (codes rows b b' : List ℕ) → FilledBy st rs → FilledBy codes rows → length b ≡ length b'
    → (static_run_of s st k codes b).answer ≡ clear_after k
    → let o = run_of s (with_count rs) k rows b' in
    (o.answer ≡ clear_after k) × ToldBy (static_run_of s st k codes b).outputs o.outputs × ToldState (static_run_of s st k codes b).state o.state
clear_too s st rs k codes rows b b' p q l h =
    let e = promised.static_clear in
    let c = e.run s st (with_count rs) k codes rows b b' (record { registers = rs; told = e.fills st rs p; state = refl }) q l h in
    (c.answer, c.outputs, c.state)

-- two runs, one after the other, from a state with which the array wakes
clear_again : (s a st : List ℕ) (k k' : ℕ) (codes codes' rows rows' b b' u u' : List ℕ) → (static_power_up_of s a).refusal ≡ none → Wakes s st
    → FilledBy codes rows → FilledBy codes' rows' → length b ≡ length b' → length u ≡ length u'
    → let o = static_run_of s (static_power_up_of s a).state k codes b in
    let o' = run_of s st k rows b' in
    o.answer ≡ clear_after k → (static_run_of s o.state k' codes' u).answer ≡ clear_after k' → (run_of s o'.state k' rows' u').answer ≡ clear_after k'
clear_again s a st k k' codes codes' rows rows' b b' u u' d w p q l m h g =
    let e = promised.static_clear in
    let first = e.run s _ st k codes rows b b' (e.wakes s a st d w) p l h in
    (e.run s _ _ k' codes' rows' u u' first.state q m g).answer

-- POWER-UP
woken : (s a a' st : List ℕ) → length a' ≡ length a + 2 → (power_up_of s a').refusal ≡ none → Wakes s st
    → ((static_power_up_of s a).refusal ≡ (power_up_of s a').refusal) × CoversState (static_power_up_of s a).state (power_up_of s a').state × CoversState (static_power_up_of s a).state st
woken s a a' st l h w = let p = promised.static_wakes s a a' l in (p.refusal, p.state h, p.wakes h st w)

wakes_6 : (s st : List ℕ) → check_refusal s ≡ none → length st ≡ (sizes_of s).registers → (i : ℕ) → i < (sizes_of s).nets → (net_of s i).kind ≡ REG → (net_of s i).b ≡ 2
    → Counted REG s i (static_power_up_of s st).state 6
wakes_6 s st h l = (promised.static_starts_lem s st h l).none_given

others_start : (s st : List ℕ) → check_refusal s ≡ none → length st ≡ (sizes_of s).registers → (i : ℕ) → i < (sizes_of s).nets → (net_of s i).kind ≡ REG
    → ((static_power_up_of s st).refusal ≡ none) × (length (static_power_up_of s st).state ≡ (sizes_of s).registers)
    × ((net_of s i).b ≡ 0 → Counted REG s i (static_power_up_of s st).state 0) × ((net_of s i).b ≡ 1 → Counted REG s i (static_power_up_of s st).state 1)
others_start s st h l i m k = let p = promised.static_starts_lem s st h l in (p.done, p.size, p.start_0 i m k, p.start_1 i m k)

-- LISTS OF RUNS: of two, the second is sound from the states that the first left
second_run : {s st st' : List ℕ} {r q : RunPair} → SoundRuns s st st' (r ∷ q ∷ [])
    → SoundRun s (static_run_of s st r.k r.codes r.outputs).state (run_of s st' r.k r.rows r.outputs').state q.k q.codes q.rows q.outputs q.outputs'
second_run (SoundRuns.cons p (SoundRuns.cons q more)) = q

-- any list, from power-up, from a state with which the array wakes, and from a covered state
runs : (s a a' st st' : List ℕ) (r : RunPair) (rs : List RunPair) → CoversAll r.codes r.rows → length r.outputs ≡ length r.outputs' → AllCovered rs
    → length a' ≡ length a + 2 → (power_up_of s a').refusal ≡ none → (static_power_up_of s a).refusal ≡ none → Wakes s st → CoversState st' st
    → SoundRuns s (static_power_up_of s a).state (power_up_of s a').state (r ∷ rs) × SoundRuns s (static_power_up_of s a).state st (r ∷ rs) × SoundRuns s st' st (r ∷ rs)
runs s a a' st st' r rs q l more m h g w p =
    let all = promised.static_runs s (r ∷ rs) (one_more q l more) in
    (all.from_power_up_lem a a' m h, all.from_wakes a st g w, all.covered st' st p)

no_runs : AllCovered []
no_runs = no_more

-- WITHOUT UNKNOWNS
plain_power_up : (s : List ℕ) → ((i : ℕ) → (net_of s i).kind ≡ REG → (net_of s i).b ≡ 2 → ⊥) → (st st' : List ℕ) → length st' ≡ length st + 2
    → ((power_up_of s st').refusal ≡ (static_power_up_of s st).refusal)
    × ((static_power_up_of s st).refusal ≡ none → (power_up_of s st').refusal ≡ none → (power_up_of s st').state ≡ with_count (static_power_up_of s st).state)
plain_power_up s n st st' l = let c = promised.static_plain s in (c.power_up_refusal_lem st st' l, c.power_up n st st')

plain_run : (s rs : List ℕ) (k : ℕ) (rows outputs : List ℕ) → ((i : ℕ) → i < length rows → get_or rows i 0 ≤ 3) → ((i : ℕ) → i < length rs → get_or rs i 0 ≤ 3)
    → let o = static_run_of s rs k rows outputs in
    run_of s (with_count rs) k rows outputs ≡ record { answer = o.answer; state = with_count o.state; outputs = o.outputs }
unfolding counting
plain_run s rs k rows outputs p q = (promised.static_plain s).run rs k rows outputs p q

plain_cycles : (s : List ℕ) → check_refusal s ≡ none → (k : ℕ) (rows st : List ℕ) → NoneAbove3 rows → NoneAbove3 st
    → cycles_of static (nets_of s) (sizes_of s).inputs k rows st ≡ cycles_of plain (nets_of s) (sizes_of s).inputs k rows st
plain_cycles s = (promised.static_plain s).cycles

-- AT A GATE
says_most : (kind a b c x : ℕ) → is_code a ≡ true → is_code b ≡ true → is_code c ≡ true
    → ((p q r : ℕ) → Memᴰ p (fillings a) → Memᴰ q (fillings b) → Memᴰ r (fillings c) → Covers x (gate_byte kind p q r))
    → (known x ≡ true → (known (static_byte kind a b c) ≡ true) × (value (static_byte kind a b c) ≡ value x)) × (mark (static_byte kind a b c) ≡ true → mark x ≡ true)
says_most kind a b c x ha hb hc h = let m = (promised.static_exact kind a b c ha hb hc).least x h in (m.values, m.marks)

covers_all : (kind a b c p q r : ℕ) → is_code a ≡ true → is_code b ≡ true → is_code c ≡ true → Memᴰ p (fillings a) → Memᴰ q (fillings b) → Memᴰ r (fillings c)
    → Covers (static_byte kind a b c) (gate_byte kind p q r)
covers_all kind a b c p q r ha hb hc = (promised.static_exact kind a b c ha hb hc).covers p q r

-- an unknown bit is filled both ways, and a known one is not
both_ways : Memᴰ 0 (fillings 4) × Memᴰ 1 (fillings 4) × Memᴰ 2 (fillings 6) × Memᴰ 3 (fillings 6)
unfolding fillings
both_ways = (Memᴰ.head refl, Memᴰ.tail (Memᴰ.head refl), Memᴰ.head refl, Memᴰ.tail (Memᴰ.head refl))

one_way : (fillings 0 ≡ 0 ∷ []) × (fillings 1 ≡ 1 ∷ []) × (fillings 2 ≡ 2 ∷ []) × (fillings 3 ≡ 3 ∷ []) × (fillings 4 ≡ 0 ∷ 1 ∷ []) × (fillings 6 ≡ 2 ∷ 3 ∷ [])
unfolding fillings
one_way = (refl, refl, refl, refl, refl, refl)

-- the codes, and those with a known value
the_codes : (is_code 0 ≡ true) × (is_code 1 ≡ true) × (is_code 2 ≡ true) × (is_code 3 ≡ true) × (is_code 4 ≡ true) × (is_code 5 ≡ false) × (is_code 6 ≡ true) × (is_code 7 ≡ false)
the_codes = (refl, refl, refl, refl, refl, refl, refl, refl)

known_codes : (known 0 ≡ true) × (known 1 ≡ true) × (known 2 ≡ true) × (known 3 ≡ true) × (known 4 ≡ false) × (known 6 ≡ false)
known_codes = (refl, refl, refl, refl, refl, refl)

-- 4 covers either trusted bit, 6 every byte, and a byte itself; and lists are covered place by place
covered_by : (x y : ℕ) → x ≤ 1 → y ≤ 3 → Covers 4 x × Covers 6 y × Covers y y
covered_by x y h k = (covers_trusted h, covers_every k, covers_itself k)

place_by_place : {cs bs : List ℕ} → Forall₂ Covers cs bs → CoversAll cs bs
place_by_place h = h

place_by_place_back : {cs bs : List ℕ} → CoversAll cs bs → Forall₂ Covers cs bs
place_by_place_back h = h

-- THE EXAMPLE
counted_outputs : (static_counted.outputs ≡ 0 ∷ 4 ∷ 4 ∷ 6 ∷ []) × (static_counted.state ≡ 6 ∷ []) × (static_counted.answer ≡ done (record { cycle = 3; verdict = flow 5 }))
counted_outputs = let e = promised.static_nets.example in (rw e, rw e, rw e)

-- WHAT IS ACCEPTED
accepted_static_power_up : (s st : List ℕ) → AcceptedImage s → length st ≡ (sizes_of s).registers → static_power_up_refusal s st ≡ none
accepted_static_power_up s st a l = (promised.when_accepted.static_power_up s st).1 (a, l)

accepted_static_run : (s st : List ℕ) (k : ℕ) (rows outputs : List ℕ) → AcceptedImage s → k ≤ 4096 → length st ≡ (sizes_of s).registers
    → ((i : ℕ) → i < length st → (get_or st i 0 ≡ 5 → ⊥) × (get_or st i 0 ≤ 6)) → length rows ≡ k * (sizes_of s).inputs
    → ((i : ℕ) → i < length rows → (get_or rows i 0 ≡ 5 → ⊥) × (get_or rows i 0 ≤ 6)) → length outputs ≡ k * (sizes_of s).outputs → static_run_refusal s st k rows outputs ≡ none
accepted_static_run s st k rows outputs a f l c m d o =
    (promised.when_accepted.static_run s st k rows outputs).1 (a, f, record { size = l; codes = c }, record { size = m; codes = d }, o)
