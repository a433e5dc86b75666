-- The promises about the doubled netlist, used by their parts, as in Held.
use Prim.Native.Nat.{ℕ, ◌+◌, ◌*◌, ◌/◌, ◌%◌, ◌≤◌, ◌<◌}
use mathlib.Core.Path.{◌≡◌}
use mathlib.Core.List.{List, [], ◌∷◌, Forall₂}
use mathlib.Core.Option.{none}
use lib.ListN.{length, get_or, drop}
use Rattle.gates.specs.Kinds.{REG, OUT}
use Rattle.image.specs.declared.image.Net.{Net}
use Rattle.image.specs.Image.{sizes_of, net, nets_of}
use Rattle.checking.specs.Check.{check_refusal}
use Rattle.cycle.specs.Cycle.{FirstFlow, outputs_from}
use Rattle.cycle.specs.State.{state_length, with_count, registers_in}
use Rattle.cycle.specs.Calls.{done, power_up_of, Ran, run_of, Stepped}
use Rattle.groups.specs.Groups.{group_length, split}
use Rattle.doubled.specs.Doubled.{value_pin, mark_pin, group_at, doubled_size, value_net, mark_net, doubled_nets}
use Rattle.doubling.specs.Doubling.{doubled_image, double_refusal, double_of}
use Rattle.claims.specs.NetBytes.{net_of}
use Rattle.claims.specs.Groups.{one_of_each, their_groups, inverted_of_each, inverted_groups}
use Rattle.claims.specs.History.{Call, step, accepted, history, cycles_in, AllFinished, run}
use Rattle.claims.specs.Pairing.{Again, step_again, Shows, run_again, shown}
use Rattle.claims.specs.InBytes.{from_power_up, InTwo, ShowsInTwo}
use Rattle.claims.proofs.Splitting.{split_in_two}
use Rattle.claims.proofs.Promised.{promised}

module _ (s buf : List ℕ) (h : check_refusal s ≡ none) (few : doubled_size (nets_of s) ≤ 8192) (l : length buf ≡ 8 + 7 * doubled_size (nets_of s)) where
  doubled_written : (double_of s buf).refusal ≡ none
  doubled_written = (promised.demand2 s h few buf l).written

  -- demand 2, from any state and from power-up
  module _ (cs cs' : List Call) where
    paired_cycles : (st : List ℕ)
        → let d = (double_of s buf).buffer in Forall₂ (Again d) (accepted s st cs) cs' → Forall₂ (Shows s d) (cycles_in (history s st cs)) (cycles_in (history d (with_count (split (registers_in s st))) cs'))
    paired_cycles st p = ((promised.demand2 s h few buf l).from_state st cs cs' p).cycles

    powered_cycles : (a b : List ℕ) → let d = (double_of s buf).buffer in
        length a ≡ state_length (sizes_of s) → length b ≡ state_length (sizes_of d) → Forall₂ (Again d) (accepted s (power_up_of s a).state cs) cs'
        → ((power_up_of s a).refusal ≡ none) × ((power_up_of d b).refusal ≡ none)
        × Forall₂ (Shows s d) (cycles_in (history s (power_up_of s a).state cs)) (cycles_in (history d (power_up_of d b).state cs'))
        × AllFinished (history d (power_up_of d b).state cs')
    powered_cycles a b m n p =
        let t = (promised.demand2 s h few buf l).from_power_up_lem a b m n in
        let q = t.2 cs cs' p in
        (t.0, t.1, q.cycles, q.finished)

  doubled_checked : check_refusal (doubled_image s) ≡ none
  doubled_checked = promised.doubled_checks s h few

  doubled_read : (nets_of (doubled_image s) ≡ doubled_nets (nets_of s)) × ((p : ℕ) → get_or (doubled_image s) p 0 < 256)
  doubled_read = let r = promised.doubled_reads s h few in (r.nets, r.bytes)

  places : (value_net (nets_of s) 0 ≡ 0) × (value_net (nets_of s) (sizes_of s).nets ≡ (sizes_of (doubled_image s)).nets)
  places = let p = promised.doubled_placed s h in (p.first, p.end)

  group_places : (i : ℕ) → i < (sizes_of s).nets
      → (value_net (nets_of s) (i + 1) ≡ value_net (nets_of s) i + group_length (net_of s i).kind)
      × (length (group_at (nets_of s) i (net_of s i)) ≡ group_length (net_of s i).kind) × (mark_net (nets_of s) i + 1 ≡ value_net (nets_of s) (i + 1))
  group_places i m = let p = promised.doubled_placed s h in (p.next i m, p.lengths i, p.mark i)

  group_nets : (i j : ℕ) → i < (sizes_of s).nets → j < group_length (net_of s i).kind
      → net_of (doubled_image s) (value_net (nets_of s) i + j) ≡ get_or (group_at (nets_of s) i (net_of s i)) j (net 0 0 0 0)
  group_nets = (promised.doubled_placed s h).groups

doubled_buffer : (s buf : List ℕ) → double_refusal s buf ≡ none → (double_of s buf).buffer ≡ doubled_image s
doubled_buffer s buf h = rw (promised.doubling_writes s buf h)

free_outs : (s : List ℕ) (j : ℕ) → (net_of (doubled_image s) j).kind ≡ OUT → (net_of (doubled_image s) j).b ≡ 0
free_outs s = (promised.doubled_unseen s).outs

register_pair : (s : List ℕ) (i : ℕ) → i < (sizes_of s).nets → (net_of s i).kind ≡ REG
    → (net_of (doubled_image s) (value_net (nets_of s) i) ≡ net REG (value_pin (nets_of s) (net_of s i).a) (net_of s i).b 0)
    × (((net_of s i).b ≡ 2 → ⊥) → net_of (doubled_image s) (mark_net (nets_of s) i) ≡ net REG (mark_pin (nets_of s) (net_of s i).a) 0 0)
    × ((net_of s i).b ≡ 2 → net_of (doubled_image s) (mark_net (nets_of s) i) ≡ net REG (mark_pin (nets_of s) (net_of s i).a) 1 0)
register_pair s i l k = let u = promised.doubled_unseen s in (u.values i l k, u.marks i l k, u.unknown_marks i l k)

each_group : (doubled_nets one_of_each ≡ their_groups) × (doubled_size one_of_each ≡ 33) × (doubled_nets inverted_of_each ≡ inverted_groups)
each_group = (promised.groups.nets, promised.groups.size, promised.groups.inverted)

-- what a pin becomes, without the top bit and with it
two_pins : (xs : List Net) (j : ℕ) → j < 32768
    → (value_pin xs j ≡ value_net xs j) × (value_pin xs (32768 + j) ≡ 32768 + value_net xs j) × (mark_pin xs j ≡ mark_net xs j) × (mark_pin xs (32768 + j) ≡ mark_net xs j)
two_pins xs j h = let p = promised.pins_mean in (p.value_pin_lem xs j h, p.value_inverted xs j h, p.mark_pin_lem xs j h, p.mark_inverted xs j h)

-- the group of any net, by the number of its kind
module _ (xs : List Net) (i : ℕ) (x : Net) where
  abbrev v : ℕ → ℕ
  v k = value_net xs i + k

  abbrev va : ℕ
  va = value_pin xs x.a

  abbrev ta : ℕ
  ta = mark_pin xs x.a

  abbrev vb : ℕ
  vb = value_pin xs x.b

  abbrev tb : ℕ
  tb = mark_pin xs x.b

  abbrev vc : ℕ
  vc = value_pin xs x.c

  abbrev tc : ℕ
  tc = mark_pin xs x.c

  short_groups :
      (x.kind ≡ 0 → group_at xs i x ≡ net 0 x.a 0 0 ∷ net 0 0 0 0 ∷ []) × (x.kind ≡ 1 → group_at xs i x ≡ net 1 0 0 0 ∷ net 1 0 0 0 ∷ [])
      × (x.kind ≡ 3 → group_at xs i x ≡ net 3 va 0 0 ∷ net 5 ta ta 0 ∷ []) × (x.kind ≡ 6 → group_at xs i x ≡ net 6 va vb 0 ∷ net 5 ta tb 0 ∷ [])
      × (x.kind ≡ 8 → group_at xs i x ≡ net 8 va 0 0 ∷ net 8 ta 0 0 ∷ [])
  short_groups = let g = promised.groups.each xs i x in (g.const, g.input, g.not, g.xor, g.out)

  reg_group : x.kind ≡ 2
      → ((x.b ≡ 2 → ⊥) → group_at xs i x ≡ net 2 va x.b 0 ∷ net 2 ta 0 0 ∷ []) × (x.b ≡ 2 → group_at xs i x ≡ net 2 va 2 0 ∷ net 2 ta 1 0 ∷ [])
  reg_group k = let g = promised.groups.each xs i x in (g.reg k, g.unknown_reg k)

  and_group : x.kind ≡ 4 → group_at xs i x ≡ net 4 va vb 0 ∷ net 4 ta vb 0 ∷ net 4 tb va 0 ∷ net 4 ta tb 0 ∷ net 5 (v 1) (v 2) 0 ∷ net 5 (v 4) (v 3) 0 ∷ []
  and_group = (promised.groups.each xs i x).and

  or_group : x.kind ≡ 5 → group_at xs i x
      ≡ net 5 va vb 0 ∷ net 3 va 0 0 ∷ net 3 vb 0 0 ∷ net 4 ta (v 2) 0 ∷ net 4 tb (v 1) 0 ∷ net 4 ta tb 0 ∷ net 5 (v 3) (v 4) 0 ∷ net 5 (v 6) (v 5) 0 ∷ []
  or_group = (promised.groups.each xs i x).or

  mux_group : x.kind ≡ 7 → group_at xs i x
      ≡ net 7 va vb vc ∷ net 6 va vb 0 ∷ net 5 ta tb 0 ∷ net 5 (v 1) (v 2) 0 ∷ net 4 tc (v 3) 0 ∷ net 7 ta tb vc ∷ net 5 (v 4) (v 5) 0 ∷ []
  mux_group = (promised.groups.each xs i x).mux

-- IN TWO: every byte can be split so, also one that is marked
in_two : (xs : List ℕ) → InTwo xs (split xs)
in_two = split_in_two

shown_answer : {o o' : Ran} (t : ShowsInTwo o o') → o'.answer ≡ done t.first
shown_answer t = t.answer

shown_in_two : {o o' : Ran} → ShowsInTwo o o' → (j : ℕ) → j < length o.outputs
    → (get_or o'.outputs (2 * j) 0 % 2 ≡ get_or o.outputs j 0 % 2) × (get_or o'.outputs (2 * j + 1) 0 % 2 ≡ get_or o.outputs j 0 / 2)
shown_in_two t j m = (t.values j m, t.marks j m)

-- a run of the doubled netlist, from any state and from power-up
module _ (s buf : List ℕ) (w : (double_of s buf).refusal ≡ none) (k : ℕ) (rows rows' outputs outputs' : List ℕ) (f : FirstFlow)
    (r : InTwo rows rows') (l : length outputs' ≡ 2 * length outputs) where
  run_in_two :
      (st st' : List ℕ) → let d = (double_of s buf).buffer in
      InTwo (registers_in s st) (registers_in d st') → drop (sizes_of d).registers st' ≡ 0 ∷ 0 ∷ [] → (run_of s st k rows outputs).answer ≡ done f
      → ShowsInTwo (run_of s st k rows outputs) (run_of (double_of s buf).buffer st' k rows' outputs')
  run_in_two st st' t e h = (promised.doubled_shows s buf w).from_state st st' (record { registers = t; count = e }) k rows rows' outputs outputs' f r l h

  powered_in_two :
      (a a' : List ℕ) → (power_up_of s a).refusal ≡ none → (power_up_of (double_of s buf).buffer a').refusal ≡ none
      → (from_power_up s a k rows outputs).answer ≡ done f
      → ShowsInTwo (from_power_up s a k rows outputs) (from_power_up (double_of s buf).buffer a' k rows' outputs')
  powered_in_two a a' p p' h = (promised.doubled_shows s buf w).from_power_up_lem a a' p p' k rows rows' outputs outputs' f r l h

a_step_again : (d row b b' : List ℕ) → length b' ≡ (sizes_of d).nets → Again d (step row b) (step (split row) b')
a_step_again d row b b' l = step_again l

a_run_again : (d rows b b' : List ℕ) (k : ℕ) → length b' ≡ k * (sizes_of d).outputs → Again d (run k rows b) (run k (split rows) b')
a_run_again d rows b b' k l = run_again l

shows : {s d : List ℕ} {o o' : Stepped} → Shows s d o o' → shown d o' ≡ split (outputs_from 0 (nets_of s) o.nets)
shows h = h.pairs
