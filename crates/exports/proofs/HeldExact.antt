-- The promises about exact marks, used by their parts, as in Held; and what they say of a step, in the bytes that it leaves.
use Prim.Native.Nat.{ℕ, ◌+◌, ◌/◌, ◌%◌, ◌≤◌, ◌<◌}
use mathlib.Core.Logic.{◌↔◌}
use mathlib.Core.Path.{◌≡◌, refl, ap, sym, subst, ◌∙◌}
use mathlib.Core.List.{List, [], ◌∷◌}
use mathlib.Core.Option.{none}
use lib.ListN.{get_or}
use Rattle.gates.specs.Relations.{Agree}
use Rattle.image.specs.Image.{sizes_of, net, nets_of}
use Rattle.image.specs.Pins.{pin_net}
use Rattle.checking.specs.Check.{check_refusal}
use Rattle.image.proofs.Pairs.{pairs_length}
use Rattle.cycle.specs.State.{with_count, registers_in, AgreeStates}
use Rattle.cycle.specs.Calls.{step_refusal, step_of}
use Rattle.cycle.proofs.States.{state_registers, IsState, counted_agree}
use Rattle.claims.specs.NetBytes.{net_of}
use Rattle.claims.specs.History.{refusal_of}
use Rattle.claims.specs.TwoRun.{steps}
use Rattle.claims.specs.InBytes.{SameMarks, SameStates}
use Rattle.claims.specs.Ways.{ways}
use Rattle.claims.specs.Exactness.{byte_of, NoReconvergence, Change}
use Rattle.claims.specs.ExactnessExamples.{own_xor, select, select_tree, delayed}
use Rattle.claims.proofs.Accepted.{together, is_state}
use Rattle.claims.proofs.Agreeing.{agree_refl, marks_agree, agree_marks, marks_agree_states, agree_marks_states}
use Rattle.claims.proofs.TwoRun.{same_refusal}
use Rattle.claims.proofs.Examples.{checking}
use Rattle.claims.proofs.ExactnessExamples.{counting}
use Rattle.claims.proofs.Promised.{promised}

-- WAYS to a net from another, by the numbers of the kinds
ways_in : (s : List ℕ) → check_refusal s ≡ none → (j i : ℕ) → i < (sizes_of s).nets → (i ≡ j → ⊥)
    → let x = net_of s i in
    let from : ℕ → ℕ = λ p. ways s j (pin_net p) in
    (x.kind ≤ 2 → ways s j i ≡ 0) × (x.kind ≡ 3 → ways s j i ≡ from x.a) × (4 ≤ x.kind → x.kind ≤ 6 → ways s j i ≡ from x.a + from x.b)
    × (x.kind ≡ 7 → ways s j i ≡ from x.a + from x.b + from x.c) × (x.kind ≡ 8 → ways s j i ≡ from x.a)
ways_in s a j i h n = let w = promised.ways_counted s a j i h in (w.no_pin n, w.not n, w.two_pins n, w.mux n, w.out n)

ways_itself : (s : List ℕ) → check_refusal s ≡ none → (i : ℕ) → i < (sizes_of s).nets → ways s i i ≡ 1
ways_itself s a i h = (promised.ways_counted s a i i h).itself refl

-- A STEP. With another row and state, which differ from its own at most in the values of marked bytes and registers, the value of net i is another one
record OtherStep (s st row nets : List ℕ) (i : ℕ) : Type 0 where
  other_row : List ℕ
  other_state : List ℕ
  rows : SameMarks row other_row
  states : SameStates s st other_state
  changed : get_or (step_of s other_state other_row nets).nets i 0 % 2 ≡ get_or (step_of s st row nets).nets i 0 % 2 → ⊥

module _ (s st row nets : List ℕ) (a : step_refusal s st row nets ≡ none) where
  step_byte : (row' st' : List ℕ) → Agree row row' → AgreeStates s st st' → (i : ℕ) → get_or (step_of s st' row' nets).nets i 0 ≡ byte_of s row' (registers_in s st') i
  unfolding refusal_of
  step_byte row' st' g k i = ap (λ o. get_or o.nets i 0) (promised.step_is_cycle s st' row' nets (sym (same_refusal s k (steps g refl)) ∙ a))

  abbrev rs : List ℕ
  rs = registers_in s st

  own_byte : (i : ℕ) → get_or (step_of s st row nets).nets i 0 ≡ byte_of s row rs i
  own_byte = step_byte row st (agree_refl row) (record { registers = agree_refl rs; counts = refl })

  whole : IsState s st
  whole = is_state ((promised.when_accepted.step s st row nets).0 a).1

  -- net i, of which the condition on ways holds in the bytes of this step, is marked in them exactly if there is such another step
  module _ (i : ℕ) (l : i < (sizes_of s).nets)
      (inputs : (j : ℕ) → (net_of s j).kind ≡ 1 → get_or (step_of s st row nets).nets j 0 / 2 ≡ 1 → ways s j i ≤ 1)
      (registers : (j : ℕ) → (net_of s j).kind ≡ 2 → get_or (step_of s st row nets).nets j 0 / 2 ≡ 1 → ways s j i ≤ 1) where
    exact : (byte_of s row rs i / 2 ≡ 1) ↔ Change s row rs i
    exact =
        let w = (promised.when_accepted.step s st row nets).0 a in
        promised.exactness s row rs ((promised.when_accepted.check s).1 w.0) w.2 (record { size = whole.registers.size; codes = w.1.codes }) i l
        (record { inputs = λ j k m. inputs j k (rw (own_byte j) m); registers = λ j k m. registers j k (rw (own_byte j) m) })

    marked_changes : get_or (step_of s st row nets).nets i 0 / 2 ≡ 1 → OtherStep s st row nets i
    marked_changes m =
        let d = exact.0 (rw (own_byte i) at m) in
        let o = d.other_state in
        let size = whole.registers.size in
        let states : AgreeStates s st (with_count o) = subst (λ t. AgreeStates s t (with_count o)) (sym whole.counted) (counted_agree size d.states) in
        let back : registers_in s (with_count o) ≡ o = state_registers o (sym (pairs_length d.states) ∙ size) in
        record {
          other_row = d.other_row;
          other_state = with_count o;
          rows = agree_marks d.rows;
          states = agree_marks_states states;
          changed = λ e. d.changed (rw (step_byte _ _ d.rows states i, own_byte i, back) at e);
        }

    changes_marked : OtherStep s st row nets i → get_or (step_of s st row nets).nets i 0 / 2 ≡ 1
    changes_marked o =
        let w = (promised.when_accepted.step s st row nets).0 a in
        let g = marks_agree o.other_row (together row w.2.codes) o.rows in
        let k = marks_agree_states o.other_state (together rs w.1.codes) o.states in
        rw (own_byte i)
        (exact.1 (record {
          other_row = o.other_row;
          other_state = registers_in s o.other_state;
          rows = g;
          states = k.registers;
          changed = λ e. o.changed (rw (step_byte _ _ g k i, own_byte i) e);
        }))

-- EXAMPLES, with the nets of their images by the numbers of the kinds
images : (nets_of own_xor ≡ net 1 0 0 0 ∷ net 6 0 0 0 ∷ [])
    × (nets_of select ≡ net 1 0 0 0 ∷ net 1 0 0 0 ∷ net 3 1 0 0 ∷ net 4 0 2 0 ∷ net 4 0 1 0 ∷ net 5 3 4 0 ∷ net 7 0 0 1 ∷ [])
    × (nets_of select_tree ≡ net 1 0 0 0 ∷ net 1 0 0 0 ∷ net 0 0 0 0 ∷ net 0 1 0 0 ∷ net 7 2 3 0 ∷ net 7 4 3 32769 ∷ [])
    × (nets_of delayed ≡ net 1 0 0 0 ∷ net 2 0 0 0 ∷ net 4 0 1 0 ∷ [])
unfolding checking counting own_xor select select_tree delayed
images = (refl, refl, refl, refl)

accepted : (check_refusal own_xor ≡ none) × (check_refusal select ≡ none) × (check_refusal select_tree ≡ none) × (check_refusal delayed ≡ none)
accepted = promised.exactness_examples.accepted

two_ways : (ways own_xor 0 1 ≡ 2) × (byte_of own_xor (2 ∷ []) [] 1 ≡ 2) × (Change own_xor (2 ∷ []) [] 1 → ⊥)
    × (ways select 1 5 ≡ 2) × (byte_of select (1 ∷ 2 ∷ []) [] 5 ≡ 3) × (Change select (1 ∷ 2 ∷ []) [] 5 → ⊥)
two_ways = let e = promised.exactness_examples in (e.xor_ways, e.xor_marked, e.xor_unchanged, e.gates_ways, e.gates_marked, e.gates_unchanged)

one_way : (ways select 1 6 ≡ 1) × (ways select 0 6 ≡ 2) × NoReconvergence select (1 ∷ 2 ∷ []) [] 6 × (byte_of select (1 ∷ 2 ∷ []) [] 6 ≡ 1) × (Change select (1 ∷ 2 ∷ []) [] 6 → ⊥)
one_way = let e = promised.exactness_examples in (e.mux_ways.0, e.mux_ways.1, e.mux_exact, e.mux_unmarked, e.mux_unchanged)

tree : (row : List ℕ) → NoReconvergence select_tree row [] 5 × (byte_of select_tree (2 ∷ 1 ∷ []) [] 5 ≡ 2) × Change select_tree (2 ∷ 1 ∷ []) [] 5
    × (byte_of select_tree (1 ∷ 2 ∷ []) [] 5 ≡ 1) × (Change select_tree (1 ∷ 2 ∷ []) [] 5 → ⊥)
tree row = let e = promised.exactness_examples in (e.tree_exact row, e.tree_marked, e.tree_changes, e.tree_unmarked, e.tree_unchanged)

register : (row st : List ℕ) → (ways delayed 0 1 ≡ 0) × (ways delayed 0 2 ≡ 1) × NoReconvergence delayed row st 2 × (byte_of delayed (2 ∷ []) (2 ∷ []) 2 ≡ 2)
    × Change delayed (2 ∷ []) (2 ∷ []) 2 × (byte_of delayed (3 ∷ []) (2 ∷ []) 2 ≡ 2) × (byte_of delayed (2 ∷ []) (3 ∷ []) 2 ≡ 2)
register row st =
    let e = promised.exactness_examples in
    (e.register_ways.0, e.register_ways.1, e.register_exact row st, e.both_marked, e.both_change, e.neither_alone.0, e.neither_alone.1)
