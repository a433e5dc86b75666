-- Marks are exact within one cycle, where no marked source reaches a net along two ways: the nets of an accepted image are a `Circuit`.
use Prim.Native.Nat.{ℕ, suc, ◌/◌, ◌%◌, ◌≤◌, ◌<◌}
use native.Mathlib.Omega.{arith}
use mathlib.Core.Path.{◌≡◌, refl, sym, subst, ◌∙◌}
use mathlib.Core.List.{List, [], ◌∷◌, map, Forall₂}
use mathlib.Core.Option.{none}
use mathlib.Core.Bool.{true, cond}
use lib.Dec.{eqb, lit≤}
use lib.ListN.{length, get_or, take}
use borrow.Author.Tests.{eqb-true, eq-eqb}
use Rattle.gates.specs.Kinds.{CONST, INPUT, REG}
use Rattle.gates.specs.Rules.{gate_byte}
use Rattle.gates.specs.Relations.{AgreeByte, same}
use Rattle.gates.proofs.Meaning.{flipped, flip_agrees}
use Rattle.gates.proofs.Onto.{agree_marked, not_onto, and_onto, or_onto, xor_onto, mux_onto, out_onto}
use Rattle.image.specs.declared.image.Net.{Net}
use Rattle.image.specs.Image.{sizes_of, net, nets_of, count}
use Rattle.image.specs.Pins.{pin_net}
use Rattle.image.proofs.Pairs.{pairs_get_or, pairs_places, pairs_equal}
use Rattle.image.proofs.Nets.{length_nets}
use Rattle.net_checking.proofs.Passes.{Passes, is_const, is_input, is_reg, is_not, is_and, is_or, is_xor, is_mux, is_out}
use Rattle.checking.specs.Check.{check_refusal}
use Rattle.checking.proofs.Checked.{Checked, check_none}
use Rattle.cycle.specs.Cycle.{plain, pin_byte, cycle_of}
use Rattle.cycle.proofs.Cycles.{agree_cycle, codes_cycle}
use Rattle.cycle.proofs.Selections.{Selection, selection_length, place_found, selection_place}
use Rattle.claims.specs.Accepted.{AcceptedRows, AcceptedRegisters}
use Rattle.claims.specs.NetBytes.{net_of, place_of, HasByte, const, input, reg, not, and, or, xor, mux, out, NetBytes}
use Rattle.claims.specs.Ways.{pins_of, ways}
use Rattle.claims.specs.Exactness.{byte_of, NoReconvergence, Change, Exactness}
use Rattle.claims.proofs.Accepted.{together}
use Rattle.claims.proofs.NetBytes.{net_bytes}
use Rattle.claims.proofs.PinsOnto.{by_test, pin_reads, of_pins}
use Rattle.claims.proofs.Circuits.{is_source, Bytes, Node, fixed, source, gate, Circuit, reached}
use Rattle.claims.proofs.Ways.{passes, pins_below, ways_step}

-- ROWS AND STATES by the bytes f of the sources: a byte f i for each net i of kind k
chosen : (k : ℕ) (f : ℕ → ℕ) → (i : ℕ) → List Net → List ℕ
chosen k f i [] = []
chosen k f i (x ∷ xs) = cond (eqb x.kind k) (f i ∷ chosen k f (suc i) xs) (chosen k f (suc i) xs)

chosen_selected : (k : ℕ) (f : ℕ → ℕ) → Selection k (chosen k f) (λ i x. f i)
unfolding chosen
chosen_selected k f = record { none = λ i. refl; next = λ i x xs. refl }

-- a list r with a byte for each net of kind k: if each is related to the byte chosen for that net, the lists are
related : (R : ℕ → ℕ → Type 0) (k : ℕ) (f : ℕ → ℕ) (xs : List Net) (r : List ℕ) → length r ≡ count k xs
    → ((j : ℕ) → j < length xs → (get_or xs j (net 0 0 0 0)).kind ≡ k → R (get_or r (count k (take j xs)) 0) (f j)) → Forall₂ R r (chosen k f 0 xs)
related R k f xs r l h =
    let z = chosen_selected k f in
    pairs_places r (chosen k f 0 xs) 0 (l ∙ sym (selection_length z 0 xs)) (λ p m.
    let g = place_found k xs (net 0 0 0 0) p (omega arith) in
    subst (λ q. R (get_or r q 0) (get_or (chosen k f 0 xs) q 0)) g.place (rw (selection_place z xs g.net _ g.below g.kind) (h g.net g.below g.kind)))

-- THE BYTE OF A NET, by its byte in the row or state and by what its pins read
abbrev node_byte : Net → (own : ℕ) → (read : ℕ → ℕ) → ℕ
node_byte x own read = cond (eqb x.kind CONST) x.a (cond (is_source x) own (of_pins x.kind (map read (pins_of x))))

own_byte :
    {s row st bs : List ℕ} {i y : ℕ} {x : Net} (own : ℕ)
    → (x.kind ≡ INPUT → get_or row (place_of INPUT s i) 0 ≡ own) → (x.kind ≡ REG → get_or st (place_of REG s i) 0 ≡ own)
    → HasByte s row st bs i x y → y ≡ node_byte x own (λ p. pin_reads p (get_or bs (pin_net p) 0))
unfolding pins_of pin_byte gate_byte
own_byte own hr hs (const l) = refl
own_byte own hr hs (input c) = sym c.byte ∙ hr refl
own_byte own hr hs (reg l c) = sym c.byte ∙ hs refl
own_byte own hr hs (not l) = refl
own_byte own hr hs (and l m) = refl
own_byte own hr hs (or l m) = refl
own_byte own hr hs (xor l m) = refl
own_byte own hr hs (mux l m o) = refl
own_byte own hr hs (out l) = refl

node_of : {B : Bytes} {n i : ℕ} {x : Net} → Passes n i x → ((f : ℕ → ℕ) → B f i ≡ node_byte x (f i) (λ p. pin_reads p (B f (pin_net p)))) → Node B i x
unfolding pins_of
node_of (is_const {a} h) q = fixed a h q
node_of is_input q = source refl q
node_of (is_reg h k) q = source refl q
node_of (is_not h) q = gate refl not_onto (lit≤ tt) (lit≤ tt) q
node_of (is_and h k) q = gate refl and_onto (lit≤ tt) (lit≤ tt) q
node_of (is_or h k) q = gate refl or_onto (lit≤ tt) (lit≤ tt) q
node_of (is_xor h k) q = gate refl xor_onto (lit≤ tt) (lit≤ tt) q
node_of (is_mux h k l) q = gate refl mux_onto (lit≤ tt) (lit≤ tt) q
node_of (is_out h k) q = gate refl out_onto (lit≤ tt) (lit≤ tt) q

-- a marked byte takes the other value
flipped_value : (x : ℕ) → x ≤ 3 → x / 2 ≡ 1 → flipped x % 2 ≡ x % 2 → ⊥
flipped_value x h m e = let o = rw (eq-eqb (x / 2) 1 m) at e in omega arith

-- AN ACCEPTED IMAGE
module _ (s : List ℕ) (a : check_refusal s ≡ none) where
  abbrev c : Checked s
  c = (check_none s).0 a

  abbrev row_by : (ℕ → ℕ) → List ℕ
  row_by f = chosen INPUT f 0 (nets_of s)

  abbrev state_by : (ℕ → ℕ) → List ℕ
  state_by f = chosen REG f 0 (nets_of s)

  abbrev byte_by : Bytes
  byte_by f = byte_of s (row_by f) (state_by f)

  place : (k : ℕ) (f : ℕ → ℕ) (i : ℕ) → i < (sizes_of s).nets → (net_of s i).kind ≡ k → get_or (chosen k f 0 (nets_of s)) (place_of k s i) 0 ≡ f i
  place k f i h e = selection_place (chosen_selected k f) (nets_of s) i _ (omega (arith, length_nets s)) e

  circuit : Circuit (sizes_of s).nets (net_of s) (ways s) byte_by
  circuit =
      record {
        below = λ i h. pins_below (passes c i h);
        node = λ i h. node_of (passes c i h) (λ f.
            own_byte (f i) (place INPUT f i h) (place REG f i h)
            ((net_bytes s (row_by f) (state_by f) a
            (selection_length (chosen_selected INPUT f) 0 (nets_of s) ∙ sym c.inputs)
            (selection_length (chosen_selected REG f) 0 (nets_of s) ∙ sym c.registers)).net_byte_lem i h));
        ways = ways_step c;
      }

  -- a cycle with a row and register bytes
  module _ (row st : List ℕ) (r : AcceptedRows (sizes_of s).inputs row) (t : AcceptedRegisters s st) where
    abbrev given : ℕ → ℕ
    given = byte_of s row st

    cycle_bytes : NetBytes s row st (cycle_of plain (nets_of s) row st)
    cycle_bytes = net_bytes s row st a r.size t.size

    row_byte : (j : ℕ) → j < (sizes_of s).nets → (net_of s j).kind ≡ INPUT → given j ≡ get_or row (place_of INPUT s j) 0
    row_byte j h e = own_byte (get_or row (place_of INPUT s j) 0) (λ k. refl) (λ k. absurd (omega arith)) (cycle_bytes.net_byte_lem j h) ∙ rw e

    state_byte : (j : ℕ) → j < (sizes_of s).nets → (net_of s j).kind ≡ REG → given j ≡ get_or st (place_of REG s j) 0
    state_byte j h e = own_byte (get_or st (place_of REG s j) 0) (λ k. absurd (omega arith)) (λ k. refl) (cycle_bytes.net_byte_lem j h) ∙ rw e

    -- what relates its sources' bytes to others relates the row and the state to those of the others
    from_given : (R : ℕ → ℕ → Type 0) (f : ℕ → ℕ) → ((j : ℕ) → R (given j) (f j)) → Forall₂ R row (row_by f) × Forall₂ R st (state_by f)
    from_given R f e = (
      related R INPUT f (nets_of s) row (r.size ∙ c.inputs) (λ j l k. rw (← (row_byte j (omega (arith, length_nets s)) k)) (e j)),
      related R REG f (nets_of s) st (t.size ∙ c.registers) (λ j l k. rw (← (state_byte j (omega (arith, length_nets s)) k)) (e j)),
    )

    given_is : (i : ℕ) → byte_by given i ≡ given i
    given_is i = let e = from_given ◌≡◌ given (λ j. refl) in rw (← (pairs_equal (λ x y q. q) e.0), ← (pairs_equal (λ x y q. q) e.1))

    given_code : (i : ℕ) → given i ≤ 3
    given_code i = pairs_get_or i 0 (lit≤ tt) (codes_cycle c.nets (together row r.codes) (together st t.codes)).bytes

    -- the condition, of sources
    single : {i : ℕ} → NoReconvergence s row st i → (j : ℕ) → is_source (net_of s j) ≡ true → given j / 2 ≡ 1 → ways s j i ≤ 1
    single n j t m = by_test (eqb (net_of s j).kind INPUT) (λ e. n.inputs j (eqb-true _ _ e) m) (λ e. n.registers j (eqb-true _ _ (rw e at t)) m)

    changes : (i : ℕ) → i < (sizes_of s).nets → NoReconvergence s row st i → given i / 2 ≡ 1 → Change s row st i
    changes i h n m =
        let v = reached circuit given (λ i. rw (given_is i) (given_code i)) _ i h h (single n) (flipped (given i)) (rw (given_is i) (flip_agrees (given i) (given_code i))) in
        let e = from_given AgreeByte v.f v.agrees in
        record {
          other_row = row_by v.f;
          other_state = state_by v.f;
          rows = e.0;
          states = e.1;
          changed = λ o. flipped_value (given i) (given_code i) m (rw v.gives at o);
        }

  -- the other way round there is no condition
  marked : (row st : List ℕ) (i : ℕ) → Change s row st i → byte_of s row st i / 2 ≡ 1
  marked row st i h = agree_marked (pairs_get_or i 0 same (agree_cycle c.nets h.rows h.states).bytes) (λ e. h.changed (rw e))

pub exactness : Exactness
exactness s row st a r t i h n = (changes s a row st r t i h n, marked s a row st i)
