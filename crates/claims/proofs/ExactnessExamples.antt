-- Examples of ways and of exact marks, by computation, and by what exactness says where it applies.
use Prim.Native.Nat.{ℕ, zero, suc, ◌/◌, ◌%◌, ◌≤◌}
use native.Mathlib.Omega.{arith}
use mathlib.Core.Path.{◌≡◌, refl}
use mathlib.Core.List.Forall₂
use mathlib.Core.List.{List, [], ◌∷◌}
use mathlib.Core.Bool.{true, false}
use lib.Dec.{eqb, lit≤, lit<}
use borrow.Author.Tests.{eqb-false, eq-eqb}
use Rattle.gates.specs.Relations.{same, low_high, Agree}
use Rattle.image.specs.Image.{sizes_of, encode}
use Rattle.claims.specs.Reading.{net_of}
use Rattle.claims.specs.Accepted.{AcceptedRows, AcceptedRegisters}
use Rattle.claims.specs.Ways.{pins_of, ways_below, ways}
use Rattle.claims.specs.Exactness.{byte_of, NoReconvergence, Change}
use Rattle.claims.specs.ExactnessExamples.{own_xor, select, select_tree, delayed, ExactnessExamples}
use Rattle.claims.proofs.Accepted.{each}
use Rattle.claims.proofs.Examples.{gating, checking, running}
use Rattle.claims.proofs.Circuits.{is_source}
use Rattle.claims.proofs.Exactness.{exactness}

unfoldable pub counting : Unit {0}
unfolding pins_of ways_below ways encode
counting = tt

no : {A : Type 0} → false ≡ true → A
no h = let z : ◌≡◌ {A = ℕ} 0 1 = cc in absurd (omega arith)

other : {A : Type 0} (m n : ℕ) → eqb m n ≡ false → m ≡ n → A
other m n e h = absurd (eqb-false m n e h)

-- the condition, of inputs and registers alike
of_sources : {s row st : List ℕ} {i : ℕ} → ((j : ℕ) → is_source (net_of s j) ≡ true → byte_of s row st j / 2 ≡ 1 → ways s j i ≤ 1) → NoReconvergence s row st i
of_sources h = record { inputs = λ j k m. h j (rw (eq-eqb _ _ k)) m; registers = λ j k m. h j (rw k) m }

-- nothing changes the XOR, nor the OR of the gates that select
xor_unchanged : (r t : List ℕ) → Agree (2 ∷ []) r → Agree [] t → (byte_of own_xor r t 1 % 2 ≡ byte_of own_xor (2 ∷ []) [] 1 % 2 → ⊥) → ⊥
unfolding gating checking running counting own_xor
xor_unchanged r t (Forall₂.cons same Forall₂.nil) Forall₂.nil h = h refl
xor_unchanged r t (Forall₂.cons low_high Forall₂.nil) Forall₂.nil h = h refl

gates_unchanged : (r t : List ℕ) → Agree (1 ∷ 2 ∷ []) r → Agree [] t → (byte_of select r t 5 % 2 ≡ byte_of select (1 ∷ 2 ∷ []) [] 5 % 2 → ⊥) → ⊥
unfolding gating checking running counting select
gates_unchanged r t (Forall₂.cons same (Forall₂.cons same Forall₂.nil)) Forall₂.nil h = h refl
gates_unchanged r t (Forall₂.cons same (Forall₂.cons low_high Forall₂.nil)) Forall₂.nil h = h refl

-- where the condition holds
mux_sources : (j : ℕ) → is_source (net_of select j) ≡ true → byte_of select (1 ∷ 2 ∷ []) [] j / 2 ≡ 1 → ways select j 6 ≤ 1
unfolding gating checking running counting select
mux_sources zero t m = other 0 1 refl m
mux_sources (suc zero) t m = lit≤ tt
mux_sources (suc (suc zero)) t m = no t
mux_sources (suc (suc (suc zero))) t m = no t
mux_sources (suc (suc (suc (suc zero)))) t m = no t
mux_sources (suc (suc (suc (suc (suc zero))))) t m = no t
mux_sources (suc (suc (suc (suc (suc (suc zero)))))) t m = no t
mux_sources (suc (suc (suc (suc (suc (suc (suc j))))))) t m = no t

tree_sources : (j : ℕ) → is_source (net_of select_tree j) ≡ true → ways select_tree j 5 ≤ 1
unfolding checking counting select_tree
tree_sources zero t = lit≤ tt
tree_sources (suc zero) t = lit≤ tt
tree_sources (suc (suc zero)) t = no t
tree_sources (suc (suc (suc zero))) t = no t
tree_sources (suc (suc (suc (suc zero)))) t = no t
tree_sources (suc (suc (suc (suc (suc zero))))) t = no t
tree_sources (suc (suc (suc (suc (suc (suc j)))))) t = no t

register_sources : (j : ℕ) → is_source (net_of delayed j) ≡ true → ways delayed j 2 ≤ 1
unfolding checking counting delayed
register_sources zero t = lit≤ tt
register_sources (suc zero) t = lit≤ tt
register_sources (suc (suc zero)) t = no t
register_sources (suc (suc (suc j))) t = no t

-- what exactness says there
two_inputs : (x y : ℕ) → x ≤ 3 → y ≤ 3 → AcceptedRows 2 (x ∷ y ∷ [])
two_inputs x y h k = record { size = refl; codes = each (Forall₂.cons h (Forall₂.cons k Forall₂.nil)) }

no_state : (s : List ℕ) → (sizes_of s).registers ≡ 0 → AcceptedRegisters s []
no_state s e = record { size = rw e; codes = each Forall₂.nil }

tree_exact : (row : List ℕ) → NoReconvergence select_tree row [] 5
tree_exact row = of_sources (λ j t m. tree_sources j t)

tree_changes : Change select_tree (2 ∷ 1 ∷ []) [] 5
unfolding gating checking running counting select_tree
tree_changes = (exactness select_tree (2 ∷ 1 ∷ []) [] refl (two_inputs 2 1 (lit≤ tt) (lit≤ tt)) (no_state select_tree refl) 5 (lit< tt) (tree_exact (2 ∷ 1 ∷ []))).0 refl

tree_unchanged : Change select_tree (1 ∷ 2 ∷ []) [] 5 → ⊥
unfolding gating checking running counting select_tree
tree_unchanged h =
    other 0 1 refl
    ((exactness select_tree (1 ∷ 2 ∷ []) [] refl (two_inputs 1 2 (lit≤ tt) (lit≤ tt)) (no_state select_tree refl) 5 (lit< tt) (tree_exact (1 ∷ 2 ∷ []))).1 h)

mux_unchanged : Change select (1 ∷ 2 ∷ []) [] 6 → ⊥
unfolding gating checking running counting select
mux_unchanged h =
    other 0 1 refl
    ((exactness select (1 ∷ 2 ∷ []) [] refl (two_inputs 1 2 (lit≤ tt) (lit≤ tt)) (no_state select refl) 6 (lit< tt) (of_sources mux_sources)).1 h)

both_change : Change delayed (2 ∷ []) (2 ∷ []) 2
unfolding gating checking running counting delayed
both_change =
    record {
      other_row = 3 ∷ [];
      other_state = 3 ∷ [];
      rows = Forall₂.cons low_high Forall₂.nil;
      states = Forall₂.cons low_high Forall₂.nil;
      changed = other 1 0 refl;
    }

pub exactness_examples : ExactnessExamples
unfolding gating checking running counting own_xor select select_tree delayed
exactness_examples =
    record {
      accepted = (refl, refl, refl, refl);
      xor_ways = refl;
      xor_marked = refl;
      xor_unchanged = λ h. xor_unchanged _ _ h.rows h.states h.changed;
      gates_ways = refl;
      gates_marked = refl;
      gates_unchanged = λ h. gates_unchanged _ _ h.rows h.states h.changed;
      mux_ways = (refl, refl);
      mux_exact = of_sources mux_sources;
      mux_unmarked = refl;
      mux_unchanged = mux_unchanged;
      tree_exact = tree_exact;
      tree_marked = refl;
      tree_changes = tree_changes;
      tree_unmarked = refl;
      tree_unchanged = tree_unchanged;
      register_ways = (refl, refl);
      register_exact = λ row st. of_sources (λ j t m. register_sources j t);
      both_marked = refl;
      both_change = both_change;
      neither_alone = (refl, refl);
    }
