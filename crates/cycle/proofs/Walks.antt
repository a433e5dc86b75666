-- The walk of a cycle over its nets: part by part; what it keeps, and what it leaves of the row and the state; and the byte of each net.
use Prim.Native.Nat.{ℕ, suc, ◌+◌, ◌<◌}
use native.Mathlib.Omega.{arith}
use mathlib.Core.Path.{◌≡◌, refl, ap, sym, ◌∙◌}
use mathlib.Core.List.{List, [], ◌∷◌, ◌++◌}
use mathlib.Core.Bool.{cond}
use lib.Dec.{eqb}
use lib.ListN.{length, get_or, take, drop, length-append, length-take, get_or-append}
use lib.Seq.{split_at, get_or_at, drop-drop}
use Rattle.gates.specs.Kinds.{INPUT, REG}
use Rattle.image.specs.declared.image.Net.{Net}
use Rattle.image.specs.Image.{count}
use Rattle.cycle.specs.Cycle.{Rule, Walk, net_byte, past, walk, bytes_of}

-- the walk w, and w' past the nets xs
record Passed (xs : List Net) (w w' : Walk) : Type 0 where
  size : length w'.bytes ≡ length w.bytes + length xs
  keeps : (j : ℕ) → j < length w.bytes → get_or w'.bytes j 0 ≡ get_or w.bytes j 0
  row : w'.row ≡ drop (count INPUT xs) w.row
  state : w'.state ≡ drop (count REG xs) w.state

-- net i of xs, which is x, in a cycle with the bytes bs: its byte, by the walk that has come to it
pub record WorkedOut (rule : Rule) (xs : List Net) (row state bs : List ℕ) (i : ℕ) (x : Net) : Type 0 where
  pub before : Walk
  pub byte : get_or bs i 0 ≡ net_byte rule x before
  pub pins : (j : ℕ) → j < i → get_or before.bytes j 0 ≡ get_or bs j 0
  pub row_left : before.row ≡ drop (count INPUT (take i xs)) row
  pub state_left : before.state ≡ drop (count REG (take i xs)) state

module _ (rule : Rule) where
  pub walk_append : (xs ys : List Net) (w : Walk) → walk rule (xs ++ ys) w ≡ walk rule ys (walk rule xs w)
  unfolding walk
  walk_append [] ys w = refl
  walk_append (x ∷ xs) ys w = walk_append xs ys (past rule x w)

  passed : (xs : List Net) (w : Walk) → Passed xs w (walk rule xs w)
  unfolding walk past count
  passed [] w = record { size = omega arith; keeps = λ j h. refl; row = refl; state = refl }
  passed (x ∷ xs) w =
      let p = passed xs (past rule x w) in
      let l = length-append w.bytes (net_byte rule x w ∷ []) in
      record {
        size = omega (arith, p.size, l);
        keeps = λ j h. p.keeps j (omega (arith, l)) ∙ get_or-append w.bytes (net_byte rule x w ∷ []) 0 j h;
        row = p.row ∙ drop-drop (count INPUT xs) (cond (eqb x.kind INPUT) 1 0) w.row;
        state = p.state ∙ drop-drop (count REG xs) (cond (eqb x.kind REG) 1 0) w.state;
      }

  -- from net 0 on
  module _ (xs : List Net) (row state : List ℕ) where
    pub bytes_length : length (bytes_of rule xs row state) ≡ length xs
    unfolding bytes_of
    bytes_length = omega (arith, (passed xs (record { bytes = []; row = row; state = state })).size)

    pub worked_out : (i : ℕ) (d : Net) → i < length xs → WorkedOut rule xs row state (bytes_of rule xs row state) i (get_or xs i d)
    unfolding bytes_of walk past
    worked_out i d h =
        let x = get_or xs i d in
        let rest = drop (suc i) xs in
        let first : Walk = record { bytes = []; row = row; state = state } in
        let w = walk rule (take i xs) first in
        let p = passed (take i xs) first in
        let q = passed rest (past rule x w) in
        let split : walk rule xs first ≡ walk rule rest (past rule x w) = ap (λ l. walk rule l first) (split_at xs i d h) ∙ walk_append (take i xs) (x ∷ rest) first in
        let e : bytes_of rule xs row state ≡ (walk rule rest (past rule x w)).bytes = ap (λ v. v.bytes) split in
        let l : length w.bytes ≡ i = omega (arith, p.size, length-take i xs) in
        let m = length-append w.bytes (net_byte rule x w ∷ []) in
        record {
          before = w;
          byte = rw e (q.keeps i (omega (arith, m)) ∙ get_or_at w.bytes (net_byte rule x w) [] 0 i l);
          pins = λ j k. rw e (sym (q.keeps j (omega (arith, m)) ∙ get_or-append w.bytes (net_byte rule x w ∷ []) 0 j (omega arith)));
          row_left = p.row;
          state_left = p.state;
        }
