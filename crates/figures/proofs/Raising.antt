-- Counting by the table: raising a place for each kind of a group goes from the counts of the groups before it to those with it.
use Prim.Native.Nat.{ℕ, suc, ◌+◌, ◌≤◌, ◌<◌}
use mathlib.Core.Path.{◌≡◌, refl, sym, ap, ◌∙◌}
use mathlib.Core.List.{List, [], ◌∷◌, ◌++◌, append_assoc, append-nil}
use mathlib.Core.Bool.{Bool, true, false, cond}
use native.Mathlib.Nat.{zero-add}
use native.Mathlib.Omega.{arith}
use lib.Dec.{T, eqb, ltb, ltb→lt}
use lib.ListN.{length, get_or, take, replicate, length-set}
use lib.Seq.{take_all, take-suc, length-take-le}
use Rattle.gates.proofs.Laws.{and_T}
use Rattle.image.specs.declared.image.Net.{Net}
use Rattle.image.specs.Image.{count}
use Rattle.image.proofs.Encoding.{nothing}
use Rattle.checking.specs.Counts.{kind_counts, raised}
use Rattle.checking.proofs.Counting.{counts_length, count_few, raised_place, counts_raised}
use Rattle.doubled.specs.Doubled.{doubled_size, value_net, value_pin, mark_pin, group_at, groups_from, doubled_nets}
use Rattle.doubled.proofs.Positions.{groups_length, groups_append, value_up}
use Rattle.figures.specs.Tables.{group_kinds, places, raised_by, NineCounts}
use Rattle.figures.proofs.Rows.{places_next, places_none, table_long, entry_small, kinds_of, row, kinds_small, group_row}

-- a place raised raises no count by more than 1
pub raised_most : {m : ℕ} {counts : List ℕ} (k : ℕ) → k < 9 → NineCounts m counts → NineCounts (m + 1) (raised counts k)
raised_most {m} {counts} k l h =
    record {
      nine = length-set counts k _ ∙ h.nine;
      most = λ j i. rw (raised_place counts k j (rw h.nine l)) (add_most (eqb k j) (h.most j i));
    }
  where
    add_most : (b : Bool) {n : ℕ} → n ≤ m → n + cond b 1 0 ≤ m + 1
    add_most true e = omega arith
    add_most false e = omega arith

-- the counts of some nets, raised by the kinds of further nets, are the counts of all of them
counts_more : (xs ys : List Net) → T (kinds_small ys) → raised_by (kind_counts xs) (kinds_of ys) ≡ kind_counts (xs ++ ys)
unfolding raised_by
counts_more xs [] h = ap kind_counts (sym (append-nil xs))
counts_more xs (y ∷ ys) h =
    let t = and_T (ltb y.kind 9) (kinds_small ys) h in
    ap (λ (counts : List ℕ). raised_by counts (kinds_of ys)) (counts_raised xs y (ltb→lt _ 9 t.0))
    ∙ counts_more (xs ++ (y ∷ [])) ys t.1
    ∙ ap kind_counts (append_assoc xs (y ∷ []) ys)

-- the groups of the nets before net i, and that of net i
groups_next : (xs : List Net) (i : ℕ) → i < length xs
    → groups_from xs 0 (take (suc i) xs) ≡ groups_from xs 0 (take i xs) ++ group_at xs i (get_or xs i nothing)
unfolding groups_from
groups_next xs i h =
    rw (take-suc xs i nothing h)
    (groups_append xs 0 (take i xs) (get_or xs i nothing ∷ [])
    ∙ rw (length-take-le i xs (omega arith), zero-add, append-nil))

-- THE COUNTS of the groups of the nets before net i
unfoldable pub counts_to : List Net → (i : ℕ) → List ℕ
counts_to xs i = kind_counts (groups_from xs 0 (take i xs))

pub counts_begin : (xs : List Net) → counts_to xs 0 ≡ replicate 9 0
unfolding counts_to groups_from kind_counts count
counts_begin xs = refl

-- all groups
pub counts_all : (xs : List Net) (i : ℕ) → length xs ≤ i → counts_to xs i ≡ kind_counts (doubled_nets xs)
unfolding counts_to doubled_nets
counts_all xs i h = rw (take_all i xs h)

-- one group more
pub counts_next : (xs : List Net) (i : ℕ) → i < length xs → (get_or xs i nothing).kind < 9
    → raised_by (counts_to xs i) (row (get_or xs i nothing).kind) ≡ counts_to xs (suc i)
unfolding counts_to
counts_next xs i h l =
    let x = get_or xs i nothing in
    let r = group_row (value_net xs i) x (value_pin xs) (mark_pin xs) l in
    rw (r.kinds, groups_next xs i h) (counts_more (groups_from xs 0 (take i xs)) (group_at xs i x) r.small)

-- a count is at most as high as there are nets
pub counts_room : (xs : List Net) (i m : ℕ) → doubled_size xs ≤ m → NineCounts m (counts_to xs i)
unfolding counts_to value_net
counts_room xs i m h =
    let before = groups_from xs 0 (take i xs) in
    record {
      nine = counts_length before;
      most = λ k l. omega (arith, count_few k before, groups_length xs 0 (take i xs), value_up xs i);
    }

-- A ROW, place by place: at place j the counts, with whole the counts that are to come out at the end
pub record Turn (whole : List ℕ) (end j : ℕ) (counts : List ℕ) : Type 0 where
  pub below : j ≤ end
  pub room : NineCounts (8192 + j) counts
  pub left : raised_by counts (places group_kinds j end) ≡ whole

module _ {whole : List ℕ} {end j : ℕ} {counts : List ℕ} (t : Turn whole end j counts) (few : end ≤ 72) where
  -- the kind at place j, in a table that is the definition's
  module _ {table : List ℕ} (same : table ≡ group_kinds) (h : j < end) where
    pub turn_ready : (get_or table j 0 < 9) × NineCounts 65534 counts
    turn_ready = (rw same (entry_small j (omega arith)), record { nine = t.room.nine; most = λ k l. omega (arith, t.room.most k l) })

    pub turn_next : {more : List ℕ} → more ≡ raised counts (get_or table j 0) → Turn whole end (j + 1) more
    unfolding raised_by
    turn_next e =
        let one_more : 8192 + (j + 1) ≡ 8192 + j + 1 = omega arith in
        record {
          below = omega arith;
          room = rw (e, one_more) (raised_most (get_or table j 0) turn_ready.0 t.room);
          left = rw (e, same) (rw (places_next group_kinds j end h (rw table_long few)) at t.left);
        }

  pub turns_done : end ≤ j → counts ≡ whole
  unfolding raised_by
  turns_done h = rw (places_none group_kinds j end h) at t.left
