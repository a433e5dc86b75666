-- The table of kinds is the groups': the row of a kind has the kinds of the nets of its group, in order.
use Prim.Native.Nat.{ℕ, zero, suc, ◌+◌, ◌*◌, ◌-◌, ◌≤◌, ◌<◌}
use mathlib.Core.Path.{◌≡◌, refl}
use mathlib.Core.List.{List, [], ◌∷◌, map}
use mathlib.Core.Bool.{Bool, true, ◌&&◌}
use native.Mathlib.Numerals.{add-one}
use native.Mathlib.Omega.{arith}
use lib.Dec.{T, ltb, ltb→lt, lit≤}
use lib.ListN.{length, get_or}
use lib.Seq.{drop-cons}
use Rattle.gates.proofs.Entries.{entry}
use Rattle.image.specs.declared.image.Net.{Net}
use Rattle.image.specs.Image.{net}
use Rattle.groups.specs.Groups.{group_lengths, group_length, group_of}
use Rattle.figures.specs.Tables.{group_kinds, places}

-- A PART of a table, place by place
pub places_next : (t : List ℕ) (j end : ℕ) → j < end → end ≤ length t → places t j end ≡ get_or t j 0 ∷ places t (j + 1) end
places_next t j end h l =
    let e : end - j ≡ suc (end - suc j) = omega arith in
    rw (add-one j, e, drop-cons t j 0 (omega arith))

pub places_none : (t : List ℕ) (j end : ℕ) → end ≤ j → places t j end ≡ []
places_none t j end h = let e : end - j ≡ 0 = omega arith in rw e

-- EVERY ENTRY of the 72 is a kind
pub table_long : length group_kinds ≡ 72
unfolding group_kinds
table_long = refl

kind_test : ℕ → ℕ → Bool
kind_test j k = ltb k 9

pub entry_small : (j : ℕ) → j < 72 → get_or group_kinds j 0 < 9
unfolding kind_test group_kinds
entry_small j h = ltb→lt _ 9 (entry kind_test group_kinds tt j h)

-- A ROW
abbrev pub kinds_of : List Net → List ℕ
kinds_of ys = map (λ y. y.kind) ys

abbrev pub row : ℕ → List ℕ
row k = places group_kinds (8 * k) (8 * k + group_length k)

-- all nets are of kinds 0 to 8
abbrev pub kinds_small : List Net → Bool
kinds_small [] = true
kinds_small (y ∷ ys) = ltb y.kind 9 && kinds_small ys

-- the row of kind k is that of the nets g
pub record RowOf (k : ℕ) (g : List Net) : Type 0 where
  pub kinds : row k ≡ kinds_of g
  pub small : T (kinds_small g)
  pub ends : 8 * k + group_length k ≤ 72

row_of : (v k a b c : ℕ) (val mrk : ℕ → ℕ) → k < 9 → RowOf k (group_of v (net k a b c) val mrk)
unfolding group_kinds group_length group_lengths group_of
row_of v zero a b c val mrk h = record { kinds = refl; small = tt; ends = lit≤ tt }
row_of v (suc zero) a b c val mrk h = record { kinds = refl; small = tt; ends = lit≤ tt }
row_of v (suc (suc zero)) a b c val mrk h = record { kinds = refl; small = tt; ends = lit≤ tt }
row_of v (suc (suc (suc zero))) a b c val mrk h = record { kinds = refl; small = tt; ends = lit≤ tt }
row_of v (suc (suc (suc (suc zero)))) a b c val mrk h = record { kinds = refl; small = tt; ends = lit≤ tt }
row_of v (suc (suc (suc (suc (suc zero))))) a b c val mrk h = record { kinds = refl; small = tt; ends = lit≤ tt }
row_of v (suc (suc (suc (suc (suc (suc zero)))))) a b c val mrk h = record { kinds = refl; small = tt; ends = lit≤ tt }
row_of v (suc (suc (suc (suc (suc (suc (suc zero))))))) a b c val mrk h = record { kinds = refl; small = tt; ends = lit≤ tt }
row_of v (suc (suc (suc (suc (suc (suc (suc (suc zero)))))))) a b c val mrk h = record { kinds = refl; small = tt; ends = lit≤ tt }
row_of v (suc (suc (suc (suc (suc (suc (suc (suc (suc k))))))))) a b c val mrk h = absurd (omega arith)

pub group_row : (v : ℕ) (x : Net) (val mrk : ℕ → ℕ) → x.kind < 9 → RowOf x.kind (group_of v x val mrk)
group_row v x val mrk h = row_of v x.kind x.a x.b x.c val mrk h

-- a row ends within the table
pub row_ends : (k : ℕ) → k < 9 → 8 * k + group_length k ≤ 72
row_ends k h = (row_of 0 k 0 0 0 (λ j. j) (λ j. j) h).ends
