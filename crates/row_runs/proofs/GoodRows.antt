-- The rows before the first bad one: all where every byte is good; where one is bad, those before its row.
use Prim.Native.Nat.{ℕ, zero, suc, ◌+◌, ◌*◌, ◌≤◌, ◌<◌}
use native.Mathlib.Nat.{zero-add, suc-add, zero-mul, suc-mul}
use native.Mathlib.Omega.{arith}
use mathlib.Core.Path.{◌≡◌, refl, sym, ap, ◌∙◌}
use mathlib.Core.List.Forall₂
use mathlib.Core.List.{List, [], ◌∷◌}
use mathlib.Core.Option.{Option, none, some}
use lib.Dec.{ltb}
use lib.ListN.{length, take, drop, length-drop}
use lib.Seq.{length-take-le, take-nil, take-take, take-add, get_or-take}
use Rattle.image.specs.declared.image.Net.{Net}
use Rattle.image.proofs.Pairs.{pairs_append, pairs_take, pairs_drop}
use Rattle.refusals.specs.declared.answer.Refusal.{Refusal}
use Rattle.refusals.specs.Refusals.{refusal, bad_byte}
use Rattle.refusals.proofs.Refusals.{Codes, byte_none}
use Rattle.cycle.specs.Cycle.{Rules, cycle_of, cycles_of}
use Rattle.row_runs.specs.Rows.{bad_in, row_refusal, good_rows}
use Rattle.row_runs.proofs.FirstBad.{first_bad, bad_at, bad_past}

-- ONE ROW, then the others
pub good_row : (i k : ℕ) (rows : List ℕ) → bad_in (take i rows) ≡ none
    → (good_rows i (suc k) rows ≡ suc (good_rows i k (drop i rows))) × (row_refusal i (suc k) rows ≡ row_refusal i k (drop i rows))
unfolding good_rows row_refusal
good_row i k rows h = (rw (h, good_rows), rw (h, row_refusal))

pub bad_row : (i k : ℕ) (rows : List ℕ) {r : Refusal} → bad_in (take i rows) ≡ some r → (good_rows i (suc k) rows ≡ 0) × (row_refusal i (suc k) rows ≡ some r)
unfolding good_rows row_refusal
bad_row i k rows h = (rw (h, good_rows), rw (h, row_refusal))

-- EVERY BYTE IS GOOD
pub all_good : (i k : ℕ) (rows : List ℕ) → Codes rows → (good_rows i k rows ≡ k) × (row_refusal i k rows ≡ none)
unfolding good_rows row_refusal
all_good i zero rows c = (refl, refl)
all_good i (suc k) rows c =
    let row = good_row i k rows ((byte_none 13 0 (take i rows)).1 (pairs_take i c)) in
    let more = all_good i k (drop i rows) (pairs_drop i c) in
    (row.0 ∙ ap suc more.0, row.1 ∙ more.1)

-- THE GOOD ROWS have no bad byte, and they are at most k
pub good_few : (i k : ℕ) (rows : List ℕ) → good_rows i k rows ≤ k
unfolding good_rows
good_few i zero rows = omega arith
good_few i (suc k) rows = by (bad_in (take i rows)) refl (good_few i k (drop i rows))
  where
    by : (o : Option Refusal) → bad_in (take i rows) ≡ o → good_rows i k (drop i rows) ≤ k → good_rows i (suc k) rows ≤ suc k
    by none e h = rw (good_row i k rows e).0 (omega arith)
    by (some r) e h = rw (bad_row i k rows e).0 (omega arith)

pub good_codes : (i k : ℕ) (rows : List ℕ) → Codes (take (good_rows i k rows * i) rows)
unfolding good_rows
good_codes i zero rows = rw (zero-mul i) Forall₂.nil
good_codes i (suc k) rows = by (bad_in (take i rows)) refl (good_codes i k (drop i rows))
  where
    by : (o : Option Refusal) → bad_in (take i rows) ≡ o → Codes (take (good_rows i k (drop i rows) * i) (drop i rows)) → Codes (take (good_rows i (suc k) rows * i) rows)
    by none e h =
        let n : suc (good_rows i k (drop i rows)) * i ≡ i + good_rows i k (drop i rows) * i = omega (arith, suc-mul (good_rows i k (drop i rows)) i) in
        rw ((good_row i k rows e).0, n, take-add i (good_rows i k (drop i rows) * i) rows) (pairs_append ((byte_none 13 0 (take i rows)).0 e) h)
    by (some r) e h = rw ((bad_row i k rows e).0, zero-mul i) Forall₂.nil

-- A BYTE IS BAD, behind m rows before these: it is in the row after the good ones
pub record BadRow (i k m : ℕ) (rows : List ℕ) (r : Refusal) : Type 0 where
  pub at : ℕ
  pub within : at < i
  pub fewer : good_rows i k rows < k
  pub is : r ≡ refusal 13 ((m + good_rows i k rows) * i + at)
  pub draws : row_refusal i k rows ≡ some (refusal 13 at)

pub row_of_bad : (i k m : ℕ) (rows : List ℕ) {r : Refusal} → length rows ≡ k * i → bad_byte (ltb 3) 13 (m * i) rows ≡ some r → BadRow i k m rows r
row_of_bad i zero m rows l h = let b = first_bad 13 (m * i) rows h in absurd (omega (arith, b.there, l, zero-mul i))
row_of_bad i (suc k) m rows {r} l h =
    by (bad_in (take i rows)) refl
    (λ e. row_of_bad i k (suc m) (drop i rows) (omega (arith, length-drop i rows, l, suc-mul k i)) (past e ∙ h))
  where
    long : i ≤ length rows
    long = omega (arith, l, suc-mul k i)

    past : bad_in (take i rows) ≡ none → bad_byte (ltb 3) 13 (suc m * i) (drop i rows) ≡ bad_byte (ltb 3) 13 (m * i) rows
    past e =
        let n : suc m * i ≡ m * i + i = suc-mul m i in
        rw n (sym (bad_past 13 (m * i) i rows long ((byte_none 13 0 (take i rows)).0 e)))

    by : (o : Option Refusal) → bad_in (take i rows) ≡ o → (bad_in (take i rows) ≡ none → BadRow i k (suc m) (drop i rows) r) → BadRow i (suc k) m rows r
    by none e later =
        let b = later e in
        let row = good_row i k rows e in
        let n : m + suc (good_rows i k (drop i rows)) ≡ suc m + good_rows i k (drop i rows) = omega arith in
        record {
          at = b.at;
          within = b.within;
          fewer = rw row.0 (omega (arith, b.fewer));
          is = rw (row.0, n) b.is;
          draws = row.1 ∙ b.draws;
        }
    by (some q) e later =
        let b = first_bad 13 0 (take i rows) e in
        let row = bad_row i k rows e in
        let within : b.at < i = omega (arith, b.there, length-take-le i rows long) in
        let here : bad_byte (ltb 3) 13 (m * i) rows ≡ some (refusal 13 (m * i + b.at)) =
        bad_at 13 (m * i) rows b.at (omega (arith, within, long)) (rw (take-take b.at i rows (omega (arith, within))) at b.before) (rw (get_or-take i rows b.at 0 within) at b.bad) in
        let n : m + 0 ≡ m = omega arith in
        record {
          at = b.at;
          within = within;
          fewer = rw row.0 (omega arith);
          is = rw (row.0, n) (cc (here, h));
          draws = row.1 ∙ cc (b.is ∙ ap (refusal 13) (zero-add b.at));
        }

-- THE CYCLES of some rows do not depend on the rows after them
pub drop_part : (n m : ℕ) (xs : List ℕ) → drop n (take (n + m) xs) ≡ take m (drop n xs)
drop_part zero m xs = rw zero-add
drop_part (suc n) m [] = rw (take-nil (suc n + m), take-nil m)
drop_part (suc n) m (x ∷ xs) = rw suc-add (drop_part n m xs)

pub cycles_take : (rules : Rules) (xs : List Net) (i k : ℕ) (rows st : List ℕ) → cycles_of rules xs i k (take (k * i) rows) st ≡ cycles_of rules xs i k rows st
unfolding cycles_of
cycles_take rules xs i zero rows st = refl
cycles_take rules xs i (suc k) rows st =
    let n : suc k * i ≡ i + k * i = omega (arith, suc-mul k i) in
    rw (n, take-take i (i + k * i) rows (omega arith), drop_part i (k * i) rows)
    (ap (λ cs. cycle_of rules xs (take i rows) st ∷ cs) (cycles_take rules xs i k (drop i rows) (cycle_of rules xs (take i rows) st).state))
