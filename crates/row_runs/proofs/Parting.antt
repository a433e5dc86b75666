-- Rows in two parts: the good rows, the refusal and the cycles of both are those of the one, and then of the other.
use Prim.Native.Nat.{ℕ, zero, suc, ◌+◌, ◌*◌, ◌≤◌}
use native.Mathlib.Nat.{zero-add, add-zero, suc-add, zero-mul, suc-mul, mul-le-mul}
use native.Mathlib.Omega.{arith}
use mathlib.Core.Path.{◌≡◌, refl, sym, ap, ◌∙◌}
use mathlib.Core.List.{List, [], ◌∷◌, ◌++◌, append_assoc}
use mathlib.Core.Option.{Option, none, some}
use lib.ListN.{take, drop}
use lib.Seq.{take-take, drop-drop}
use Rattle.image.specs.declared.image.Net.{Net}
use Rattle.refusals.specs.declared.answer.Refusal.{Refusal}
use Rattle.cycle.specs.Cycle.{Rules, Cycle, cycle_of, cycles_of, outputs_of, state_after}
use Rattle.row_runs.specs.Rows.{bad_in, row_refusal, good_rows}
use Rattle.row_runs.proofs.GoodRows.{good_row, bad_row, drop_part, cycles_take}

-- THE GOOD ROWS among k, and the refusal, by the bytes of k rows alone
module _ (i : ℕ) where
  abbrev Same : (k : ℕ) (xs ys : List ℕ) → Type 0
  Same k xs ys = (good_rows i k xs ≡ good_rows i k ys) × (row_refusal i k xs ≡ row_refusal i k ys)

  same_rows : (k : ℕ) (xs ys : List ℕ) → take i xs ≡ take i ys → Same k (drop i xs) (drop i ys) → Same (suc k) xs ys
  same_rows k xs ys e h = by (bad_in (take i ys)) refl
    where
      by : (o : Option Refusal) → bad_in (take i ys) ≡ o → Same (suc k) xs ys
      by none f =
          let x = good_row i k xs (ap bad_in e ∙ f) in
          let y = good_row i k ys f in
          (x.0 ∙ ap suc h.0 ∙ sym y.0, x.1 ∙ h.1 ∙ sym y.1)
      by (some r) f =
          let x = bad_row i k xs (ap bad_in e ∙ f) in
          let y = bad_row i k ys f in
          (x.0 ∙ sym y.0, x.1 ∙ sym y.1)

  pub good_take : (k : ℕ) (rows : List ℕ) → Same k (take (k * i) rows) rows
  unfolding good_rows row_refusal
  good_take zero rows = (refl, refl)
  good_take (suc k) rows =
      let n : suc k * i ≡ i + k * i = omega (arith, suc-mul k i) in
      rw n
      (same_rows k (take (i + k * i) rows) rows (take-take i (i + k * i) rows (omega arith)) (rw (drop_part i (k * i) rows) (good_take k (drop i rows))))

  -- rows that are all good, and those after them
  abbrev Split : (a b : ℕ) (rows : List ℕ) → Type 0
  Split a b rows = (good_rows i (a + b) rows ≡ a + good_rows i b (drop (a * i) rows)) × (row_refusal i (a + b) rows ≡ row_refusal i b (drop (a * i) rows))

  pub good_split : (a b : ℕ) (rows : List ℕ) → good_rows i a rows ≡ a → Split a b rows
  good_split zero b rows h = (rw (zero-mul i, zero-add b, zero-add), rw (zero-mul i, zero-add b))
  good_split (suc a) b rows h = by (bad_in (take i rows)) refl (λ g. good_split a b (drop i rows) g)
    where
      by : (o : Option Refusal) → bad_in (take i rows) ≡ o → (good_rows i a (drop i rows) ≡ a → Split a b (drop i rows)) → Split (suc a) b rows
      by none e later =
          let n : suc a * i ≡ i + a * i = omega (arith, suc-mul a i) in
          let rest = later (omega (arith, h, (good_row i a rows e).0)) in
          let row = good_row i (a + b) rows e in
          (rw (suc-add a b, n, ← drop-drop (a * i) i rows, suc-add) (row.0 ∙ ap suc rest.0), rw (suc-add a b, n, ← drop-drop (a * i) i rows) (row.1 ∙ rest.1))
      by (some r) e later = absurd (omega (arith, h, (bad_row i a rows e).0))

  -- of rows that are all good, the first are
  pub good_first : (a b : ℕ) (rows : List ℕ) → good_rows i (a + b) rows ≡ a + b → good_rows i a rows ≡ a
  good_first zero b rows h = unfold good_rows in refl
  good_first (suc a) b rows h = by (bad_in (take i rows)) refl (λ g. good_first a b (drop i rows) g)
    where
      n : suc a + b ≡ suc (a + b)
      n = suc-add a b

      by : (o : Option Refusal) → bad_in (take i rows) ≡ o → (good_rows i (a + b) (drop i rows) ≡ a + b → good_rows i a (drop i rows) ≡ a) → good_rows i (suc a) rows ≡ suc a
      by none e later =
          let all : good_rows i (suc (a + b)) rows ≡ suc (a + b) = rw n at h in
          (good_row i a rows e).0 ∙ ap suc (later (omega (arith, all, (good_row i (a + b) rows e).0)))
      by (some r) e later =
          let all : good_rows i (suc (a + b)) rows ≡ suc (a + b) = rw n at h in
          absurd (omega (arith, all, (bad_row i (a + b) rows e).0))

  -- where all are good, none draws a refusal
  pub none_bad : (k : ℕ) (rows : List ℕ) → good_rows i k rows ≡ k → row_refusal i k rows ≡ none
  unfolding row_refusal
  none_bad k rows h = rw add-zero at (good_split k 0 rows h).1

-- THE CYCLES of rows, and of those after them
module _ (rules : Rules) (xs : List Net) (i : ℕ) where
  pub cycles_split : (a b : ℕ) (rows st : List ℕ) → let cs = cycles_of rules xs i a rows st in
      cycles_of rules xs i (a + b) rows st ≡ cs ++ cycles_of rules xs i b (drop (a * i) rows) (state_after st cs)
  unfolding cycles_of state_after
  cycles_split zero b rows st = rw (zero-mul i, zero-add b)
  cycles_split (suc a) b rows st =
      let n : suc a * i ≡ i + a * i = omega (arith, suc-mul a i) in
      let c = cycle_of rules xs (take i rows) st in
      rw (suc-add a b, n, ← drop-drop (a * i) i rows) (ap (λ cs. c ∷ cs) (cycles_split a b (drop i rows) c.state))

  -- by the bytes of as many rows, or of more
  pub cycles_front : (g k : ℕ) (rows st : List ℕ) → g ≤ k → cycles_of rules xs i g (take (k * i) rows) st ≡ cycles_of rules xs i g rows st
  cycles_front g k rows st h =
      let n : g * i ≤ k * i = mul-le-mul h (omega arith) in
      sym (cycles_take rules xs i g (take (k * i) rows) st) ∙ rw (take-take (g * i) (k * i) rows n) (cycles_take rules xs i g rows st)

pub outputs_append : (cs ds : List Cycle) → outputs_of (cs ++ ds) ≡ outputs_of cs ++ outputs_of ds
unfolding outputs_of
outputs_append [] ds = refl
outputs_append (c ∷ cs) ds = rw (outputs_append cs ds) (sym (append_assoc c.outputs (outputs_of cs) (outputs_of ds)))

pub state_append : (st : List ℕ) (cs ds : List Cycle) → state_after st (cs ++ ds) ≡ state_after (state_after st cs) ds
unfolding state_after
state_append st [] ds = refl
state_append st (c ∷ cs) ds = state_append c.state cs ds
