-- The rows that are taken: a row of those that are there, then the others; and what is taken together, part by part.
use Prim.Native.Nat.{ℕ, zero, suc, ◌+◌, ◌*◌, ◌≤◌, ◌<◌}
use native.Mathlib.Omega.{arith}
use native.Mathlib.Nat.{suc-mul, zero-mul}
use mathlib.Core.Path.{◌≡◌, refl, sym, ap, ◌∙◌}
use mathlib.Core.Bool.{Bool, true, false, cond}
use mathlib.Core.List.{List, [], ◌∷◌, ◌++◌}
use lib.Dec.{ltb}
use lib.ListN.{length, take, drop, length-append, length-drop}
use lib.Seq.{length-take-le, take_all, take-append-le, drop-append-le}
use borrow.Author.Tests.{lt-ltb, le-ltb}
use Rattle.listing_text.specs.Lines.{end_line}
use Rattle.listing_output.specs.Printed.{Printed, with_last}
use Rattle.listing_rows.specs.Rows.{Listed, with_row, with_short, rows_up_to, rows_of, with_rows, with_end}
use Rattle.listing_rows.specs.Taken.{Held, Taken}

-- a choice whose test is known
chosen : {A : Type 0} (b : Bool) (x y : A) → b ≡ true → cond b x y ≡ x
chosen true x y h = refl
chosen false x y h = let z : ◌≡◌ {A = ℕ} 0 1 = cc in absurd (omega arith)

passed_by : {A : Type 0} (b : Bool) (x y : A) → b ≡ false → cond b x y ≡ y
passed_by false x y h = refl
passed_by true x y h = let z : ◌≡◌ {A = ℕ} 0 1 = cc in absurd (omega arith)

-- BYTES IN ROWS: there are at most as many rows as bytes
rows_enough : (m n i : ℕ) (bytes : List ℕ) → 0 < i → length bytes ≤ m → length bytes ≤ n → rows_up_to m i bytes ≡ rows_up_to n i bytes
unfolding rows_up_to
rows_enough zero zero i bytes h j k = refl
rows_enough zero (suc n) i [] h j k = refl
rows_enough (suc m) zero i [] h j k = refl
rows_enough (suc m) (suc n) i [] h j k = refl
rows_enough zero (suc n) i (b ∷ bytes) h j k = absurd (omega arith)
rows_enough (suc m) zero i (b ∷ bytes) h j k = absurd (omega arith)
rows_enough (suc m) (suc n) i (b ∷ bytes) h j k =
    let l = length-drop i (b ∷ bytes) in
    rw (rows_enough m n i (drop i (b ∷ bytes)) h (omega arith) (omega arith))

-- the first row, and the others
pub rows_first : (i : ℕ) (bytes : List ℕ) → 0 < i → 0 < length bytes → rows_of i bytes ≡ take i bytes ∷ rows_of i (drop i bytes)
unfolding rows_up_to
rows_first i [] h j = absurd (omega arith)
rows_first i (b ∷ bytes) h j =
    let l = length-drop i (b ∷ bytes) in
    rw (rows_enough (length bytes) (length (drop i (b ∷ bytes))) i (drop i (b ∷ bytes)) h (omega arith) (omega arith))

-- whole rows before other bytes are rows of their own
pub rows_append : (k i : ℕ) (xs ys : List ℕ) → 0 < i → length xs ≡ k * i → rows_of i (xs ++ ys) ≡ rows_of i xs ++ rows_of i ys
unfolding rows_up_to
rows_append zero i [] ys h e = refl
rows_append zero i (x ∷ xs) ys h e = absurd (omega (arith, zero-mul i))
rows_append (suc k) i xs ys h e =
    let n : length xs ≡ k * i + i = e ∙ suc-mul k i in
    let m : length (drop i xs) ≡ k * i = omega (arith, length-drop i xs) in
    let l = length-append xs ys in
    rw (rows_first i (xs ++ ys) h (omega arith), rows_first i xs h (omega arith), take-append-le i xs ys (omega arith), drop-append-le i xs ys (omega arith), rows_append k i (drop i xs) ys h m)

module _ (s : List ℕ) (i : ℕ) where
  -- nothing follows a last line
  pub rows_closed : (rows : List (List ℕ)) (l : Listed) → l.printed.goes_on ≡ false → with_rows s i rows l ≡ l
  unfolding with_rows
  rows_closed [] l h = refl
  rows_closed (row ∷ rows) l h = rw h

  -- no row is left
  pub rows_none : (bytes : List ℕ) (l : Listed) → length bytes ≡ 0 → with_rows s i (rows_of i bytes) l ≡ l
  unfolding with_rows rows_up_to
  rows_none [] l h = refl
  rows_none (b ∷ bytes) l h = absurd (omega arith)

  -- one row, then the others
  rows_then : (row : List ℕ) (rows : List (List ℕ)) (l : Listed) → l.printed.goes_on ≡ true
      → with_rows s i (row ∷ rows) l ≡ with_rows s i rows (cond (ltb (length row) i) (with_short l) (with_row s row l))
  unfolding with_rows
  rows_then row rows l h = chosen l.printed.goes_on _ l h

  -- rows, then others
  pub with_append : (xs ys : List (List ℕ)) (l : Listed) → with_rows s i (xs ++ ys) l ≡ with_rows s i ys (with_rows s i xs l)
  unfolding with_rows
  with_append [] ys l = refl
  with_append (x ∷ xs) ys l = by l.printed.goes_on refl (with_append xs ys (cond (ltb (length x) i) (with_short l) (with_row s x l)))
    where
      by : (o : Bool) → l.printed.goes_on ≡ o
          → with_rows s i (xs ++ ys) (cond (ltb (length x) i) (with_short l) (with_row s x l)) ≡ with_rows s i ys (with_rows s i xs (cond (ltb (length x) i) (with_short l) (with_row s x l)))
          → with_rows s i (x ∷ (xs ++ ys)) l ≡ with_rows s i ys (with_rows s i (x ∷ xs) l)
      by true e ih = rows_then x (xs ++ ys) l e ∙ ih ∙ ap (with_rows s i ys) (sym (rows_then x xs l e))
      by false e ih = rows_closed (x ∷ (xs ++ ys)) l e ∙ sym (rows_closed ys l e) ∙ ap (with_rows s i ys) (sym (rows_closed (x ∷ xs) l e))

  module _ (some : 0 < i) where
    -- a whole row
    pub rows_whole : (bytes : List ℕ) (l : Listed) → l.printed.goes_on ≡ true → i ≤ length bytes
        → with_rows s i (rows_of i bytes) l ≡ with_rows s i (rows_of i (drop i bytes)) (with_row s (take i bytes) l)
    rows_whole bytes l h k =
        let n : length (take i bytes) ≡ i = length-take-le i bytes k in
        rw (rows_first i bytes some (omega arith)) (rows_then (take i bytes) _ l h ∙ rw (n, le-ltb i i (omega arith)))

    -- a short last row
    pub rows_short : (bytes : List ℕ) (l : Listed) → l.printed.goes_on ≡ true → 0 < length bytes → length bytes < i
        → with_rows s i (rows_of i bytes) l ≡ with_short l
    rows_short bytes l h j k =
        let n : length (take i bytes) ≡ length bytes = rw (take_all i bytes (omega arith)) in
        let none : length (drop i bytes) ≡ 0 = omega (arith, length-drop i bytes) in
        rw (rows_first i bytes some j) (rows_then (take i bytes) _ l h ∙ rw (n, lt-ltb (length bytes) i k) (rows_none (drop i bytes) (with_short l) none))

-- THE END of the input: a last line, unless there is one already
pub end_open : (l : Listed) → l.printed.goes_on ≡ true
    → with_end l ≡ record { state = l.state; outputs = l.outputs; printed = with_last (end_line l.printed.cycles) l.printed }
unfolding with_end
end_open l h = chosen l.printed.goes_on _ l h

pub end_closed : (l : Listed) → l.printed.goes_on ≡ false → with_end l ≡ l
unfolding with_end
end_closed l h = passed_by l.printed.goes_on _ l h

-- ROWS THAT WERE TAKEN: none, some and then others, and those that follow a last line
pub taken_none : {s : List ℕ} {i : ℕ} {h : Held} → Taken s i [] h h
unfolding with_rows
taken_none = record { leads = λ l e. e }

pub taken_then : {s : List ℕ} {i : ℕ} {xs ys : List (List ℕ)} {a b c : Held} → Taken s i xs a b → Taken s i ys b c → Taken s i (xs ++ ys) a c
taken_then {s} {i} {xs} {ys} t u = record { leads = λ l e. rw (with_append s i xs ys l) (u.leads _ (t.leads l e)) }

pub taken_closed : {s : List ℕ} {i : ℕ} (ys : List (List ℕ)) {xs : List (List ℕ)} {a b : Held} → b.printed.goes_on ≡ false → Taken s i xs a b → Taken s i (xs ++ ys) a b
taken_closed {s} {i} ys {xs} {b = b} n t =
    record {
      leads = λ l e.
          let h = t.leads l e in
          let closed : (with_rows s i xs l).printed.goes_on ≡ false = ap (λ p. p.goes_on) h.printed ∙ n in
          rw (with_append s i xs ys l, rows_closed s i ys (with_rows s i xs l) closed) h;
    }

-- what is held may be written in another way
pub taken_to : {s : List ℕ} {i : ℕ} {rows : List (List ℕ)} {a b : Held} {st : List ℕ} {p : Printed} → Taken s i rows a b → st ≡ b.state → p ≡ b.printed
    → Taken s i rows a (record { state = st; printed = p })
taken_to t e f = record { leads = λ l h. let u = t.leads l h in record { state = u.state ∙ sym e; printed = u.printed ∙ sym f; outputs = u.outputs } }
