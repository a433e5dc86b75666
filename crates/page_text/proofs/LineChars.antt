-- The characters of a heading and of an output's line.
use Prim.Native.Nat.{ℕ, zero, suc, ◌+◌, ◌-◌, ◌≤◌, ◌<◌}
use native.Mathlib.Omega.{arith}
use mathlib.Core.Path.{◌≡◌, refl, ◌∙◌}
use mathlib.Core.Logic.{◌⊎◌, inl, inr, ⊎_elim}
use mathlib.Core.List.{List, map}
use mathlib.Core.Bool.{Bool, true, false, cond}
use lib.Dec.{lit≤, ltb}
use lib.ListN.{length, get_or, length-map}
use borrow.Author.Tests.{ltb-true, ltb-false}
use Rattle.gates.specs.Rules.{value, mark}
use Rattle.text.specs.Ascii.{ascii}
use Rattle.text.specs.Decimal.{decimal}
use Rattle.text.proofs.Decimal.{decimal_most, decimal_few, decimal_printed}
use Rattle.page_text.specs.Pages.{set_left, set_right, heading, sign, output_line}
use Rattle.page_text.proofs.Blanks.{left_length, right_length}
use Rattle.page_text.proofs.Chars.{map_at, left_text, left_blank, right_blank, right_text, line_label, line_blank, line_rest, line_newline}

-- a number is below another or not
below_or_not : (i n : ℕ) → (i < n) ⊎ (n ≤ i)
below_or_not i n = by (ltb i n) refl
  where
    by : (b : Bool) → ltb i n ≡ b → (i < n) ⊎ (n ≤ i)
    by true e = inl (ltb-true i n e)
    by false e = inr (ltb-false i n e)

-- columns 1 to 5, column 6, and the other 64
by_column : (text : List ℕ) (i : ℕ) → i < 70 → (i < 5 → 32 ≤ get_or text i 0) → 32 ≤ get_or text 5 0 → ((j : ℕ) → j < 64 → 32 ≤ get_or text (6 + j) 0) → 32 ≤ get_or text i 0
by_column text i h label blank rest = ⊎_elim label (λ l. later (below_or_not i 6) l) (below_or_not i 5)
  where
    later : (i < 6) ⊎ (6 ≤ i) → 5 ≤ i → 32 ≤ get_or text i 0
    later (inl m) l = let e : i ≡ 5 = omega arith in rw e blank
    later (inr m) l = let e : 6 + (i - 6) ≡ i = omega arith in rw e at (rest (i - 6) (omega arith))

-- THE HEADING
module _ (first : ℕ) where
  abbrev number : List ℕ
  number = set_left 64 (decimal first)

  long : length number ≡ 64
  long = left_length 64 (decimal first) (omega (arith, decimal_most first))

  pub heading_word : (i : ℕ) → i < 5 → get_or (heading first) i 0 ≡ get_or (ascii "cycle") i 0
  unfolding heading
  heading_word i h = line_label (ascii "cycle") number refl long i h

  pub heading_6 : get_or (heading first) 5 0 ≡ 32
  unfolding heading
  heading_6 = line_blank (ascii "cycle") number refl long

  pub heading_number : (i : ℕ) → i < length (decimal first) → get_or (heading first) (6 + i) 0 ≡ get_or (decimal first) i 0
  unfolding heading
  heading_number i h = line_rest (ascii "cycle") number refl long i (omega (arith, decimal_most first)) ∙ left_text 64 (decimal first) i h

  pub heading_blank : (i : ℕ) → length (decimal first) ≤ i → i < 64 → get_or (heading first) (6 + i) 0 ≡ 32
  unfolding heading
  heading_blank i h l = line_rest (ascii "cycle") number refl long i l ∙ left_blank 64 (decimal first) i h l

  -- none of the 70 characters is a newline
  pub heading_printed : (i : ℕ) → i < 70 → 32 ≤ get_or (heading first) i 0
  heading_printed i h = by_column (heading first) i h (λ l. rw (heading_word i l) (word i l)) (rw heading_6 (omega arith))
      (λ j l. by_end j l)
    where
      word : (i : ℕ) → i < 5 → 32 ≤ get_or (ascii "cycle") i 0
      word zero h = omega arith
      word (suc zero) h = omega arith
      word (suc (suc zero)) h = omega arith
      word (suc (suc (suc zero))) h = omega arith
      word (suc (suc (suc (suc zero)))) h = omega arith
      word (suc (suc (suc (suc (suc i))))) h = absurd (omega arith)

      by_end : (j : ℕ) → j < 64 → 32 ≤ get_or (heading first) (6 + j) 0
      by_end j l =
          ⊎_elim
          (λ m. rw (heading_number j m) (omega (arith, decimal_printed first j m)))
          (λ m. rw (heading_blank j m l) (omega arith))
          (below_or_not j (length (decimal first)))

  pub heading_newline : get_or (heading first) 70 0 ≡ 10
  unfolding heading
  heading_newline = line_newline (ascii "cycle") number refl long

-- THE LINE OF AN OUTPUT
sign_printed : (b : ℕ) → 32 ≤ sign b
unfolding sign
sign_printed b = one (mark b) (value b)
  where
    one : (t v : Bool) → 32 ≤ cond t (cond v 104 108) (cond v 49 48)
    one true true = omega arith
    one true false = omega arith
    one false true = omega arith
    one false false = omega arith

module _ (net : ℕ) (bytes : List ℕ) (few : net < 100000) (page : length bytes ≤ 64) where
  abbrev label : List ℕ
  label = set_right 5 (decimal net)

  abbrev signs : List ℕ
  signs = set_left 64 (map sign bytes)

  pub five : length (decimal net) ≤ 5
  five = decimal_few 5 net (lit≤ tt) few

  size : length label ≡ 5
  size = right_length 5 (decimal net) five

  wide : length signs ≡ 64
  wide = left_length 64 (map sign bytes) (omega (arith, length-map bytes sign))

  pub out_blank : (c : ℕ) → c < 5 - length (decimal net) → get_or (output_line net bytes) c 0 ≡ 32
  unfolding output_line
  out_blank c h = line_label label signs size wide c (omega arith) ∙ right_blank 5 (decimal net) c h

  pub out_number : (c : ℕ) → c < length (decimal net) → get_or (output_line net bytes) (5 - length (decimal net) + c) 0 ≡ get_or (decimal net) c 0
  unfolding output_line
  out_number c h = line_label label signs size wide (5 - length (decimal net) + c) (omega (arith, five)) ∙ right_text 5 (decimal net) c

  pub out_6 : get_or (output_line net bytes) 5 0 ≡ 32
  unfolding output_line
  out_6 = line_blank label signs size wide

  pub out_sign : (i : ℕ) → i < length bytes → get_or (output_line net bytes) (6 + i) 0 ≡ sign (get_or bytes i 0)
  unfolding output_line
  out_sign i h =
      line_rest label signs size wide i (omega arith)
      ∙ left_text 64 (map sign bytes) i (omega (arith, length-map bytes sign))
      ∙ map_at sign bytes i h

  pub out_unused : (i : ℕ) → length bytes ≤ i → i < 64 → get_or (output_line net bytes) (6 + i) 0 ≡ 32
  unfolding output_line
  out_unused i h l = line_rest label signs size wide i l ∙ left_blank 64 (map sign bytes) i (omega (arith, length-map bytes sign)) l

  pub out_printed : (i : ℕ) → i < 70 → 32 ≤ get_or (output_line net bytes) i 0
  out_printed i h = by_column (output_line net bytes) i h in_label (rw out_6 (omega arith)) in_signs
    where
      in_label : i < 5 → 32 ≤ get_or (output_line net bytes) i 0
      in_label l =
          let n = length (decimal net) in
          ⊎_elim
          (λ m. rw (out_blank i m) (omega arith))
          (λ m.
          let e : 5 - n + (i - (5 - n)) ≡ i = omega arith in
          let inside : i - (5 - n) < n = omega (arith, five) in
          let digit : 32 ≤ get_or (output_line net bytes) (5 - n + (i - (5 - n))) 0 = rw (out_number (i - (5 - n)) inside) (omega (arith, decimal_printed net (i - (5 - n)) inside)) in
          rw e at digit)
          (below_or_not i (5 - n))

      in_signs : (j : ℕ) → j < 64 → 32 ≤ get_or (output_line net bytes) (6 + j) 0
      in_signs j l =
          ⊎_elim
          (λ m. rw (out_sign j m) (sign_printed (get_or bytes j 0)))
          (λ m. rw (out_unused j m l) (omega arith))
          (below_or_not j (length bytes))

  pub out_newline : get_or (output_line net bytes) 70 0 ≡ 10
  unfolding output_line
  out_newline = line_newline label signs size wide
