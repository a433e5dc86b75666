-- The characters of a line: which stands in which column.
use Prim.Native.Nat.{ℕ, zero, suc, ◌+◌, ◌-◌, ◌≤◌, ◌<◌}
use native.Mathlib.Omega.{arith}
use mathlib.Core.Path.{◌≡◌, refl, ap, ◌∙◌}
use mathlib.Core.List.{List, [], ◌∷◌, ◌++◌, map, append_assoc}
use lib.ListN.{length, get_or, get_or-append, get_or-replicate, length-replicate}
use lib.Seq.{get_or-append-add}
use Rattle.text.specs.Ascii.{space, newline}
use Rattle.page_text.specs.Pages.{blanks, set_left, set_right, line}

-- behind a list of n characters
pub behind : (xs ys : List ℕ) (n i : ℕ) → length xs ≡ n → get_or (xs ++ ys) (n + i) 0 ≡ get_or ys i 0
behind xs ys n i h = ap (λ m. get_or (xs ++ ys) (m + i) 0) h⁻ ∙ get_or-append-add xs ys i 0
  where
    h⁻ : n ≡ length xs
    h⁻ = rw h

pub map_at : (f : ℕ → ℕ) (xs : List ℕ) (i : ℕ) → i < length xs → get_or (map f xs) i 0 ≡ f (get_or xs i 0)
map_at f [] i h = absurd (omega arith)
map_at f (x ∷ xs) zero h = refl
map_at f (x ∷ xs) (suc i) h = map_at f xs i (omega arith)

-- set left
pub left_text : (columns : ℕ) (text : List ℕ) (i : ℕ) → i < length text → get_or (set_left columns text) i 0 ≡ get_or text i 0
unfolding set_left
left_text columns text i h = get_or-append text (blanks (columns - length text)) 0 i h

pub left_blank : (columns : ℕ) (text : List ℕ) (i : ℕ) → length text ≤ i → i < columns → get_or (set_left columns text) i 0 ≡ 32
unfolding set_left
left_blank columns text i h l =
    let e : i ≡ length text + (i - length text) = omega arith in
    ap (λ m. get_or (text ++ blanks (columns - length text)) m 0) e
    ∙ get_or-append-add text (blanks (columns - length text)) (i - length text) 0
    ∙ get_or-replicate (columns - length text) (i - length text) 32 0 (omega arith)

-- set right
pub right_blank : (columns : ℕ) (text : List ℕ) (i : ℕ) → i < columns - length text → get_or (set_right columns text) i 0 ≡ 32
unfolding set_right
right_blank columns text i h =
    get_or-append (blanks (columns - length text)) text 0 i (omega (arith, length-replicate {A = ℕ} (columns - length text) 32))
    ∙ get_or-replicate (columns - length text) i 32 0 h

pub right_text : (columns : ℕ) (text : List ℕ) (i : ℕ) → get_or (set_right columns text) (columns - length text + i) 0 ≡ get_or text i 0
unfolding set_right
right_text columns text i = behind (blanks (columns - length text)) text (columns - length text) i (length-replicate {A = ℕ} (columns - length text) 32)

-- a line of 5 and 64 columns
line_parts : (label rest : List ℕ) → line label rest ≡ label ++ (space ++ (rest ++ newline))
unfolding line
line_parts label rest = simp append_assoc

module _ (label rest : List ℕ) (five : length label ≡ 5) (sixty-four : length rest ≡ 64) where
  pub line_label : (i : ℕ) → i < 5 → get_or (line label rest) i 0 ≡ get_or label i 0
  line_label i h = rw (line_parts label rest) (get_or-append label (space ++ (rest ++ newline)) 0 i (omega (arith, five)))

  pub line_blank : get_or (line label rest) 5 0 ≡ 32
  line_blank = rw (line_parts label rest) (behind label (space ++ (rest ++ newline)) 5 0 five)

  pub line_rest : (i : ℕ) → i < 64 → get_or (line label rest) (6 + i) 0 ≡ get_or rest i 0
  line_rest i h =
      let e : 6 + i ≡ 5 + suc i = omega arith in
      rw (line_parts label rest, e) (behind label (space ++ (rest ++ newline)) 5 (suc i) five ∙ get_or-append rest newline 0 i (omega (arith, sixty-four)))

  pub line_newline : get_or (line label rest) 70 0 ≡ 10
  line_newline = rw (line_parts label rest) (behind label (space ++ (rest ++ newline)) 5 65 five ∙ behind rest newline 64 0 sixty-four)
