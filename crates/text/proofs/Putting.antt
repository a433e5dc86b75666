-- Bytes that are put into a buffer one by one, and texts one behind the other.
use Prim.Native.Nat.{ℕ, suc, ◌+◌, ◌≤◌, ◌<◌}
use native.Mathlib.Omega.{arith}
use native.Mathlib.Nat.{add-zero}
use mathlib.Core.Path.{◌≡◌, refl, ap, ◌∙◌}
use mathlib.Core.Bool.{true, false}
use mathlib.Core.List.{List, [], ◌∷◌, ◌++◌, map, append-nil}
use lib.Dec.{leb}
use lib.ListN.{length, get_or, set, drop, drop_of_length-le, length-set, length-append}
use lib.Seq.{sets, sets-eq, length-sets, drop-cons, drop-length}
use borrow.Author.Tests.{leb-true, le-leb}
use Rattle.text.specs.Put.{put, did}

-- BYTE BY BYTE. The bytes f x, for each x of xs, are put into a buffer from place at on, and the first i of them stand: what is left, put behind them, gives the whole
pub record Putting (f : ℕ → ℕ) (xs begin : List ℕ) (at : ℕ) (buffer : List ℕ) (i : ℕ) : Type 0 where
  pub room : at + length xs ≤ length begin
  pub upto : i ≤ length xs
  pub long : length buffer ≡ length begin
  pub left : sets buffer (at + i) (map f (drop i xs)) ≡ sets begin at (map f xs)

module _ {f : ℕ → ℕ} {xs begin : List ℕ} {at : ℕ} where
  pub put_begins : at + length xs ≤ length begin → Putting f xs begin at begin 0
  put_begins h = record { room = h; upto = omega arith; long = refl; left = rw add-zero }

  pub put_goes_on : {buffer : List ℕ} {i : ℕ} → i < length xs → Putting f xs begin at buffer i
      → Putting f xs begin at (set buffer (at + i) (f (get_or xs i 0))) (i + 1)
  put_goes_on {buffer} {i} h p =
      let e : at + (i + 1) ≡ suc (at + i) = omega arith in
      let n : i + 1 ≡ suc i = omega arith in
      record {
        room = p.room;
        upto = omega arith;
        long = length-set buffer (at + i) (f (get_or xs i 0)) ∙ p.long;
        left = rw (e, n) (rw (drop-cons xs i 0 h) at p.left);
      }

  pub put_ends : {buffer : List ℕ} {i : ℕ} → length xs ≤ i → Putting f xs begin at buffer i → (buffer ≡ sets begin at (map f xs)) × (at + i ≡ at + length xs)
  put_ends {i = i} h p = let e : i ≡ length xs = omega (arith, p.upto) in (rw (e, drop-length) at p.left, rw e)

-- TEXT BY TEXT. A text xs was put into the buffer d at place p: it holds d' then, and the next place is p'
pub record Puts (d : List ℕ) (p : ℕ) (xs d' : List ℕ) (p' : ℕ) : Type 0 where
  pub buffer : d' ≡ sets d p xs
  pub place : p' ≡ p + length xs

-- none yet
pub puts_none : (d : List ℕ) (p : ℕ) → Puts d p [] d p
puts_none d p = record { buffer = refl; place = omega arith }

pub sets_append : (d : List ℕ) (p : ℕ) (xs ys : List ℕ) → sets (sets d p xs) (p + length xs) ys ≡ sets d p (xs ++ ys)
sets_append d p [] ys = rw add-zero
sets_append d p (x ∷ xs) ys = let e : p + suc (length xs) ≡ suc p + length xs = omega arith in rw e (sets_append (set d p x) (suc p) xs ys)

-- a text as long as the buffer fills it
pub sets_whole : (d xs : List ℕ) → length d ≡ length xs → sets d 0 xs ≡ xs
sets_whole d xs h = sets-eq xs d 0 (omega arith) ∙ ap (λ l. xs ++ l) (drop_of_length-le d {i = 0 + length xs} (omega arith)) ∙ append-nil xs

-- a line begins with a text
pub data Begins (line : List ℕ) : List ℕ → Type 0 where
  whole : Begins line line
  but : {xs : List ℕ} (ys : List ℕ) → Begins line (xs ++ ys) → Begins line xs

no_longer : {line xs : List ℕ} → Begins line xs → length xs ≤ length line
no_longer whole = omega arith
no_longer {xs = xs} (but ys h) = omega (arith, no_longer h, length-append xs ys)

module _ {d : List ℕ} {p : ℕ} {xs d' : List ℕ} {p' : ℕ} (was : Puts d p xs d' p') (ys : List ℕ) where
  -- another one behind it
  pub puts_then : {d'' : List ℕ} {p'' : ℕ} → (d'' ≡ sets d' p' ys) × (p'' ≡ p' + length ys) → Puts d p (xs ++ ys) d'' p''
  puts_then next =
      record {
        buffer = next.0 ∙ rw (was.buffer, was.place) (sets_append d p xs ys);
        place = omega (arith, next.1, was.place, length-append xs ys);
      }

  -- where there was room for a line that begins with both, there is room for it
  pub puts_room : {line : List ℕ} → Begins line (xs ++ ys) → p + length line ≤ length d → p' + length ys ≤ length d'
  puts_room b h = omega (arith, was.place, ap length was.buffer, length-sets d p xs, no_longer b, length-append xs ys)

-- A WHOLE LINE, whose length was counted: it is put where it fits, and nothing is changed otherwise
module _ (d : List ℕ) (p : ℕ) (line : List ℕ) {n : ℕ} (counted : n ≡ length line) where
  pub line_fits : leb (p + n) (length d) ≡ true → p + length line ≤ length d
  line_fits h = let l = leb-true (p + n) (length d) h in omega (arith, counted, l)

  pub line_put : {d' : List ℕ} {p' : ℕ} → leb (p + n) (length d) ≡ true → d' ≡ sets d p line → p' ≡ p + length line → did d' p' ≡ put d p line
  unfolding put
  line_put h e f = rw (e, f, rw counted at h)

  pub line_left : leb (p + n) (length d) ≡ false → did d p ≡ put d p line
  unfolding put
  line_left h = rw (rw counted at h)

-- a line that fits is put
pub put_fits : (d : List ℕ) (p : ℕ) (line : List ℕ) → p + length line ≤ length d → put d p line ≡ did (sets d p line) (p + length line)
unfolding put
put_fits d p line h = rw (le-leb (p + length line) (length d) h)

-- PART BY PART. A text is put into the buffer `begin` at place `at`, and some parts of it are left: put behind what stands, they give the whole
abbrev pub joined : List (List ℕ) → List ℕ
joined [] = []
joined (xs ∷ parts) = xs ++ joined parts

pub record Left (begin : List ℕ) (at : ℕ) (text buffer : List ℕ) (place : ℕ) (parts : List (List ℕ)) : Type 0 where
  pub long : length buffer ≡ length begin
  pub ends : place + length (joined parts) ≡ at + length text
  pub is : sets buffer place (joined parts) ≡ sets begin at text

module _ {begin : List ℕ} {at : ℕ} {text : List ℕ} where
  -- all of it, as its parts
  pub left_all : {parts : List (List ℕ)} → text ≡ joined parts → Left begin at text begin at parts
  left_all e = record { long = refl; ends = rw e; is = rw e }

  module _ {buffer : List ℕ} {place : ℕ} where
    -- as other parts
    pub left_as : {parts others : List (List ℕ)} → joined parts ≡ joined others → Left begin at text buffer place parts → Left begin at text buffer place others
    left_as e l = record { long = l.long; ends = rw e at l.ends; is = rw e at l.is }

    -- nothing is left
    pub left_none : Left begin at text buffer place [] → (buffer ≡ sets begin at text) × (place ≡ at + length text)
    left_none l = (l.is, omega (arith, l.ends))

    module _ {xs : List ℕ} {parts : List (List ℕ)} (l : Left begin at text buffer place (xs ∷ parts)) where
      -- there is room for the next part where there was room for the text
      pub left_room : at + length text ≤ length begin → place + length xs ≤ length buffer
      left_room h = omega (arith, l.long, l.ends, length-append xs (joined parts))

      -- the next part is put
      pub left_then : {buffer' : List ℕ} {place' : ℕ} → buffer' ≡ sets buffer place xs → place' ≡ place + length xs → Left begin at text buffer' place' parts
      left_then e f =
          record {
            long = ap length e ∙ length-sets buffer place xs ∙ l.long;
            ends = omega (arith, f, l.ends, length-append xs (joined parts));
            is = rw (e, f, sets_append buffer place xs (joined parts)) l.is;
          }
