-- Where the next line goes in the text, and that a line is put there.
use Prim.Native.Nat.{ℕ, ◌+◌, ◌-◌, ◌≤◌}
use native.Mathlib.Omega.{arith}
use mathlib.Core.Path.{◌≡◌, refl, ap, ◌∙◌}
use mathlib.Core.Bool.{Bool, true, false, cond}
use mathlib.Core.List.{List}
use lib.Dec.{ltb}
use lib.ListN.{length}
use lib.Seq.{sets, length-sets}
use borrow.Author.Tests.{ltb-false, le-ltb}
use Rattle.refusals.specs.declared.answer.Refusal.{Refusal}
use Rattle.cycle.specs.Cycle.{Verdict}
use Rattle.text.specs.Put.{Put, put, did}
use Rattle.text.proofs.Decimal.{decimal_most}
use Rattle.text.proofs.Putting.{put_fits}
use Rattle.listing_text.specs.Lines.{cycle_line, end_line, refused_line}
use Rattle.listing_text.proofs.Lengths.{end_length, refused_length}
use Rattle.listing_output.specs.declared.output.Progress.{Progress}
use Rattle.listing_output.specs.Printed.{Printed, printed, next_place, place_in, with_cycle, with_last, Room}

-- the next line goes behind those that are there where the longest line fits
pub next_behind : (n used : ℕ) → 8240 ≤ n - used → next_place n used ≡ used
unfolding next_place
next_behind n used h = rw (le-ltb (n - used) 8240 h)

-- at the next place the longest line has room
next_room : (n used : ℕ) → 8240 ≤ n → used ≤ n → next_place n used + 8240 ≤ n
unfolding next_place
next_room n used h k = by (ltb (n - used) 8240) refl
  where
    by : (b : Bool) → ltb (n - used) 8240 ≡ b → cond b 0 used + 8240 ≤ n
    by true t = h
    by false t = let l = ltb-false (n - used) 8240 t in omega arith

-- a line of at most 8,240 bytes is put at the next place of a text with room, and ends within it
module _ (before : List ℕ) (p : Progress) (line : List ℕ) (room : Room before p) {at : ℕ} (next : at ≡ place_in (printed before p))
    {text : List ℕ} {used : ℕ} (few : length line ≤ 8240) (e : did text used ≡ put before at line) where
  next_put : (text ≡ sets before (place_in (printed before p)) line) × (used ≡ place_in (printed before p) + length line)
  next_put =
      let fits = next_room (length before) p.used room.longest room.used in
      let f : did text used ≡ did (sets before (place_in (printed before p)) line) (place_in (printed before p) + length line) =
      e ∙ rw next (put_fits before (place_in (printed before p)) line (omega arith)) in
      (ap (λ (x : Put). x.buffer) f, ap (λ (x : Put). x.place) f)

  long : length text ≡ length before
  long = ap length next_put.0 ∙ length-sets before (place_in (printed before p)) line

  -- behind what is written out
  pub put_within : {written : ℕ} → written ≤ at → (written ≤ used) × (used ≤ length text)
  put_within w = let fits = next_room (length before) p.used room.longest room.used in (omega (arith, next, next_put.1), omega (arith, long, next_put.1))

  pub put_room : {q : Progress} → q.written ≤ at → q.used ≡ used → Room text q
  put_room w u = let h = put_within w in record { written = rw u h.0; used = rw u h.1; longest = omega (arith, long, room.longest) }

  -- the line of a cycle is put
  pub cycle_put : (outputs : List ℕ) (v : Verdict) {n : ℕ} {o : Bool} → line ≡ cycle_line p.cycles outputs v → n ≡ p.cycles → o ≡ p.open
      → record { text = text; used = used; cycles = n + 1; goes_on = o } ≡ with_cycle outputs v (printed before p)
  unfolding with_cycle
  cycle_put outputs v l i j = rw (next_put.0, next_put.1, l, i, j)

  -- a last line is written out
  pub last_put : {q : Printed} {n : ℕ} → n ≡ p.cycles → q ≡ record { text = text; used = 0; cycles = n; goes_on = false } → q ≡ with_last line (printed before p)
  unfolding with_last
  last_put i f = f ∙ rw (i, next_put.0)

-- a last line leaves an empty text
pub last_leaves : (line before : List ℕ) {text : List ℕ} (p q : Progress) → printed text q ≡ with_last line (printed before p) → (q.used ≡ 0) × (q.cycles ≡ p.cycles)
unfolding with_last
last_leaves line before p q e = (ap (λ (x : Printed). x.used) e, ap (λ (x : Printed). x.cycles) e)

-- the last lines are short
pub end_most : (cycles : ℕ) → length (end_line cycles) ≤ 8240
end_most cycles = omega (arith, end_length cycles, decimal_most cycles)

pub refused_most : (r : Refusal) → length (refused_line r) ≤ 8240
refused_most r = omega (arith, refused_length r, decimal_most r.number, decimal_most r.place)
