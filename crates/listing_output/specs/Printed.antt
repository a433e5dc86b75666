-- What the listing program prints, line by line: the text in which lines are gathered, and where the next line goes in it. `sets d p ys` is d with the bytes ys from place p on.
use Rattle.std.specs.Prelude.{ℕ, ◌+◌, ◌-◌, ◌≤◌, ◌≡◌, List, Bool, true, false, cond, ltb, length}
use Rattle.std.proofs.lemmas.List.Edits.{sets}
use denote.Ref.{MutBor}
use denote.Param.Members.{Once}
use Rattle.cycle.specs.Cycle.{Verdict}
use Rattle.text.specs.Put.{put, did}
use Rattle.listing_text.specs.Lines.{cycle_line}
use Rattle.listing_output.specs.declared.output.Progress.{Progress}

-- how far the printing has come: the text, how many of its bytes are lines, the count of cycles, and whether a line may follow
pub record Printed : Type 0 where
  pub text : List ℕ
  pub used : ℕ
  pub cycles : ℕ
  pub goes_on : Bool

-- what the code holds of it
abbrev pub printed : (text : List ℕ) → Progress → Printed
printed text p = record { text = text; used = p.used; cycles = p.cycles; goes_on = p.open }

-- nothing is printed yet
abbrev pub blank : (text : List ℕ) → Printed
blank text = record { text = text; used = 0; cycles = 0; goes_on = true }

-- the place of the next line in a text of n bytes, of which `used` are lines: behind them; or 0 where fewer than 8,240 bytes, the longest line, are left, since the text is written out first
unfoldable pub next_place : (n used : ℕ) → ℕ
next_place n used = cond (ltb (n - used) 8240) 0 used

abbrev pub place_in : Printed → ℕ
place_in p = next_place (length p.text) p.used

-- a line at the next place
abbrev pub with_line : (line : List ℕ) → Printed → Printed
with_line line p = record { text = sets p.text (place_in p) line; used = place_in p + length line; cycles = p.cycles; goes_on = p.goes_on }

-- the line of the next cycle
unfoldable pub with_cycle : (outputs : List ℕ) → Verdict → Printed → Printed
with_cycle outputs v p =
    let q = with_line (cycle_line p.cycles outputs v) p in
    record { text = q.text; used = q.used; cycles = q.cycles + 1; goes_on = q.goes_on }

-- the text is written out, and no line follows
abbrev pub closed : Printed → Printed
closed p = record { text = p.text; used = 0; cycles = p.cycles; goes_on = false }

-- a last line
unfoldable pub with_last : (line : List ℕ) → Printed → Printed
with_last line p = closed (with_line line p)

-- the lines that are written out are the first of the text, and the text has room for the longest line
pub record Room (text : List ℕ) (p : Progress) : Type 0 where
  pub written : p.written ≤ p.used
  pub used : p.used ≤ length text
  pub longest : 8240 ≤ length text

-- lines of k cycles are printed. A failure stays
pub record Grown (text : List ℕ) (k : ℕ) (before after : Progress) : Type 0 where
  pub room : Room text after
  pub cycles : after.cycles ≡ before.cycles + k
  pub failed : before.failed ≡ true → after.failed ≡ true

-- a call of f, at a text and a place, puts a line of at most 8,240 bytes there
abbrev pub Puts : {F : Type 0} → Once F (MutBor (List ℕ) × (ℕ × Unit {0})) (ℕ × (MutBor (List ℕ) × Unit {0})) → F → (line : List ℕ) → Type 0
Puts g f line =
    (length line ≤ 8240)
    × ((before after : MutBor (List ℕ)) (at used : ℕ) → g.post f (before, (at, tt)) (used, (after, tt)) → did after.now used ≡ put before.now at line)
