-- The three ways in which a listing goes.
use Prim.Native.Nat.{ℕ, ◌≤◌}
use native.Mathlib.Omega.{arith}
use mathlib.Core.Path.{◌≡◌, refl, sym, ap, ◌∙◌}
use mathlib.Core.Bool.{true}
use mathlib.Core.List.{List, []}
use mathlib.Core.Option.{none, some}
use lib.ListN.{length, replicate, length-replicate}
use borrow.Author.Tests.{eqb-true, eq-eqb, ne_eqb}
use Rattle.image.specs.declared.image.Sizes.{Sizes}
use Rattle.image.specs.Image.{sizes_of, nets_of}
use Rattle.refusals.specs.declared.answer.Refusal.{Refusal}
use Rattle.checking.specs.Check.{check_refusal}
use Rattle.checking.proofs.Checked.{check_none}
use Rattle.cycle.specs.State.{state_length, with_count}
use Rattle.cycle.specs.Calls.{PoweredUp, power_up_of, starts}
use Rattle.cycle.proofs.Calls.{powered_up_lem}
use Rattle.listing_text.specs.Lines.{end_line, refused_line}
use Rattle.listing_output.specs.declared.output.Progress.{Progress}
use Rattle.listing_output.specs.Printed.{Printed, printed, blank, with_last, Room}
use Rattle.listing_rows.specs.Rows.{rows_of, with_rows, with_end}
use Rattle.listing_rows.specs.Taken.{Held, Holds}
use Rattle.listing_turns.specs.Reading.{Lists}
use Rattle.listing.specs.Listing.{at_power_up, reads_none, listing_of, lines_of, listing_text, Listing}
use Rattle.listing.proofs.AsText.{last_there, lines_text}

-- nothing is printed yet
pub blank_is : (text : List ℕ) (p : Progress) → p.cycles ≡ 0 → p.used ≡ 0 → p.open ≡ true → printed text p ≡ blank text
blank_is text p n u o = cc

-- the text has room then
pub blank_room : (text : List ℕ) (p : Progress) → p.used ≡ 0 → p.written ≡ 0 → 8240 ≤ length text → Room text p
blank_room text p u w h = record { written = omega (arith, u, w); used = omega (arith, u); longest = h }

-- end, with no cycle
pub end_blank : (text : List ℕ) (p : Progress) → p.cycles ≡ 0 → p.used ≡ 0 → p.open ≡ true → with_last (end_line p.cycles) (printed text p) ≡ with_last (end_line 0) (blank text)
end_blank text p n u o = cc

module _ (s text : List ℕ) where
  -- a listing of one line
  one_line : {line : List ℕ} {p : Printed} → with_last line (blank text) ≡ listing_of s [] text → listing_text s [] ≡ line → p ≡ with_last line (blank text) → Listing s text p
  one_line {line} {p} e t f =
      record {
        input = [];
        is = f ∙ e;
        fits = λ h. rw t (ap (λ (x : Printed). x.text) f ∙ last_there line text 0 0 (let k = rw t at h in omega arith));
      }

  pub listing_refused : {r : Refusal} → check_refusal s ≡ some r → with_last (refused_line r) (blank text) ≡ listing_of s [] text
  unfolding listing_of
  listing_refused h = rw (h, listing_of)

  pub refused_only : {r : Refusal} {p : Printed} → check_refusal s ≡ some r → p ≡ with_last (refused_line r) (blank text) → Listing s text p
  unfolding listing_text
  refused_only h f = one_line (listing_refused h) (rw (h, listing_text)) f

  module _ (accepted : check_refusal s ≡ none) where
    pub reads_none_lem : reads_none s ≡ true → (sizes_of s).inputs ≡ 0
    unfolding reads_none
    reads_none_lem h = eqb-true (sizes_of s).inputs 0 (rw (accepted, reads_none) at h)

    pub listing_end : (sizes_of s).inputs ≡ 0 → with_last (end_line 0) (blank text) ≡ listing_of s [] text
    unfolding listing_of
    listing_end e = rw (accepted, eq-eqb (sizes_of s).inputs 0 e, listing_of)

    pub end_only : {p : Printed} → (sizes_of s).inputs ≡ 0 → p ≡ with_last (end_line 0) (blank text) → Listing s text p
    unfolding listing_text
    end_only e f = one_line (listing_end e) (rw (accepted, eq-eqb (sizes_of s).inputs 0 e, listing_text)) f

    pub listing_rows : {z : Sizes} {after : Held} (st : List ℕ) → z ≡ sizes_of s → (z.inputs ≡ 0 → ⊥) → length st ≡ state_length z
        → Lists s z.inputs (record { state = (power_up_of s st).state; printed = blank text }) after
        → Listing s text after.printed
    unfolding listing_of listing_text
    listing_rows {z} {after} st e i l lists =
        let up : (power_up_of s st).state ≡ with_count (starts (nets_of s)) = ap (λ (p : PoweredUp). p.state) (powered_up_lem s st ((check_none s).0 accepted) (rw e at l)) in
        let begin : Holds s (record { state = (power_up_of s st).state; printed = blank text }) (at_power_up s text) = record { state = sym up; printed = refl; outputs = length-replicate (sizes_of s).outputs 0 } in
        let j : (sizes_of s).inputs ≡ 0 → ⊥ = rw e at i in
        let rows = rows_of (sizes_of s).inputs lists.input in
        let f : after.printed ≡ (with_end (with_rows s (sizes_of s).inputs rows (at_power_up s text))).printed = rw e at (sym (lists.ended.leads (at_power_up s text) begin).printed) in
        let t : listing_text s lists.input ≡ lines_of s (sizes_of s).inputs 0 (with_count (starts (nets_of s))) (replicate (sizes_of s).outputs 0) rows =
        rw (accepted, ne_eqb (sizes_of s).inputs 0 j, listing_text) in
        record {
          input = lists.input;
          is = f ∙ rw (accepted, ne_eqb (sizes_of s).inputs 0 j, listing_of);
          fits = λ h.
              rw t
              (ap (λ (x : Printed). x.text) f
              ∙ lines_text s (sizes_of s).inputs rows (with_count (starts (nets_of s))) (replicate (sizes_of s).outputs 0) text 0 0 (let k = rw t at h in omega arith));
        }
