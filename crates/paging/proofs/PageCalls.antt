-- What the call gives where it is accepted and where it is refused, and what is known of an accepted one.
use Prim.Native.Nat.{ℕ, ◌*◌, ◌≤◌, ◌<◌}
use native.Mathlib.Omega.{arith}
use mathlib.Core.Logic.{◌↔◌}
use mathlib.Core.Path.{◌≡◌, refl, sym, ◌∙◌}
use mathlib.Core.Bool.{Bool, true, false}
use mathlib.Core.List.{List}
use mathlib.Core.Option.{none, some}
use lib.Dec.{ltb}
use lib.ListN.{length, get_or, take, get_or-eq_default}
use borrow.Author.Tests.{ltb-true, ltb-false}
use Rattle.gates.specs.Kinds.{OUT}
use Rattle.image.specs.declared.image.Net.{Net}
use Rattle.image.specs.Image.{sizes_of, nets_of, count}
use Rattle.image.proofs.Nets.{length_nets}
use Rattle.refusals.specs.declared.answer.Refusal.{Refusal}
use Rattle.refusals.proofs.Refusals.{accepted, Codes}
use Rattle.checking.specs.Check.{check_refusal}
use Rattle.checking.proofs.Checked.{Checked, few_of}
use Rattle.cycle.proofs.Selections.{selection_length, selection_place}
use Rattle.lists.proofs.Placing.{places_selected, places_differ}
use Rattle.page_text.specs.Pages.{outs_of, pages_length}
use Rattle.page_text.proofs.PageParts.{Numbers}
use Rattle.paging.specs.Paging.{pages_of, page_refusal, page_of}

pub page_accepted : (s : List ℕ) (k : ℕ) (outputs page : List ℕ) → page_refusal s k outputs page ≡ none
    → page_of s k outputs page ≡ record { refusal = none; page = pages_of s k outputs }
unfolding page_of
page_accepted s k outputs page h = rw (h, page_of)

pub page_refused : (s : List ℕ) (k : ℕ) (outputs page : List ℕ) (r : Refusal) → page_refusal s k outputs page ≡ some r
    → page_of s k outputs page ≡ record { refusal = some r; page = page }
unfolding page_of
page_refused s k outputs page r h = rw (h, page_of)

-- an accepted call: none of 1 to 8, 9, 13, 14 and 19
pub page_none : (s : List ℕ) (k : ℕ) (outputs page : List ℕ)
    → (page_refusal s k outputs page ≡ none)
    ↔ ((check_refusal s ≡ none) × (k ≤ 4096) × Codes outputs × (length outputs ≡ k * (sizes_of s).outputs) × (length page ≡ pages_length k (sizes_of s).outputs))
unfolding page_refusal
page_none s k outputs page = (
  λ h. let a = simp accepted at h in (a.0, a.1.0, a.1.1.0, a.1.1.1.0, a.1.1.1.1),
  λ h. simp accepted (h.0, (h.1, (h.2, (h.3, h.4)))),
)

-- an accepted image has as many OUTs as it says, and at most 8,192
pub outs_length : {s : List ℕ} → Checked s → length (outs_of s) ≡ (sizes_of s).outputs
outs_length {s} image = selection_length (places_selected OUT) 0 (nets_of s) ∙ sym image.outputs

pub outs_few : {s : List ℕ} → Checked s → (sizes_of s).outputs ≤ 8192
outs_few image = omega (arith, image.outputs, few_of image OUT)

-- their net numbers have at most five digits
pub outs_numbers : {s : List ℕ} → Checked s → Numbers (outs_of s)
outs_numbers {s} image i = by (ltb i (length (outs_of s))) refl
  where
    by : (b : Bool) → ltb i (length (outs_of s)) ≡ b → get_or (outs_of s) i 0 < 100000
    by true e = omega (arith, (places_differ OUT (nets_of s)).within.below i (ltb-true _ _ e), length_nets s, image.few_nets)
    by false e = rw (get_or-eq_default (outs_of s) 0 {n = i} (ltb-false _ _ e)) (omega arith)

-- an OUT stands at the place that as many OUTs before it give
pub outs_place : (s : List ℕ) (i : ℕ) (d : Net) → i < length (nets_of s) → (get_or (nets_of s) i d).kind ≡ OUT → get_or (outs_of s) (count OUT (take i (nets_of s))) 0 ≡ i
outs_place s i d h e = selection_place (places_selected OUT) (nets_of s) i d h e
