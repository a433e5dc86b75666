-- What the call gives, where it is refused and where it is not.
use Prim.Native.Nat.{ℕ, ◌≤◌, ◌<◌}
use mathlib.Core.Logic.{◌↔◌}
use mathlib.Core.Path.{◌≡◌, refl}
use mathlib.Core.List.{List}
use mathlib.Core.Option.{Option, none, some}
use borrow.Author.Tests.{lt-ltb, le-ltb}
use Rattle.image.specs.Image.{nets_of}
use Rattle.refusals.specs.declared.answer.Refusal.{Refusal}
use Rattle.refusals.specs.Refusals.{refusal}
use Rattle.refusals.proofs.Refusals.{accepted}
use Rattle.checking.specs.Check.{check_refusal}
use Rattle.checking.proofs.Checked.{Checked, check_none}
use Rattle.doubled.specs.Doubled.{doubled_size}
use Rattle.figures.specs.Figures.{figures_of, no_figures, size_refusal, doubled_size_of}

pub size_none : (s : List ℕ) → (size_refusal s ≡ none) ↔ (Checked s × (doubled_size (nets_of s) ≤ 8192))
unfolding size_refusal
size_none s = (λ h. simp (accepted, check_none) at h, λ h. simp (accepted, check_none) h)

module _ (s : List ℕ) where
  pub size_refused : (r : Refusal) → size_refusal s ≡ some r → doubled_size_of s ≡ no_figures r
  unfolding doubled_size_of
  size_refused r e = rw (doubled_size_of, e)

  pub size_accepted : size_refusal s ≡ none → doubled_size_of s ≡ figures_of (nets_of s)
  unfolding doubled_size_of
  size_accepted e = rw (doubled_size_of, e)

  pub size_given : (doubled_size_of s).refusal ≡ size_refusal s
  size_given = by (size_refusal s) refl
    where
      by : (o : Option Refusal) → size_refusal s ≡ o → (doubled_size_of s).refusal ≡ size_refusal s
      by none e = rw (size_accepted e, e)
      by (some r) e = rw (size_refused r e, e)

  -- by the code's tests
  pub not_checked : (r : Refusal) → check_refusal s ≡ some r → doubled_size_of s ≡ no_figures r
  unfolding size_refusal
  not_checked r e = size_refused r (rw e)

  pub too_large : check_refusal s ≡ none → 8192 < doubled_size (nets_of s) → doubled_size_of s ≡ no_figures (refusal 15 0)
  unfolding size_refusal
  too_large e h = size_refused _ (rw (e, lt-ltb _ _ h))

  pub fits : check_refusal s ≡ none → doubled_size (nets_of s) ≤ 8192 → doubled_size_of s ≡ figures_of (nets_of s)
  unfolding size_refusal
  fits e h = size_accepted (rw (e, le-ltb _ _ h))
