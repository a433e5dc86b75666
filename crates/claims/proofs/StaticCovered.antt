-- The static rule and the plain one keep covering between them, a clear static verdict makes a concrete one clear, and a static call draws what the plain call draws on bytes that
-- it covers.
use Prim.Native.Nat.{ℕ, suc, ◌+◌, ◌*◌}
use native.Mathlib.Omega.{arith}
use mathlib.Core.Path.{◌≡◌, refl}
use mathlib.Core.List.Forall₂
use mathlib.Core.List.{List}
use mathlib.Core.Option.{none}
use lib.Dec.{ltb, lit≤}
use lib.ListN.{length}
use borrow.Author.Tests.{not-true, le-ltb}
use Rattle.unknowns.specs.Filling.{no_code}
use Rattle.unknowns.specs.Covering.{Covers, CoversAll}
use Rattle.unknowns.proofs.Covered.{covers_itself, covers_gate}
use Rattle.image.specs.Image.{sizes_of}
use Rattle.image.proofs.Pairs.{pairs_length}
use Rattle.refusals.specs.Refusals.{bad_length, bad_byte}
use Rattle.refusals.proofs.Refusals.{byte_none}
use Rattle.cycle.specs.State.{with_count}
use Rattle.cycle.specs.Cycle.{plain}
use Rattle.cycle.specs.Calls.{power_up_refusal, run_refusal}
use Rattle.cycle.proofs.States.{longer_refusal, counted_refusal}
use Rattle.cycle.proofs.Cycles.{Kept, Judged, judged_clear, ClearAfter}
use Rattle.static_run.specs.StaticCalls.{static, static_power_up_refusal, static_run_refusal}

pub covers_kept : Kept static.gate plain.gate Covers
covers_kept = record { const = λ a h. covers_itself (omega arith); gate = covers_gate }

pub covers_judged : Judged static.marked plain.marked Covers ClearAfter
covers_judged = judged_clear (covers_itself (lit≤ tt)) (λ x y h. h.marks)

-- REFUSALS. Bytes that are covered, and those that cover them, of which none is refused
no_bad_code : (number i : ℕ) {xs ys : List ℕ} → CoversAll xs ys → bad_byte no_code number i xs ≡ none
unfolding bad_byte
no_bad_code number i Forall₂.nil = refl
no_bad_code number i (Forall₂.cons {a = x} h t) = rw (not-true (no_code x) h.exists, no_bad_code number (suc i) t)

no_bad_plain : (number i : ℕ) {xs ys : List ℕ} → CoversAll xs ys → bad_byte (ltb 3) number i ys ≡ none
unfolding bad_byte
no_bad_plain number i Forall₂.nil = refl
no_bad_plain number i (Forall₂.cons {b = y} h t) = rw (le-ltb 3 y h.small, no_bad_plain number (suc i) t)

same_length : (number n : ℕ) (xs ys : List ℕ) → length xs ≡ length ys → bad_length number n xs ≡ bad_length number n ys
unfolding bad_length
same_length number n xs ys h = rw h

-- so a static call draws what the plain call draws on bytes that it covers, and on the state of register bytes that it covers
pub same_refusal :
    (s : List ℕ) (k : ℕ) {st rs codes rows : List ℕ} (b b' : List ℕ) → CoversAll st rs → CoversAll codes rows → length b ≡ length b'
    → static_run_refusal s st k codes b ≡ run_refusal s (with_count rs) k rows b'
unfolding static_run_refusal run_refusal
same_refusal s k {st} {rs} {codes} {rows} b b' p q l =
    rw (
      no_bad_code 18 0 p,
      no_bad_code 18 0 q,
      counted_refusal s rs ((byte_none 11 0 rs).0 (no_bad_plain 11 0 p)),
      no_bad_plain 13 0 q,
      same_length 10 (sizes_of s).registers st rs (pairs_length p),
      same_length 12 (k * (sizes_of s).inputs) codes rows (pairs_length q),
      same_length 14 (k * (sizes_of s).outputs) b b' l,
    )

pub same_power_up : (s : List ℕ) (a a' : List ℕ) → length a' ≡ length a + 2 → static_power_up_refusal s a ≡ power_up_refusal s a'
unfolding static_power_up_refusal power_up_refusal
same_power_up s a a' l = rw (longer_refusal 10 (sizes_of s).registers a a' l)
