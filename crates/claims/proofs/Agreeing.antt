-- Bytes that agree: they agree with themselves, they are codes alike, and they are the bytes that differ at most in the values of marked ones.
use Prim.Native.Nat.{ℕ, ◌+◌, ◌≤◌}
use native.Mathlib.Omega.{arith}
use mathlib.Core.Path.{◌≡◌, refl, sym, ap, ap₂, ◌∙◌}
use mathlib.Core.List.{List}
use lib.Dec.{lit≤}
use lib.ListN.{length, get_or, take, drop, length-append, take-append-drop}
use Rattle.gates.specs.Relations.{AgreeByte, same, low_high, high_low, Agree}
use Rattle.gates.proofs.Laws.{Code}
use Rattle.gates.proofs.Meaning.{agree_means, relations_mean}
use Rattle.image.proofs.Pairs.{pairs_refl, pairs_get_or, pairs_length, pairs_places}
use Rattle.refusals.proofs.Refusals.{Codes}
use Rattle.cycle.specs.State.{registers_in, AgreeStates}
use Rattle.claims.specs.InBytes.{SameMarks, SameStates}

pub agree_refl : (xs : List ℕ) → Agree xs xs
agree_refl = pairs_refl (λ x. same)

agree_code : {x y : ℕ} → x ≤ 3 → AgreeByte x y → y ≤ 3
agree_code h same = h
agree_code h low_high = lit≤ tt
agree_code h high_low = lit≤ tt

pub codes_agree : {xs ys : List ℕ} → Codes xs → Agree xs ys → Codes ys
codes_agree {ys = ys} c a = pairs_places ys ys 0 refl (λ i l. agree_code (pairs_get_or {R = Code} i 0 (lit≤ tt) c) (pairs_get_or i 0 same a))

-- BYTES that differ at most in the values of marked ones are bytes that agree, where they are codes
pub marks_agree : {xs : List ℕ} (ys : List ℕ) → Codes xs → SameMarks xs ys → Agree xs ys
marks_agree {xs} ys c h =
    pairs_places xs ys 0 h.size
    (λ i l.
    let low : get_or xs i 0 ≤ 3 = pairs_get_or i 0 (lit≤ tt) c in
    let m = h.marks i l in
    (relations_mean.agree (get_or xs i 0) (get_or ys i 0) low (omega arith)).1 (m, h.values i l))

pub agree_marks : {xs ys : List ℕ} → Agree xs ys → SameMarks xs ys
agree_marks a =
    record {
      size = pairs_length a;
      marks = λ i l. (agree_means (pairs_get_or i 0 same a)).0;
      values = λ i l. (agree_means (pairs_get_or i 0 same a)).1;
    }

-- STATES likewise, which are equally long
pub parts_length : (n : ℕ) (xs ys : List ℕ) → length (take n xs) ≡ length (take n ys) → drop n xs ≡ drop n ys → length xs ≡ length ys
parts_length n xs ys h e =
    ap length (sym (take-append-drop n xs)) ∙ length-append (take n xs) (drop n xs)
    ∙ ap₂ ◌+◌ h (ap length e)
    ∙ sym (length-append (take n ys) (drop n ys)) ∙ ap length (take-append-drop n ys)

pub marks_agree_states : {s st : List ℕ} (st' : List ℕ) → Codes (registers_in s st) → SameStates s st st' → AgreeStates s st st'
marks_agree_states {s} st' c h = record { registers = marks_agree (registers_in s st') c h.registers; counts = h.counts }

pub agree_marks_states : {s st st' : List ℕ} → AgreeStates s st st' → SameStates s st st'
agree_marks_states a = record { registers = agree_marks a.registers; counts = a.counts }
