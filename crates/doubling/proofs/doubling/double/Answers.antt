-- A refusal leaves the buffer; else it has the doubled image, which is checked again.
use Rattle.std.proofs.Common.{rules, arith, ◌≡◌, ◌+◌, ◌*◌, ◌≤◌, ℕ, List, get_or, length, not, eqb, ltb, Result, Ok, Err, is_err, true, false, replicate}
use mathlib.Core.Path.{refl, ap, sym, ◌∙◌}
use Rattle.std.proofs.Math.Option.{Option, none, some}
use Rattle.image.specs.declared.image.Sizes.{Sizes}
use Rattle.image.specs.Image.{sizes_of, nets_of}
use Rattle.image.proofs.Nets.{length_nets}
use Rattle.refusals.specs.declared.answer.Refusal.{Refusal}
use Rattle.refusals.specs.Refusals.{◌then◌, refusal_in, refuse, bad_length}
use Rattle.refusals.proofs.Refusals.{passed, turned}
use Rattle.checking.specs.Check.{check_refusal}
use Rattle.checking.proofs.Checked.{Checked, check_none}
use Rattle.doubled.specs.Doubled.{doubled_size}
use Rattle.doubled.specs.Starts.{Starts}
use Rattle.doubled.proofs.Positions.{value_end}
use Rattle.doubling.specs.Doubling.{double_refusal}
use Rattle.doubling.proofs.Checks.{double_none, double_refused, double_passed, double_failed}
use Rattle.doubling.proofs.doubling.double.Goals as goal

-- the doubled size stands behind the last start
size_is : {s : List ℕ} {z : Sizes} (starts : List ℕ) → Checked s → z ≡ sizes_of s → Starts starts (nets_of s) → get_or starts z.nets 0 ≡ doubled_size (nets_of s)
size_is {s} {z} starts image e h =
    let n = ap (λ (z : Sizes). z.nets) e in
    h z.nets (rw e image.few_nets) ∙ value_end (nets_of s) _ (omega (arith, n, length_nets s))

-- the chain of refusals, past checking
chain : (s d : List ℕ) {size : ℕ} {q : Option Refusal} → check_refusal s ≡ none → size ≡ doubled_size (nets_of s)
    → q ≡ (refuse (ltb 8192 size) 15 0 then refuse (not (eqb (length d) (8 + 7 * size))) 16 0) → double_refusal s d ≡ q
unfolding double_refusal bad_length
chain s d accepted size e = rw (accepted, ← size) (sym e)

pub returns-in_err-check : goal.returns-in_err-check
unfolding double_refusal
returns-in_err-check c =
    let refused = turned c.check.result c.check.ensures c.in_err-check.was in
    let back = double_refused c.args.image.now c.args.buffer.now c.in_err-check.field-0.0 (rw refused refl) in
    grind (arith, c.from_residual.ensures, back)

pub sizes_of-z-requires : goal.sizes_of-z-requires
sizes_of-z-requires c = omega (arith, ((check_none _).0 (passed c.check.result c.check.ensures c.in_ok-check.was)).exact)

pub offset_bounds-starts-z : goal.offset_bounds-starts-z
offset_bounds-starts-z c =
    let few : c.sizes_of-z.result.nets ≤ 8192 = rw c.sizes_of-z.ensures ((check_none _).0 (passed c.check.result c.check.ensures c.in_ok-check.was)).few_nets in
    omega (arith, few)

pub bounds-starts-z : goal.bounds-starts-z
bounds-starts-z c =
    let few : c.sizes_of-z.result.nets ≤ 8192 = rw c.sizes_of-z.ensures ((check_none _).0 (passed c.check.result c.check.ensures c.in_ok-check.was)).few_nets in
    omega (arith, few)

pub returns-in_err-room_refusal : goal.returns-in_err-room_refusal
returns-in_err-room_refusal c =
    let accepted = passed c.check.result c.check.ensures c.in_ok-check.was in
    let size = c.from-size.ensures ∙ size_is c.starts_of-starts.result ((check_none _).0 accepted) c.sizes_of-z.ensures c.starts_of-starts.ensures in
    let refusal = chain c.args.image.now c.args.buffer.now accepted size c.room_refusal.ensures in
    let back = double_refused c.args.image.now c.args.buffer.now _ (refusal ∙ ap refusal_in c.in_err-room_refusal.was) in
    grind (arith, c.from_residual-in_err-room_refusal.ensures, back)

pub write_image-requires-clause-size_value : goal.write_image-requires-clause-size_value
write_image-requires-clause-size_value c =
    let accepted = passed c.check.result c.check.ensures c.in_ok-check.was in
    let size = c.from-size.ensures ∙ size_is c.starts_of-starts.result ((check_none _).0 accepted) c.sizes_of-z.ensures c.starts_of-starts.ensures in
    let ready = (double_none _ _).0 (chain c.args.image.now c.args.buffer.now accepted size c.room_refusal.ensures ∙ ap refusal_in c.in_ok-room_refusal.was) in
    (size, omega (arith, size, ready.1), omega (arith, size, ready.2))

-- what the second check says
refused_again : (o : Result (Unit {0}) Refusal) {p : Option Refusal} → refusal_in o ≡ p → is_err o ≡ true → (r : Refusal) × (p ≡ some r)
refused_again (Err r) tried bad = (r, sym tried)
refused_again (Ok done) tried bad = absurd (cc)

accepted_again : (o : Result (Unit {0}) Refusal) {p : Option Refusal} → refusal_in o ≡ p → is_err o ≡ false → p ≡ none
accepted_again (Err r) tried well = absurd (cc)
accepted_again (Ok done) tried well = sym tried

pub returns-then-is_err : goal.returns-then-is_err
returns-then-is_err c =
    let accepted = passed c.check.result c.check.ensures c.in_ok-check.was in
    let size = c.from-size.ensures ∙ size_is c.starts_of-starts.result ((check_none _).0 accepted) c.sizes_of-z.ensures c.starts_of-starts.ensures in
    let fits = chain c.args.image.now c.args.buffer.now accepted size c.room_refusal.ensures ∙ ap refusal_in c.in_ok-room_refusal.was in
    let again = c.check-2.ensures ∙ ap check_refusal c.write_image.ensures in
    let bad = refused_again c.check-2.result again (sym c.is_err.ensures.value ∙ c.if-is_err.true) in
    let zeros : c.fill.new.self ≡ replicate (length c.args.buffer.now) 0 = search (rules, c.fill.ensures.after, c.write_image.auto.d) in
    rw (c.at.ensures, zeros) (sym (double_failed _ _ fits bad.0 bad.1))

pub returns : goal.returns
returns c =
    let accepted = passed c.check.result c.check.ensures c.in_ok-check.was in
    let size = c.from-size.ensures ∙ size_is c.starts_of-starts.result ((check_none _).0 accepted) c.sizes_of-z.ensures c.starts_of-starts.ensures in
    let fits = chain c.args.image.now c.args.buffer.now accepted size c.room_refusal.ensures ∙ ap refusal_in c.in_ok-room_refusal.was in
    let again = c.check-2.ensures ∙ ap check_refusal c.write_image.ensures in
    rw c.write_image.ensures (sym (double_passed _ _ fits (accepted_again c.check-2.result again (sym c.is_err.ensures.value ∙ c.if-is_err.false))))
