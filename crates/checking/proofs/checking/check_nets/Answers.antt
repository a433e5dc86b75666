-- The pass goes on from net to net, and ends at the first that is refused; behind the last net all are counted.
use Rattle.std.proofs.Common.{arith, ℕ, refl, sym, ◌∙◌, ap, ◌≤◌, ◌<◌}
use mir.Syntax.{w64}
use mir.Val.{Fits}
use Rattle.refusals.specs.Refusals.{refusal_in, refuse}
use Rattle.checking.specs.Check.{wrong_counts}
use Rattle.checking.proofs.Turns.{begins, stops, kind_passed, can_raise, goes_on, all_pass, all-counted}
use Rattle.checking.proofs.checking.check_nets.Goals as goal

pub loop-i-init : goal.loop-i-init
loop-i-init c = begins _ _ c.requires.0

pub returns-in_err-check_net : goal.returns-in_err-check_net
returns-in_err-check_net c =
    let below : c.loop-i.i < c.args.n = omega (arith, c.loop-i-test.true) in
    let refused = sym c.check_net.ensures ∙ ap refusal_in c.in_err-check_net.was in
    grind (arith, c.from_residual.ensures, stops c.loop-i.invariant below (rw c.requires.0 c.net_of-x.ensures.0) _ (refuse (wrong_counts c.args.s.now) 8 0) refused)

pub bounds-counts-x : goal.bounds-counts-x
bounds-counts-x c =
    let below : c.loop-i.i < c.args.n = omega (arith, c.loop-i-test.true) in
    kind_passed c.loop-i.invariant below (rw c.requires.0 c.net_of-x.ensures.0) c.check_net.result c.check_net.ensures c.in_ok-check_net.was

-- a number that is not large fits
small : (m : ℕ) → m ≤ 8193 → Fits w64 m
small m h = omega (arith, h)

pub overflow_add-counts : goal.overflow_add-counts
overflow_add-counts c =
    let below : c.loop-i.i < c.args.n = omega (arith, c.loop-i-test.true) in
    let kind = kind_passed c.loop-i.invariant below (rw c.requires.0 c.net_of-x.ensures.0) c.check_net.result c.check_net.ensures c.in_ok-check_net.was in
    small _ (can_raise c.loop-i.invariant c.requires.1 _ (omega (arith, kind)))

pub bounds-counts-x-in-loop-i : goal.bounds-counts-x-in-loop-i
bounds-counts-x-in-loop-i c =
    let below : c.loop-i.i < c.args.n = omega (arith, c.loop-i-test.true) in
    kind_passed c.loop-i.invariant below (rw c.requires.0 c.net_of-x.ensures.0) c.check_net.result c.check_net.ensures c.in_ok-check_net.was

pub loop-i-preserved : goal.loop-i-preserved
loop-i-preserved c =
    let below : c.loop-i.i < c.args.n = omega (arith, c.loop-i-test.true) in
    goes_on c.loop-i.invariant below (rw c.requires.0 c.net_of-x.ensures.0) c.check_net.result c.check_net.ensures c.in_ok-check_net.was

pub wrong_counts-requires : goal.wrong_counts-requires
wrong_counts-requires c =
    let all : c.args.n ≤ c.loop-i.i = omega (arith, c.loop-i-test.false) in
    (omega (arith, c.requires.2), all-counted c.requires.0 all c.loop-i.invariant)

pub returns-then-wrong_counts : goal.returns-then-wrong_counts
returns-then-wrong_counts c =
    let all : c.args.n ≤ c.loop-i.i = omega (arith, c.loop-i-test.false) in
    rw (all_pass c.requires.0 all c.loop-i.invariant, ← c.wrong_counts.ensures, c.if-wrong_counts.true, c.at.ensures) refl

pub returns : goal.returns
returns c =
    let all : c.args.n ≤ c.loop-i.i = omega (arith, c.loop-i-test.false) in
    rw (all_pass c.requires.0 all c.loop-i.invariant, ← c.wrong_counts.ensures, c.if-wrong_counts.false) refl
