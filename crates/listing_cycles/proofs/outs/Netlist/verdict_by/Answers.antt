-- Each OUT is a net of the image; one that draws no flow leaves the verdict to those after it.
use Rattle.std.proofs.Common.{arith, refl, ap, ◌≡◌, ◌∙◌, ◌+◌, ◌*◌, ℕ, Bool, true, false, length}
use Rattle.gates.specs.Rules.{bit, mark}
use Rattle.checking.proofs.Checked.{check_none}
use Rattle.listing_cycles.proofs.Verdicts.{outs_nets, nets_left, verdict_passed}
use Rattle.listing_cycles.proofs.outs.Netlist.verdict_by.Goals as goal

-- where the policy is 1 and the two make no 3, the mark is 0
unmarked : {policy m : ℕ} (marked : Bool) → policy ≡ 1 → m ≡ bit marked → (2 * policy + m ≡ 3 → ⊥) → marked ≡ false
unmarked false e f other = refl
unmarked true e f other = absurd (other (omega (arith, e, f)))

pub loop-i-init : goal.loop-i-init
loop-i-init c =
    let e = c.into_iter-i-iterator.ensures.into_iter_gives in
    let a : c.into_iter-i-iterator.result.a.rest.now ≡ c.args.self.outs.now = cc (e, c.zip-i-items.ensures.first, c.iter.ensures.rest) in
    let b : c.into_iter-i-iterator.result.b.rest.now ≡ c.args.bytes.now = cc (e, c.zip-i-items.ensures.second.0) in
    record { nets = rw a (outs_nets c.args.self.known.outs); size = rw (a, b) c.requires; left = rw (a, b) }

pub operand_of-requires : goal.operand_of-requires
operand_of-requires c =
    let step = c.in-Some.ensures in
    let below = (nets_left step.steps.0 c.loop-i.invariant.nets).0 in
    (rw c.from-i.ensures below, omega arith, ((check_none _).0 c.args.self.known.outs.accepted).exact)

pub loop-i-preserved : goal.loop-i-preserved
loop-i-preserved c =
    let step = c.in-Some.ensures in
    let inv = c.loop-i.invariant in
    record {
      nets = (nets_left step.steps.0 inv.nets).1;
      size = omega (arith, ap length step.steps.0, ap length step.steps.1, inv.size);
      left = verdict_passed _ step.steps.0 step.steps.1
          (λ e.
          let one : c.operand_of.result ≡ 1 = cc (e, c.operand_of.ensures.0, c.from-i.ensures) in
          unmarked (mark c.in-Some.byte.now) (omega (arith, one)) (c.from.ensures ∙ c.mark_bit.ensures.0) c.if-operand_of-from-eq3.false)
          ∙ inv.left;
    }
