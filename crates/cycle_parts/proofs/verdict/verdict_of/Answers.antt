-- `cycle_parts::verdict::verdict_of` meets its contract: each net decides, or leaves the verdict to the nets above it.
use Rattle.std.proofs.Common.{ℕ, ◌≡◌, ◌+◌, ◌<◌, ◌&&◌, Bool, List, [], cond, eqb, get_or, refl, sym, ap, ◌∙◌, add-one, arith}
use Rattle.gates.specs.Kinds.{OUT}
use Rattle.gates.specs.Rules.{mark}
use Rattle.image.specs.Image.{sizes_of, kind_at, operand_at, net_at}
use Rattle.image.proofs.Nets.{nets_left, nets_next, nets_done, nets_left_lem}
use Rattle.checking.proofs.Checked.{check_none}
use Rattle.cycle.specs.Cycle.{clear, flow, verdict_from}
use Rattle.cycle_parts.proofs.verdict.verdict_of.Goals as goal

-- what `flows` says of net i
abbrev Flows : (s : List ℕ) (i : ℕ) (bs : List ℕ) → Bool
Flows s i bs = eqb (kind_at s i) OUT && eqb (operand_at s (sizes_of s).nets i 1) 1 && mark (get_or bs i 0)

-- the net at hand decides, or leaves the verdict to the nets above
this_net : (s : List ℕ) (n i : ℕ) (bs : List ℕ) → n ≡ (sizes_of s).nets → i < n
    → verdict_from mark i (nets_left s n i) bs ≡ cond (Flows s i bs) (flow i) (verdict_from mark (i + 1) (nets_left s n (i + 1)) bs)
unfolding verdict_from net_at
this_net s n i bs e h = rw (nets_next s n i h, add-one i, e)

nothing_left : (i : ℕ) (bs : List ℕ) → verdict_from mark i [] bs ≡ clear
unfolding verdict_from
nothing_left i bs = refl

pub loop-i-init : goal.loop-i-init
loop-i-init c = (ap (λ xs. verdict_from mark 0 xs c.args.nets.now) (sym (nets_left_lem c.args.image.now _ c.requires.n_value.0)), refl)

pub flows-requires : goal.flows-requires
flows-requires c =
    let size = c.requires.n_value in
    (rw (← size.0) c.loop-i-test.true, ((check_none _).0 c.requires.image_value).exact, rw size.1 c.loop-i-test.true)

pub loop-i-preserved : goal.loop-i-preserved
loop-i-preserved c =
    let here = this_net c.args.image.now c.args.n c.loop-i.i c.args.nets.now c.requires.n_value.0 c.loop-i-test.true in
    (c.loop-i.invariant.0 ∙ (rw (← c.flows.ensures, c.if-flows.false) at here), c.loop-i.invariant.1)

pub returns-then-flows : goal.returns-then-flows
returns-then-flows c =
    let here = this_net c.args.image.now c.args.n c.loop-i.i c.args.nets.now c.requires.n_value.0 c.loop-i-test.true in
    sym (c.loop-i.invariant.0 ∙ (rw (← c.flows.ensures, c.if-flows.true) at here))

pub returns-after-loop-i : goal.returns-after-loop-i
returns-after-loop-i c =
    c.loop-i.invariant.1 ∙ sym (c.loop-i.invariant.0 ∙ rw (nets_done c.args.image.now c.args.n c.loop-i.i (omega (arith, c.loop-i-test.false)), nothing_left))
