-- `settling::settling::settle_from` meets its contract: a turn settles one net more.
use Rattle.std.proofs.Common.{◌+◌, ◌*◌, ◌≡◌, ◌<◌, ◌∙◌, ap, add-one, arith}
use Rattle.image.specs.declared.image.Sizes.{Sizes}
use Rattle.image.specs.Image.{sizes_of}
use Rattle.checking.proofs.Checked.{Checked, check_none}
use Rattle.settling.proofs.Gatewise.{settle_next, settled_at_lem}
use Rattle.settling.proofs.settling.settle_from.Goals as goal

pub sizes_of-n-requires : goal.sizes_of-n-requires
sizes_of-n-requires g c = let known : Checked c.args.image.now = (check_none _).0 c.requires.image_value.0 in omega (arith, known.exact)

-- four nets further
pub loop-four-preserved : goal.loop-four-preserved
loop-four-preserved g c =
    let far : c.loop-j.j ≡ c.args.from + 4 * (c.loop-four.four + 1) = omega (arith, c.loop-j-test.false, c.loop-j.auto.j-end) in
    settled_at_lem far c.loop-j.invariant

pub loop-j-preserved : goal.loop-j-preserved
loop-j-preserved g c =
    let known : Checked c.args.image.now = (check_none _).0 c.requires.image_value.0 in
    let nets : c.sizes_of-n.result.nets ≡ (sizes_of c.args.image.now).nets = ap (λ (z : Sizes). z.nets) c.sizes_of-n.ensures in
    let below : c.loop-j.j < (sizes_of c.args.image.now).nets = omega (arith, c.loop-four-test.true, c.loop-j-test.true) in
    settle_next known below (c.loop-j.invariant.size ∙ c.requires.image_value.1) c.loop-j.invariant c.settle.ensures (add-one c.loop-j.j)

pub loop-j-2-preserved : goal.loop-j-2-preserved
loop-j-2-preserved g c =
    let known : Checked c.args.image.now = (check_none _).0 c.requires.image_value.0 in
    let nets : c.sizes_of-n.result.nets ≡ (sizes_of c.args.image.now).nets = ap (λ (z : Sizes). z.nets) c.sizes_of-n.ensures in
    let below : c.loop-j-2.j < (sizes_of c.args.image.now).nets = omega (arith, c.loop-j-2-test.true) in
    settle_next known below (c.loop-j-2.invariant.size ∙ c.requires.image_value.1) c.loop-j-2.invariant c.settle-in-loop-j-2.ensures (add-one c.loop-j-2.j)
