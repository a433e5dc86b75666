-- The starts give the value and mark nets of the net and of its pins.
use Rattle.std.proofs.Common.{◌∙◌, ℕ, List, ap₂, arith}
use Rattle.image.specs.declared.image.Net.{Net}
use Rattle.image.specs.Image.{net_at, nets_of}
use Rattle.image.specs.Writing.{put_nets}
use Rattle.checking.proofs.Checked.{check_none}
use Rattle.doubled.proofs.Sums.{accepted_few, pins_are, group_pinned}
use Rattle.doubling.proofs.Laying.{pin_starts, net_small}
use Rattle.doubling.proofs.writing.put_group_at.Goals as goal

pub pair_of-requires-clause-p_bound : goal.pair_of-requires-clause-p_bound
pair_of-requires-clause-p_bound c =
    (c.net_of-x.ensures.1.a, (net_small ((check_none _).0 c.requires.image_value) c.args.i c.requires.i_bound.0 c.net_of-x.ensures.0).1.a)

pub pair_of-requires-clause-starts_bound : goal.pair_of-requires-clause-starts_bound
pair_of-requires-clause-starts_bound c =
    let small = net_small ((check_none _).0 c.requires.image_value) c.args.i c.requires.i_bound.0 c.net_of-x.ensures.0 in
    pin_starts ((check_none _).0 c.requires.image_value) c.args.starts.now c.requires.i_bound.1 c.requires.i_bound.2 _ small.1.a

pub pair_of-requires-2-clause-p_bound : goal.pair_of-requires-2-clause-p_bound
pair_of-requires-2-clause-p_bound c =
    (c.net_of-x.ensures.1.b, (net_small ((check_none _).0 c.requires.image_value) c.args.i c.requires.i_bound.0 c.net_of-x.ensures.0).1.b)

pub pair_of-requires-2-clause-starts_bound : goal.pair_of-requires-2-clause-starts_bound
pair_of-requires-2-clause-starts_bound c =
    let small = net_small ((check_none _).0 c.requires.image_value) c.args.i c.requires.i_bound.0 c.net_of-x.ensures.0 in
    pin_starts ((check_none _).0 c.requires.image_value) c.args.starts.now c.requires.i_bound.1 c.requires.i_bound.2 _ small.1.b

pub pair_of-requires-3-clause-p_bound : goal.pair_of-requires-3-clause-p_bound
pair_of-requires-3-clause-p_bound c =
    (c.net_of-x.ensures.1.c, (net_small ((check_none _).0 c.requires.image_value) c.args.i c.requires.i_bound.0 c.net_of-x.ensures.0).1.c)

pub pair_of-requires-3-clause-starts_bound : goal.pair_of-requires-3-clause-starts_bound
pair_of-requires-3-clause-starts_bound c =
    let small = net_small ((check_none _).0 c.requires.image_value) c.args.i c.requires.i_bound.0 c.net_of-x.ensures.0 in
    pin_starts ((check_none _).0 c.requires.image_value) c.args.starts.now c.requires.i_bound.1 c.requires.i_bound.2 _ small.1.c

pub put_group-requires-clause-kind_bound : goal.put_group-requires-clause-kind_bound
unfolding net_at
put_group-requires-clause-kind_bound c =
    let own = c.from-v.ensures ∙ c.requires.i_bound.1 c.args.i (omega (arith, accepted_few c.args.image.now c.requires.image_value)) in
    let small = net_small ((check_none _).0 c.requires.image_value) c.args.i c.requires.i_bound.0 c.net_of-x.ensures.0 in
    (small.0, rw (own, c.net_of-x.ensures.0) c.requires.room)

pub returns : goal.returns
returns c =
    let args = c.args in
    let x = c.net_of-x.result in
    let xs = nets_of args.image.now in
    let starts = c.requires.i_bound.1 in
    let own = c.from-v.ensures ∙ starts args.i (omega (arith, accepted_few args.image.now c.requires.image_value)) in
    let small = (net_small ((check_none _).0 c.requires.image_value) c.args.i c.requires.i_bound.0 c.net_of-x.ensures.0).1 in
    let a = pins_are args.starts.now xs starts x.a small.a in
    let b = pins_are args.starts.now xs starts x.b small.b in
    let k = pins_are args.starts.now xs starts x.c small.c in
    let group =
    group_pinned xs args.i x own
    (c.pair_of.ensures.0 ∙ a.0) (c.pair_of.ensures.1 ∙ a.1)
    (c.pair_of-2.ensures.0 ∙ b.0) (c.pair_of-2.ensures.1 ∙ b.1)
    (c.pair_of-3.ensures.0 ∙ k.0) (c.pair_of-3.ensures.1 ∙ k.1) in
    rw c.net_of-x.ensures.0 at (c.put_group.ensures ∙ ap₂ (λ (v : ℕ) (l : List Net). put_nets args.d.now args.size v l) own group)
