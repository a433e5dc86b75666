-- The nets of the groups are counted group by group.
use Rattle.std.proofs.Common.{◌≡◌, ◌<◌, ◌∙◌, length, get_or, sym, add-one, arith}
use Rattle.image.specs.Image.{net_at, nets_of}
use Rattle.image.proofs.Nets.{net_in, length_nets}
use Rattle.image.proofs.Encoding.{nothing}
use Rattle.groups.specs.Groups.{group_length}
use Rattle.doubled.proofs.Sums.{accepted_kind}
use Rattle.figures.proofs.Rows.{row_ends}
use Rattle.figures.proofs.Raising.{counts_begin, counts_all, counts_next, counts_room}
use Rattle.figures.proofs.counting.count_kinds.Goals as goal

pub loop-i-init : goal.loop-i-init
loop-i-init c = sym (counts_begin _)

-- the kind of net i, and the length of its group
pub count_group-requires : goal.count_group-requires
unfolding group_length
count_group-requires c =
    let kind = rw (← (c.from-kind.ensures ∙ c.kind_of.ensures)) at (accepted_kind c.args.image.now c.requires.0 c.loop-i.i (omega (arith, c.requires.1))) in
    let long = rw c.group_lengths-lengths.ensures at c.from.ensures in (
      c.group_kinds-kinds.ensures,
      omega arith,
      rw long (row_ends c.from-kind.result kind),
      rw c.loop-i.invariant (counts_room (nets_of c.args.image.now) c.loop-i.i 8192 c.requires.2),
    )

pub loop-i-preserved : goal.loop-i-preserved
unfolding group_length net_at
loop-i-preserved c =
    let xs = nets_of c.args.image.now in
    let i = c.loop-i.i in
    let kind = rw (← (c.from-kind.ensures ∙ c.kind_of.ensures)) at (accepted_kind c.args.image.now c.requires.0 i (omega (arith, c.requires.1))) in
    let long = rw c.group_lengths-lengths.ensures at c.from.ensures in
    let this : c.from-kind.result ≡ (get_or xs i nothing).kind =
    c.from-kind.ensures ∙ c.kind_of.ensures ∙ rw (net_in c.args.image.now c.args.n i nothing c.requires.1 c.loop-i-test.true) in
    let below : i < length xs = omega (arith, c.requires.1, length_nets c.args.image.now) in
    c.count_group.ensures ∙ rw (long, c.loop-i.invariant, add-one i, this) (counts_next xs i below (rw (← this) kind))

pub returns : goal.returns
returns c = c.loop-i.invariant ∙ counts_all _ c.loop-i.i (omega (arith, c.loop-i-test.false, c.requires.1, length_nets c.args.image.now))
