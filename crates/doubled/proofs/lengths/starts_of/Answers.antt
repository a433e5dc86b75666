-- The group lengths are summed net by net, and the sum is put behind the last net.
use Rattle.std.proofs.Common.{ℕ, ◌≡◌, ◌+◌, ◌≤◌, ◌∙◌, refl, length-set, get_or, sym, arith}
use Rattle.image.specs.Image.{nets_of}
use Rattle.image.proofs.Nets.{length_nets}
use Rattle.checking.proofs.Checked.{check_none}
use Rattle.groups.specs.Groups.{group_length}
use Rattle.doubled.specs.Doubled.{value_net}
use Rattle.doubled.proofs.Positions.{value_end}
use Rattle.doubled.proofs.Sums.{start_zero, summed_begins, summed_next, summed_filled, accepted_few, next_start, starts_fit}
use Rattle.doubled.proofs.lengths.starts_of.Goals as goal
use Rattle.doubled.proofs.lengths.starts_of.Goals.{After-from}

pub loop-i-init : goal.loop-i-init
loop-i-init c = let xs = nets_of c.args.image.now in (refl, sym (start_zero xs), summed_begins xs)

-- one net further
next : (c : After-from) → c.loop-i.size + get_or c.group_lengths-lengths.result c.from.result 0 ≡ value_net (nets_of c.args.image.now) (c.loop-i.i + 1)
unfolding group_length
next c =
    let e = next_start ((check_none _).0 c.requires.image_value) c.loop-i.i c.requires.n_value c.loop-i-test.true in
    rw (c.loop-i.invariant.1, c.group_lengths-lengths.ensures, c.from.ensures, c.kind_of.ensures) (sym e)

pub overflow_add-size : goal.overflow_add-size
overflow_add-size c = omega (arith, next c, starts_fit ((check_none _).0 c.requires.image_value) (c.loop-i.i + 1))

pub loop-i-preserved : goal.loop-i-preserved
loop-i-preserved c =
    let xs = nets_of c.args.image.now in
    (omega (arith, c.loop-i.invariant.0, length-set {A = ℕ}), next c, summed_next c.loop-i.starts xs c.loop-i.i _ c.loop-i.invariant.2 (omega (arith, c.loop-i.invariant.0, accepted_few c.args.image.now c.requires.image_value)) (next c))

pub returns : goal.returns
returns c =
    let s = c.args.image.now in
    let xs = nets_of s in
    let t = c.loop-i.starts in
    let last : c.loop-i.i ≡ c.args.n = omega (arith, c.loop-i-test.false) in
    let at = rw last at c.loop-i.invariant in
    let size : (j : ℕ) → c.args.n ≤ j → c.loop-i.size ≡ value_net xs j =
    λ j l. at.1 ∙ value_end xs c.args.n (omega (arith, length_nets s)) ∙ sym (value_end xs j (omega (arith, length_nets s))) in
    let all =
    summed_filled t xs c.args.n c.loop-i.size 8193 at.2 at.0 (omega (arith, accepted_few s c.requires.image_value)) size (c.fill.ensures.after (λ y h. h)) in
    λ j h. all j (omega arith)
