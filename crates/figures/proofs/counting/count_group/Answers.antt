-- A place is raised for each entry of the row, two to a turn, and for the last of an odd number.
use Rattle.std.proofs.Common.{◌≡◌, ◌+◌, ◌*◌, ◌-◌, ◌/◌, ◌<◌, arith}
use Rattle.figures.proofs.Raising.{turn_ready, turn_next, turns_done}
use Rattle.figures.proofs.counting.count_group.Goals as goal

pub raise-one-requires : goal.raise-one-requires
raise-one-requires c =
    let below : c.args.first + 2 * c.loop-pair.pair < c.args.end = omega (arith, c.loop-pair-test.true) in
    turn_ready c.loop-pair.invariant c.requires.2 c.requires.0 below

pub raise-two-requires : goal.raise-two-requires
raise-two-requires c =
    let below : c.args.first + 2 * c.loop-pair.pair + 1 < c.args.end = omega (arith, c.loop-pair-test.true) in
    turn_ready (turn_next c.loop-pair.invariant c.requires.2 c.requires.0 (omega arith) c.raise-one.ensures) c.requires.2 c.requires.0 below

pub loop-pair-preserved : goal.loop-pair-preserved
loop-pair-preserved c =
    let below : c.args.first + 2 * c.loop-pair.pair + 1 < c.args.end = omega (arith, c.loop-pair-test.true) in
    let two : c.args.first + 2 * c.loop-pair.pair + 1 + 1 ≡ c.args.first + 2 * (c.loop-pair.pair + 1) = omega arith in
    let one = turn_next c.loop-pair.invariant c.requires.2 c.requires.0 (omega arith) c.raise-one.ensures in
    rw (← two) (turn_next one c.requires.2 c.requires.0 below c.raise-two.ensures)

pub raise-last-requires : goal.raise-last-requires
raise-last-requires c =
    let all : c.loop-pair.pair ≡ (c.args.end - c.args.first) / 2 = omega (arith, c.loop-pair-test.false, c.loop-pair.auto.pair-end) in
    let turn = rw all at c.loop-pair.invariant in
    turn_ready turn c.requires.2 c.requires.0 c.if-j-end.true

pub returns-then-j-end : goal.returns-then-j-end
returns-then-j-end c =
    let all : c.loop-pair.pair ≡ (c.args.end - c.args.first) / 2 = omega (arith, c.loop-pair-test.false, c.loop-pair.auto.pair-end) in
    let turn = rw all at c.loop-pair.invariant in
    turns_done (turn_next turn c.requires.2 c.requires.0 c.if-j-end.true c.raise-last.ensures) c.requires.2 (omega arith)

pub returns-else-j-end : goal.returns-else-j-end
returns-else-j-end c =
    let all : c.loop-pair.pair ≡ (c.args.end - c.args.first) / 2 = omega (arith, c.loop-pair-test.false, c.loop-pair.auto.pair-end) in
    let turn = rw all at c.loop-pair.invariant in
    turns_done turn c.requires.2 (omega (arith, c.if-j-end.false))
