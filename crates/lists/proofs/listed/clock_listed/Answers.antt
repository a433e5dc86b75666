-- `lists::listed::clock_listed` meets its contract: a listed register is a net whose pin names a net, and all then have their bytes.
use Rattle.std.proofs.Common.{◌≢◌, ◌<◌, length, below_more, get_or-set_other, get_or-set_same, get_or, refl, arith}
use Rattle.gates.specs.Kinds.{REG}
use Rattle.image.specs.Image.{sizes_of, operand_at}
use Rattle.image.proofs.PinNets.{pin_most}
use Rattle.checking.proofs.Checked.{Checked, check_none, pin_below}
use Rattle.lists.proofs.Placing.{gathered_by, listed_places, listed_kind}
use Rattle.lists.proofs.listed.clock_listed.Goals as goal

pub operand_of-a-requires : goal.operand_of-a-requires
operand_of-a-requires c =
    let known : Checked c.args.image.now = (check_none _).0 c.requires.image_value.0 in
    let below = (listed_places c.args.image.now refl REG c.requires.list_value.0).within.below c.loop-j.j c.loop-j-test.true in
    (rw c.from.ensures below, omega arith, known.exact)

pub bounds-nets-a : goal.bounds-nets-a
bounds-nets-a c =
    let known : Checked c.args.image.now = (check_none _).0 c.requires.image_value.0 in
    let list = c.requires.list_value.0 in
    let below = (listed_places c.args.image.now refl REG list).within.below c.loop-j.j c.loop-j-test.true in
    let register = listed_kind c.args.image.now refl REG list c.loop-j.j c.loop-j-test.true in
    let pin = rw (← c.from.ensures, ← c.operand_of-a.ensures.0) at (pin_below known refl _ below register) in
    omega (arith, pin, pin_most c.operand_of-a.result, known.few_nets, c.requires.image_value.1)

pub loop-j-preserved : goal.loop-j-preserved
loop-j-preserved c =
    below_more _ _
    (λ k h. let other : k ≢ c.loop-j.j = omega arith in rw get_or-set_other (c.loop-j.invariant k h))
    (let there : c.loop-j.j < length c.loop-j.state = omega (arith, c.requires.list_value.1, c.loop-j-test.true) in
    rw (get_or-set_same, c.operand_of-a.ensures.0, c.from.ensures))

pub returns : goal.returns
returns c =
    gathered_by (λ i. get_or c.args.nets.now (operand_at c.args.image.now (sizes_of c.args.image.now).nets i 0) 0) c.args.list.now c.loop-j.state (omega arith) (λ k h. c.loop-j.invariant k (omega arith))
