-- `settling::settling::set_constants` meets its contract: a turn prepares one net more.
use Rattle.std.proofs.Common.{◌≡◌, ◌<◌, ◌∙◌, add-one, arith}
use Rattle.image.specs.Image.{sizes_of}
use Rattle.checking.proofs.Checked.{Checked, check_none}
use Rattle.settling.proofs.Gatewise.{first_byte, first_is, prepare_goes_on}
use Rattle.settling.proofs.settling.set_constants.Goals as goal

pub kind_of-requires : goal.kind_of-requires
kind_of-requires c = let known : Checked c.args.image.now = (check_none _).0 c.requires.0 in omega (arith, known.exact, c.requires.1, c.loop-i-test.true)

pub operand_of-requires : goal.operand_of-requires
operand_of-requires c =
    let known : Checked c.args.image.now = (check_none _).0 c.requires.0 in
    (omega (arith, c.requires.1, c.loop-i-test.true), omega arith, known.exact)

pub put_both-requires : goal.put_both-requires
put_both-requires c =
    let known : Checked c.args.image.now = (check_none _).0 c.requires.0 in
    (omega (arith, known.few_nets, c.requires.1, c.loop-i-test.true), omega (arith, known.few_nets, c.requires.1, c.requires.2, c.loop-i-test.true, c.loop-i.auto.nets))

pub loop-i-preserved : goal.loop-i-preserved
loop-i-preserved c =
    let known : Checked c.args.image.now = (check_none _).0 c.requires.0 in
    let below : c.loop-i.i < (sizes_of c.args.image.now).nets = omega (arith, c.requires.1, c.loop-i-test.true) in
    let chosen : c.first_byte-x.result ≡ first_byte c.args.image.now c.loop-i.i =
    first_is c.args.image.now c.loop-i.i c.kind_of.ensures c.operand_of.ensures.0 c.first_byte-x.ensures.0 in
    λ w. rw (c.put_both.ensures, chosen, add-one c.loop-i.i) (prepare_goes_on known below (c.loop-i.auto.nets ∙ c.requires.2) (c.loop-i.invariant w))

pub returns : goal.returns
returns c =
    let whole : c.loop-i.i ≡ c.args.n = omega (arith, c.loop-i-test.false) in
    rw whole at c.loop-i.invariant
