-- `lists::lists::list_kinds` meets its contract: each list leaves those before it.
use Rattle.std.proofs.Common.{◌≡◌, ◌∙◌, ◌-◌, length, arith}
use Rattle.std.proofs.lemmas.Grind.{common_steps}
use Rattle.checking.proofs.Checked.{Checked, check_none}
use Rattle.lists.proofs.Parting.{middle_is}
use Rattle.lists.proofs.lists.list_kinds.Goals as goal

pub list_nets-requires-clause-list_len : goal.list_nets-requires-clause-list_len
list_nets-requires-clause-list_len c =
    let known : Checked c.args.image.now = (check_none _).0 c.requires.image_value in
    grind (arith, common_steps, known.inputs)

pub list_nets-requires-2-clause-list_len : goal.list_nets-requires-2-clause-list_len
list_nets-requires-2-clause-list_len c =
    let known : Checked c.args.image.now = (check_none _).0 c.requires.image_value in
    grind (arith, common_steps, known.registers, c.list_nets.auto.list)

pub list_nets-requires-3-clause-list_len : goal.list_nets-requires-3-clause-list_len
list_nets-requires-3-clause-list_len c =
    let known : Checked c.args.image.now = (check_none _).0 c.requires.image_value in
    grind (arith, common_steps, known.outputs, c.list_nets.auto.list, c.list_nets-2.auto.list)

pub returns-clause-registers : goal.returns-clause-registers
returns-clause-registers c =
    let regs = c.args.regs in
    let outs = c.args.outs in
    let first : length c.list_nets.new.list ≡ regs = grind (arith, common_steps, c.list_nets.auto.list) in
    let second : length c.list_nets-2.new.list ≡ outs - regs = grind (arith, common_steps, c.list_nets.auto.list, c.list_nets-2.auto.list) in
    middle_is regs outs c.list_nets.new.list c.list_nets-2.new.list first second (omega arith) _ _ _ ∙ c.list_nets-2.ensures
