-- `cycle_parts::registers::take_starts` meets its contract: the byte of a register's net is its start byte.
use Rattle.std.proofs.Common.{rules, ◌≡◌, ◌+◌, ◌*◌, length}
use Rattle.image.specs.Image.{sizes_of, net_at}
use Rattle.checking.proofs.Checked.{check_none}
use Rattle.cycle_parts.specs.Starting.{starts_by}
use Rattle.cycle_parts.proofs.registers.take_starts.Goals as goal

pub set_registers-requires : goal.set_registers-requires
unfolding net_at
set_registers-requires c κs within =
    let exact : length c.args.image.now ≡ 8 + 7 * (sizes_of c.args.image.now).nets = ((check_none _).0 c.requires.image_value).exact in
    search rules

pub returns-clause-state_after : goal.returns-clause-state_after
unfolding starts_by
returns-clause-state_after c = c.set_registers.ensures.state_after

pub returns-clause-value : goal.returns-clause-value
unfolding starts_by
returns-clause-value c = c.set_registers.ensures.value
