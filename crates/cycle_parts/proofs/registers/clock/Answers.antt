-- `cycle_parts::registers::clock` meets its contract: the byte of a register's net is what its pin reads.
use Rattle.std.proofs.Common.{rules, ℕ, ◌≡◌, ◌+◌, ◌*◌, ◌<◌, length, get_or}
use Rattle.gates.specs.Kinds.{REG}
use Rattle.image.specs.Image.{sizes_of, kind_at, operand_at, net_at}
use Rattle.image.specs.Pins.{pin_net}
use Rattle.checking.proofs.Checked.{check_none, pin_below}
use Rattle.cycle.specs.Cycle.{clocked}
use Rattle.cycle_parts.proofs.registers.clock.Goals as goal

pub set_registers-requires : goal.set_registers-requires
unfolding net_at
set_registers-requires c κs within =
    let s = c.args.image.now in
    let nets = c.args.nets.now in
    let size = c.requires.n_value in
    let image = (check_none s).0 c.requires.image_value in
    let exact : length s ≡ 8 + 7 * (sizes_of s).nets = image.exact in
    let net : (i : ℕ) → i < c.args.n → kind_at s i ≡ REG → pin_net (operand_at s (sizes_of s).nets i 0) < length nets =
    λ i h k. rw (← size.0, size.1) (pin_below image size.0 i h k) in
    let codes : (j : ℕ) → get_or nets j 0 < 4 = size.3.low in
    search (rules, net, codes)

pub returns-clause-state_after : goal.returns-clause-state_after
unfolding clocked
returns-clause-state_after c = c.set_registers.ensures.state_after

pub returns-clause-value : goal.returns-clause-value
unfolding clocked
returns-clause-value c = c.set_registers.ensures.value
