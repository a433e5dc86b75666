-- The byte of a register's net: its start byte.
use Rattle.cycle_parts.specs.Starting.{start_by}
use Rattle.cycle_parts.specs.contracts.registers.fn.take_starts.set_registers as closure
use Rattle.cycle_parts.proofs.registers.take_starts.Given as goal

abbrev pub ghost-set_registers : goal.ghost-set_registers
ghost-set_registers a = λ x. start_by (closure.captures a.byte_of).wake x.b
