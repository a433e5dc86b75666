-- The byte of a register's net: what its pin reads.
use Rattle.gates.specs.Rules.{gate_byte}
use Rattle.cycle.specs.Cycle.{pin_byte}
use Rattle.cycle_parts.specs.contracts.registers.fn.clock.set_registers as closure
use Rattle.cycle_parts.proofs.registers.clock.Given as goal

abbrev pub ghost-set_registers : goal.ghost-set_registers
ghost-set_registers a = λ x. pin_byte gate_byte (closure.captures a.byte_of).nets.now x.a
