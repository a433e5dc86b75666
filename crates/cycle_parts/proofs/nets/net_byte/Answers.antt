-- `cycle_parts::nets::net_byte` meets its contract: what is read is the byte of the net, by its kind.
use Rattle.std.proofs.Common.{sym, ◌∙◌, arith, rules}
use Rattle.cycle.proofs.Cycles.{pin_code}
use Rattle.cycle_parts.proofs.Reading.{gate, reads, code_at, gate_byte_lem, input_byte, register_byte, const_byte, is_const_value}
use Rattle.cycle_parts.proofs.nets.net_byte.Goals as goal

-- A GATE OR OUT: its pins
pub pin_byte-x-requires : goal.pin_byte-x-requires
pin_byte-x-requires c =
    let pin = c.operand_of-a.ensures in
    reads (c.requires.i_bound, c.requires.readable) pin.0
    (gate (c.requires.i_bound, c.requires.readable) (rw c.kind_of-kind.ensures at c.if-kind.true)).a
    pin.1

pub pin_byte-y-requires : goal.pin_byte-y-requires
pin_byte-y-requires c =
    let pin = c.operand_of-b.ensures in
    reads (c.requires.i_bound, c.requires.readable) pin.0
    (gate (c.requires.i_bound, c.requires.readable) (rw c.kind_of-kind.ensures at c.if-kind.true)).b
    pin.1

pub pin_byte-z-requires : goal.pin_byte-z-requires
pin_byte-z-requires c =
    let pin = c.operand_of-c.ensures in
    reads (c.requires.i_bound, c.requires.readable) pin.0
    (gate (c.requires.i_bound, c.requires.readable) (rw c.kind_of-kind.ensures at c.if-kind.true)).c
    pin.1

-- its kind and the bytes of its pins are in the table
pub gate_byte-requires-clause-kind_bound : goal.gate_byte-requires-clause-kind_bound
gate_byte-requires-clause-kind_bound c =
    rw c.kind_of-kind.ensures
    (gate (c.requires.i_bound, c.requires.readable) (rw c.kind_of-kind.ensures at c.if-kind.true)).kind

pub gate_byte-requires-clause-a_bound : goal.gate_byte-requires-clause-a_bound
gate_byte-requires-clause-a_bound c =
    let nets = c.args.nets.now in
    let g = gate (c.requires.i_bound, c.requires.readable) (rw c.kind_of-kind.ensures at c.if-kind.true) in
    rw (c.pin_byte-x.ensures, c.pin_byte-y.ensures, c.pin_byte-z.ensures, c.operand_of-a.ensures.0, c.operand_of-b.ensures.0, c.operand_of-c.ensures.0) (
      pin_code nets _ (code_at (c.requires.i_bound, c.requires.readable) g.a),
      pin_code nets _ (code_at (c.requires.i_bound, c.requires.readable) g.b),
      pin_code nets _ (code_at (c.requires.i_bound, c.requires.readable) g.c),
    )

pub returns-then-kind-clause-byte_value : goal.returns-then-kind-clause-byte_value
returns-then-kind-clause-byte_value c =
    (rw (c.kind_of-kind.ensures, c.pin_byte-x.ensures, c.pin_byte-y.ensures, c.pin_byte-z.ensures, c.operand_of-a.ensures.0, c.operand_of-b.ensures.0, c.operand_of-c.ensures.0)
    at c.gate_byte.ensures)
    ∙ sym (gate_byte_lem (c.requires.i_bound, c.requires.readable) (rw c.kind_of-kind.ensures at c.if-kind.true))

-- A ROW BYTE, A STATE BYTE, A CONSTANT
pub returns-then-kind-2-clause-byte_value : goal.returns-then-kind-2-clause-byte_value
returns-then-kind-2-clause-byte_value c =
    rw (input_byte (c.requires.i_bound, c.requires.readable) (rw c.kind_of-kind.ensures at c.if-kind-2.true)) (search rules)

pub returns-then-kind-3-clause-byte_value : goal.returns-then-kind-3-clause-byte_value
returns-then-kind-3-clause-byte_value c =
    rw (register_byte (c.requires.i_bound, c.requires.readable) (rw c.kind_of-kind.ensures at c.if-kind-3.true)) (search rules)

pub overflow_cast-result : goal.overflow_cast-result
overflow_cast-result c =
    let kind = c.kind_of-kind.ensures in
    let small = (is_const_value (c.requires.i_bound, c.requires.readable) (rw kind at c.if-kind.false) (rw kind at c.if-kind-2.false) (rw kind at c.if-kind-3.false)).1 in
    rw c.operand_of-a.ensures.0 (omega arith)

pub returns-else-kind-3-clause-byte_value : goal.returns-else-kind-3-clause-byte_value
returns-else-kind-3-clause-byte_value c =
    let kind = c.kind_of-kind.ensures in
    let constant = (is_const_value (c.requires.i_bound, c.requires.readable) (rw kind at c.if-kind.false) (rw kind at c.if-kind-2.false) (rw kind at c.if-kind-3.false)).0 in
    c.operand_of-a.ensures.0 ∙ sym (const_byte (c.requires.i_bound, c.requires.readable) constant)
