-- `cycle_parts::registers::set_registers` meets its contract: its loop is a pass that fills the state and counts.
use Rattle.std.proofs.Common.{◌≡◌, sym, ◌∙◌}
use Rattle.gates.specs.Kinds.{REG}
use Rattle.image.specs.Image.{kind_at}
use Rattle.checking.proofs.Checked.{check_none}
use Rattle.cycle.proofs.Filling.{pass_room, pass_ends}
use Rattle.cycle_parts.proofs.Counting.{counting_begins, counting_fits, counting_takes, counting_skips, counting_ends}
use Rattle.cycle_parts.proofs.registers.set_registers.Goals as goal
use Rattle.cycle_parts.proofs.registers.set_registers.Goals.{then-kind_of, else-kind_of}

pub loop-i-init : goal.loop-i-init
loop-i-init g c = counting_begins ((check_none _).0 c.requires.1.0) c.requires.1.1.0.0 c.requires.1.1.0.1

-- a register has a byte in the state
pub bounds-state-j : goal.bounds-state-j
bounds-state-j g c = pass_room c.loop-i.invariant.pass c.loop-i-test.true (sym c.kind_of.ensures ∙ c.if-kind_of.true)

pub overflow_add-marked : goal.overflow_add-marked
overflow_add-marked g c =
    let below = c.loop-i-test.true in
    let this : kind_at c.args.image.now c.loop-i.i ≡ REG = sym c.kind_of.ensures ∙ c.if-kind_of.true in
    record {
      fits = rw c.mark_bit-marked.ensures.0 (counting_fits c.loop-i.invariant below this (c.requires.1.1.1.1 _ _ below this c.byte_of-x.ensures));
    }

pub loop-i-preserved : goal.loop-i-preserved
loop-i-preserved g c =
    let p = c.loop-i.invariant in
    let below = c.loop-i-test.true in
    elim c.if-kind_of.branch [
      | then-kind_of w ↦
          let this : kind_at c.args.image.now c.loop-i.i ≡ REG = sym c.kind_of.ensures ∙ w.if-kind_of.true in
          rw (w.state-is, w.marked-is, w.j-is, w.mark_bit-marked.ensures.0)
          (counting_takes p below this (c.requires.1.1.1.1 _ _ below this w.byte_of-x.ensures))
      | else-kind_of w ↦
          rw (w.state-is, w.marked-is, w.j-is) (counting_skips p below (λ e. w.if-kind_of.false (c.kind_of.ensures ∙ e)))
    ]

pub returns-clause-state_after : goal.returns-clause-state_after
returns-clause-state_after g c = pass_ends c.loop-i.invariant.pass c.loop-i-test.false

pub returns-clause-value : goal.returns-clause-value
returns-clause-value g c = counting_ends c.loop-i.invariant c.loop-i-test.false
