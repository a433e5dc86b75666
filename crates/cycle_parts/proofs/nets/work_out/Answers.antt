-- `cycle_parts::nets::work_out` meets its contract: its loop is a cycle's walk.
use Rattle.std.proofs.Common.{refl, add-one, arith}
use Rattle.std.proofs.Math.ListN.{length-set, get_or-eq_default}
use Rattle.std.proofs.Math.Seq.{get_or-set_same}
use Rattle.checking.proofs.Checked.{check_none}
use Rattle.cycle.proofs.Cycles.{codes_low}
use Rattle.cycle_parts.proofs.Walking.{walk_begins, walk_readable, walk_goes_on, walk_ends}
use Rattle.cycle_parts.proofs.nets.work_out.Goals as goal
use Rattle.cycle_parts.proofs.nets.work_out.Goals.{then-n-gt1, else-n-gt1}

pub loop-i-init : goal.loop-i-init
loop-i-init c =
    let nets = c.args.nets.now in
    let size = c.requires.row_len in
    let begins = walk_begins {n = c.args.n} (record {
      image = (check_none _).0 c.requires.gate_table.1;
      registers = record { size = size.1; codes = codes_low c.requires.low.1 };
      size = size.0;
      codes = codes_low c.requires.low.0;
    }) c.requires.gate_table.2 in (
      refl,
      refl,
      elim c.if-n-gt1.branch [
        | then-n-gt1 w ↦ begins (rw (w.nets-is, length-set nets 1 0) size.2) (rw (w.nets-is, get_or-set_same nets 1 0 0 (omega (arith, size.2, w.if-n-gt1.true))))
        | else-n-gt1 w ↦ begins (rw w.nets-is size.2) (rw (w.nets-is, get_or-eq_default nets 0 {n = 1} (omega (arith, size.2, w.if-n-gt1.false))))
      ],
    )

pub net_byte-byte-requires-clause-readable : goal.net_byte-byte-requires-clause-readable
net_byte-byte-requires-clause-readable c = rw (← c.requires.gate_table.2) (walk_readable c.loop-i.invariant.2 c.loop-i-test.true)

pub loop-i-preserved : goal.loop-i-preserved
loop-i-preserved c =
    let x = c.net_byte-byte.ensures in (
      rw x.taken_after c.loop-i.invariant.0,
      rw x.taken_after c.loop-i.invariant.1,
      rw (x.taken_after, add-one c.loop-i.i)
          (walk_goes_on c.loop-i.invariant.2 c.loop-i-test.true _ _ _ (rw (← c.requires.gate_table.2) at x.byte_value) refl refl),
    )

pub returns : goal.returns
returns c = rw (c.loop-i.invariant.0, c.loop-i.invariant.1) at (walk_ends c.loop-i.invariant.2 c.loop-i-test.false)
