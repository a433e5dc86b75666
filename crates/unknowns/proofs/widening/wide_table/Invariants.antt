-- The loops of `unknowns::widening::wide_table`: the rows before row r are written, and of row r the places before that of c.
use Rattle.std.proofs.Common.{◌+◌, ◌*◌}
use Rattle.unknowns.specs.Widths.{Wide}
use Rattle.unknowns.proofs.widening.wide_table.Given as goal

abbrev pub invariant-loop-r : goal.invariant-loop-r
invariant-loop-r l = Wide (l.r * 8) l.t

abbrev pub invariant-loop-c : goal.invariant-loop-c
invariant-loop-c l = Wide (l.r * 8 + l.c) l.t
