-- What `sizes_of` requires: an accepted image has its first 8 bytes.
use Rattle.std.proofs.Common.{sym, arith}
use Rattle.checking.proofs.Checked.{check_none}
use Rattle.figures.proofs.size.doubled_size.Goals as goal

pub sizes_of-n-requires : goal.sizes_of-n-requires
sizes_of-n-requires c = omega (arith, ((check_none _).0 (sym c.in_default.ensures)).exact)
