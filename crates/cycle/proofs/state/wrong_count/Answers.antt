-- `cycle::state::wrong_count` meets its contract: the u16 is another number exactly if one of its bytes is another.
use Rattle.cycle.specs.State.{miscounted}
use Rattle.cycle.proofs.States.{two_bytes_differ}
use Rattle.cycle.proofs.state.wrong_count.Goals as goal

pub returns : goal.returns
unfolding miscounted
returns c = rw (c.from_le_bytes.ensures, c.count_marked-n.ensures) (two_bytes_differ _ _ _ (c.type_inv.state c.args.registers).fits)
