-- The two nets, one by one.
use Rattle.std.proofs.Common.{refl}
use Rattle.large_groups.proofs.NetAfterNet.{done, one, all_put}
use Rattle.large_groups.proofs.group.put_two.Goals as goal

pub returns : goal.returns
returns c =
    all_put (one refl c.put_net.ensures (one refl c.put_net-2.ensures done))
