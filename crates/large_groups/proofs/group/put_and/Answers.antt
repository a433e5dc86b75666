-- Its nets, one by one.
use Rattle.large_groups.proofs.NetAfterNet.{done, one, all_put}
use Rattle.large_groups.proofs.group.put_and.Goals as goal

pub returns : goal.returns
returns c =
    all_put (one c.gate.ensures.0 c.put_net.ensures (one c.gate-2.ensures.0 c.put_net-2.ensures (one c.gate-3.ensures.0 c.put_net-3.ensures (one c.gate-4.ensures.0 c.put_net-4.ensures (one c.gate-5.ensures.0 c.put_net-5.ensures (one c.gate-6.ensures.0 c.put_net-6.ensures done))))))
