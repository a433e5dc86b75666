-- `lists::listed::put_bytes` meets its contract: one more net takes its byte.
use Rattle.std.proofs.Common.{add-one}
use Rattle.lists.proofs.Placing.{put_begins, put_goes_on}
use Rattle.lists.proofs.listed.put_bytes.Goals as goal

pub loop-j-init : goal.loop-j-init
loop-j-init c = put_begins

pub loop-j-preserved : goal.loop-j-preserved
loop-j-preserved c =
    let pre = c.requires.bytes_len in
    rw (c.put_both.ensures, c.inverse.ensures, c.from.ensures, add-one c.loop-j.j) (put_goes_on pre.1 pre.2 c.requires.coded c.loop-j-test.true c.loop-j.invariant)
