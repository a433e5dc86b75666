-- The value pin is start i with the bit of the pin, and the mark pin stands right before start i + 1.
use Rattle.std.proofs.Common.{◌≡◌, ◌+◌, ◌-◌, get_or, sym, arith}
use Rattle.image.specs.Pins.{pin_net, like_pin}
use Rattle.image.proofs.PinNets.{like_rest, like_most, net_most}
use Rattle.doubling.proofs.pins.pair_of.Goals as goal

pub overflow_sub-result : goal.overflow_sub-result
overflow_sub-result c = omega (arith, c.pin_net-i.ensures, net_most c.args.p)

pub returns : goal.returns
returns c =
    let starts = c.args.starts.now in
    let p = c.args.p in
    let i = c.pin_net-i.ensures in
    let start = rw i at c.from.ensures in
    let end = rw i at c.from-2.ensures in
    let value : p - c.pin_net-i.result + c.from.result ≡ like_pin p (get_or starts (pin_net p) 0) = rw (i, start) (sym (like_rest p (get_or starts (pin_net p) 0))) in (
      value,
      rw end,
      record {
        value = omega (arith, value, like_most p (get_or starts (pin_net p) 0), c.requires.starts_bound.0);
        mark = omega (arith, end, c.fits-starts (pin_net p + 1));
      },
    )
