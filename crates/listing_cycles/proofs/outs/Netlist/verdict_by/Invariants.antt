-- The verdict is that of the OUTs that are left, each of which is a net.
use Rattle.std.proofs.Common.{◌≡◌, ◌<◌, length, All}
use Rattle.image.specs.Image.{sizes_of}
use Rattle.listing_cycles.specs.ByOutputs.{verdict_by}
use Rattle.listing_cycles.proofs.outs.Netlist.verdict_by.Given as goal

abbrev pub invariant-loop-i : goal.invariant-loop-i
invariant-loop-i l =
    record {
      nets : All (λ i. i < (sizes_of l.self.image.now).nets) l.i-iterator.a.rest.now;
      size : length l.i-iterator.b.rest.now ≡ length l.i-iterator.a.rest.now;
      left : verdict_by l.self.image.now l.i-iterator.a.rest.now l.i-iterator.b.rest.now ≡ verdict_by l.self.image.now l.self.outs.now l.bytes;
    }
