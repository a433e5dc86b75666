-- How the bytes of an image are read.
use Prim.Native.Nat.{ℕ, ◌+◌, ◌*◌, ◌<◌}
use native.Mathlib.Nat.{add-zero}
use mathlib.Core.Path.{◌≡◌, refl}
use mathlib.Core.List.{List}
use Rattle.image.specs.Image.{sizes_of, net_at}
use Rattle.image.proofs.Nets.{net_in, length_nets}
use Rattle.claims.specs.Reading.{net_of, ImageRead}

net_at_lem : (s : List ℕ) (i : ℕ) → i < (sizes_of s).nets → net_of s i ≡ net_at s (sizes_of s).nets i
net_at_lem s i h = net_in s _ i _ refl h

pub image_read : ImageRead
unfolding sizes_of net_at
image_read s =
    record {
      nets = refl;
      inputs = refl;
      registers = refl;
      outputs = refl;
      all = length_nets s;
      kind = λ i h. rw (net_at_lem s i h);
      a = λ i h. rw (net_at_lem s i h, add-zero (8 + (sizes_of s).nets + 6 * i));
      b = λ i h. rw (net_at_lem s i h);
      c = λ i h. rw (net_at_lem s i h);
    }
