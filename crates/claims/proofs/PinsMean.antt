-- Pins, in numbers.
use Prim.Native.Nat.{ℕ, ◌+◌, ◌/◌, ◌%◌, ◌≤◌}
use mathlib.Core.Path.{◌≡◌, refl}
use borrow.Author.Tests.{eqb-true}
use lib.Dec.{eqb}
use lib.ListN.{get_or}
use Rattle.gates.specs.Rules.{value, mark, byte, not_byte, gate_byte}
use Rattle.gates.proofs.EachCode.{each}
use Rattle.image.specs.Pins.{like_pin}
use Rattle.image.proofs.PinNets.{plain_net, plain_pin, top_net, top_pin}
use Rattle.cycle.proofs.Ruling.{plain_reads, inverted_reads}
use Rattle.doubled.specs.Doubled.{value_pin, mark_pin}
use Rattle.claims.specs.PinsMean.{PinsMean}

not_value : (x : ℕ) → x ≤ 3 → not_byte x % 2 ≡ (1 + x) % 2
unfolding value mark byte not_byte
not_value x h = eqb-true _ _ (each (λ x. eqb (not_byte x % 2) ((1 + x) % 2)) refl x h)

not_mark : (x : ℕ) → x ≤ 3 → not_byte x / 2 ≡ x / 2
unfolding value mark byte not_byte
not_mark x h = eqb-true _ _ (each (λ x. eqb (not_byte x / 2) (x / 2)) refl x h)

pub pins_mean : PinsMean
unfolding value_pin mark_pin like_pin
pins_mean =
    record {
      names = λ j h. plain_net h;
      reads = λ bs j h. plain_reads gate_byte bs h;
      names_inverted = λ j h. top_net j;
      reads_value = λ bs j h c. rw (inverted_reads bs j) (not_value (get_or bs j 0) c);
      reads_mark = λ bs j h c. rw (inverted_reads bs j) (not_mark (get_or bs j 0) c);
      as_not = λ bs j h. inverted_reads bs j;
      value_pin_lem = λ xs j h. rw (plain_pin h, plain_net h);
      value_inverted = λ xs j h. rw (top_pin j, top_net j);
      mark_pin_lem = λ xs j h. rw (plain_net h);
      mark_inverted = λ xs j h. rw (top_net j);
    }
