-- The groups of one net of each kind, by computation; also with inverted pins.
use mathlib.Core.Path.{refl}
use borrow.Author.Tests.{ne_eqb}
use Rattle.image.specs.Pins.{pin_net, like_pin}
use Rattle.groups.specs.Groups.{group_lengths, group_length, mark_start, group_of}
use Rattle.doubled.specs.Doubled.{doubled_size, value_net, mark_net, value_pin, mark_pin, groups_from, doubled_nets}
use Rattle.claims.specs.Groups.{one_of_each, their_groups, inverted_of_each, inverted_groups, Groups}

pub groups : Groups
unfolding group_lengths group_length mark_start pin_net like_pin doubled_size value_net mark_net value_pin mark_pin group_of groups_from doubled_nets one_of_each their_groups inverted_of_each inverted_groups
groups =
    record {
      each = λ xs i x.
          record {
            const = λ e. rw e;
            input = λ e. rw e;
            reg = λ e b. rw (e, ne_eqb _ 2 b);
            unknown_reg = λ e b. rw (e, b);
            not = λ e. rw e;
            and = λ e. rw e;
            or = λ e. rw e;
            xor = λ e. rw e;
            mux = λ e. rw e;
            out = λ e. rw e;
          };
      nets = refl;
      size = refl;
      inverted = refl;
    }
