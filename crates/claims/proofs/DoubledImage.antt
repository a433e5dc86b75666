-- The doubled image: what is read from it, where its groups stand, and what plain values alone do not settle of it.
use native.Mathlib.Numerals.{add-one}
use native.Mathlib.Omega.{arith}
use borrow.Author.Tests.{eq-eqb, ne_eqb}
use lib.Dec.{lit<}
use Rattle.image.specs.Image.{sizes_of, nets_of}
use Rattle.image.proofs.Pairs.{pairs_get_or}
use Rattle.image.proofs.Nets.{length_nets}
use Rattle.checking.proofs.Checked.{check_none}
use Rattle.groups.specs.Groups.{mark_start}
use Rattle.doubled.proofs.Positions.{value_end, value_next, group_length_lem, group_net, value_register, mark_register, outs_free}
use Rattle.doubled.proofs.Sums.{start_zero, mark_end}
use Rattle.doubling.specs.Doubling.{doubled_image}
use Rattle.doubling.proofs.Checks.{doubled_sizes, doubled_nets_lem, doubled_checked, doubled_bytes, double_accepted}
use Rattle.claims.specs.DoubledImage.{DoubledChecks, DoublingWrites, DoubledReadsAll, DoubledPlaced, DoubledUnseen}

pub doubled_checks : DoubledChecks
doubled_checks s h few = (check_none (doubled_image s)).1 (doubled_checked s ((check_none s).0 h) few)

pub doubling_writes : DoublingWrites
doubling_writes = double_accepted

pub doubled_reads : DoubledReadsAll
doubled_reads s h few =
    record {
      nets = doubled_nets_lem s;
      bytes = λ p. pairs_get_or p 0 (lit< tt) (doubled_bytes s ((check_none s).0 h) few);
    }

-- where the groups stand
pub doubled_placed : DoubledPlaced
doubled_placed s h =
    let c = (check_none s).0 h in
    let xs = nets_of s in
    let long = length_nets s in
    record {
      first = start_zero xs;
      next = λ i l. rw (add-one i) (value_next xs i (omega (arith, long)));
      lengths = λ i. group_length_lem xs i _;
      mark = mark_end c;
      end = rw (doubled_sizes s) (value_end xs (sizes_of s).nets (omega (arith, long)));
      groups = λ i j l m. rw (doubled_nets_lem s) (group_net xs i j (omega (arith, long)) m);
    }

-- what plain values alone do not settle
pub doubled_unseen : DoubledUnseen
unfolding mark_start
doubled_unseen s =
    let e = doubled_nets_lem s in
    let l = length_nets s in
    record {
      outs = rw e (outs_free (nets_of s));
      values = λ i h k. rw e (value_register (nets_of s) i (omega arith) k);
      marks = λ i h k b. rw e (rw (ne_eqb _ 2 b) at (mark_register (nets_of s) i (omega arith) k));
      unknown_marks = λ i h k b. rw e (rw (eq-eqb _ 2 b) at (mark_register (nets_of s) i (omega arith) k));
    }
