-- The turns begin with nothing printed, and where the listing is closed without a failure, some input was taken to its end.
use Rattle.std.proofs.Common.{arith, rules, sym, ap, ◌∙◌}
use Rattle.checking.proofs.Checked.{check_none}
use Rattle.cycle.specs.Calls.{PoweredUp}
use Rattle.listing_cycles.specs.ByOutputs.{Outs}
use Rattle.listing_cycles.proofs.Lines.{outs_few}
use Rattle.listing.proofs.Turns.{held_blank, powered_state, lists_from, came_begins, came_on, came_ends}
use Rattle.listing.proofs.listing.take_input.Goals as goal

pub list_nets-requires-clause-list_len : goal.list_nets-requires-clause-list_len
list_nets-requires-clause-list_len g c = c.requires.outs_len.0 ∙ ((check_none _).0 c.requires.image_value.0).outputs

pub loop-read-init : goal.loop-read-init
loop-read-init g c =
    let first = c.begun-p.ensures in
    let pre = c.requires in
    record {
      state = rw (ap (λ (x : PoweredUp). x.state) c.power_up.ensures) (powered_state _ _ pre.image_value.0 pre.outs_len.1);
      room = record { written = omega (arith, first.2); used = omega (arith, first.1); longest = pre.inputs_in_bounds.2 };
      cycles = omega (arith, first.0);
      have = pre.image_value.2;
      written = λ h. first.2 ∙ sym first.1;
      came = λ h. came_begins;
    }

pub invariant_of-netlist : goal.invariant_of-netlist
invariant_of-netlist g c =
    let pre = c.requires.image_value in
    record { known = record { outs = record { accepted = pre.0; listed = c.list_nets.ensures }; inputs = pre.1; some = pre.2 } }

pub take_turn-turn-requires-clause-known : goal.take_turn-turn-requires-clause-known
take_turn-turn-requires-clause-known g c =
    let outs : Outs c.args.image.now c.list_nets.new.list = record { accepted = c.requires.image_value.0; listed = c.list_nets.ensures } in
    (c.loop-read.invariant.state, omega (arith, outs_few outs, c.requires.outs_len.2, c.loop-read.auto.outputs))

pub loop-read-preserved : goal.loop-read-preserved
loop-read-preserved g c =
    let inv = c.loop-read.invariant in
    let did = c.take_turn-turn.ensures in
    let leaves = did.leaves.0 in
    record {
      state = leaves.state;
      room = leaves.room;
      cycles = omega (arith, leaves.cycles, inv.cycles, c.loop-read.auto.rows, c.requires.inputs_in_bounds.1);
      have = did.leaves.2;
      written = did.leaves.1;
      came = λ ok. came_on c.requires.image_value.2 (inv.came c.if-p.false) (search rules) (did.turned ok);
    }

pub returns-else-p-2 : goal.returns-else-p-2
returns-else-p-2 g c closed =
    let first = c.begun-p.ensures in
    lists_from
    (held_blank _ c.begun-p.result (ap (λ (x : PoweredUp). x.state) c.power_up.ensures) first.0 first.1 first.3)
    (came_ends c.requires.image_value.2 (c.loop-read.invariant.came c.if-p-2.false) closed)
