-- The turns begin at power-up, with nothing printed.
use Rattle.std.proofs.Common.{arith, refl, ◌∙◌}
use Rattle.std.proofs.lemmas.Bool.{not-false}
use Rattle.checking.proofs.Checked.{check_none}
use Rattle.pages.proofs.AllTurns.{came_begins, holds_on, powered}
use Rattle.pages.proofs.printing.take_input.Goals as goal

pub list_nets-requires-clause-list_len : goal.list_nets-requires-clause-list_len
list_nets-requires-clause-list_len g c = c.requires.outs_len.0 ∙ ((check_none _).0 c.requires.image_value.0).outputs

pub loop-turn-init : goal.loop-turn-init
loop-turn-init g c h =
    let pre = c.requires in
    let same = c.list_nets.auto.list in
    let begins = powered c.args.image.now c.args.state.now c.power_up.result pre.image_value.0 pre.outs_len.1 c.power_up.ensures in
    record {
      asks =
          record {
            accepted = pre.image_value.0;
            inputs = pre.image_value.1;
            some = pre.image_value.2;
            listed = c.list_nets.ensures;
            state = begins.0;
            output_bytes = omega (arith, same, pre.outs_len.2);
            room = omega (arith, same, pre.rows_len.1);
          };
      came = came_begins _ begins.1 refl refl;
    }

pub loop-turn-preserved : goal.loop-turn-preserved
loop-turn-preserved g c h =
    let kept = c.take_turn-p.auto in
    holds_on (c.loop-turn.invariant c.if-p.false) (not-false _ c.if-not-p.false) (c.take_turn-p.ensures h)
    (kept.rows ∙ c.loop-turn.auto.rows ∙ c.requires.rows_len.0) kept.outputs kept.text
