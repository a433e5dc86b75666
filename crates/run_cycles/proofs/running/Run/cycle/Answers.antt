-- `run_cycles::running::Run::cycle` meets its contract: the bytes of all nets are those of the cycle, and so are what is read off them.
use Rattle.std.proofs.Common.{ℕ, ◌≤◌, List, length, arith}
use mathlib.Core.Path.{◌≡◌, refl, sym, ap, ◌∙◌}
use mathlib.Core.List.{map}
use lib.ListN.{get_or}
use Rattle.gates.specs.Kinds.{REG, OUT}
use Rattle.gates.specs.Rules.{mark}
use Rattle.unknowns.specs.Widths.{rule_by}
use Rattle.image.specs.Image.{sizes_of, nets_of}
use Rattle.checking.proofs.Checked.{Checked}
use Rattle.cycle.specs.Answers.{verdict_in, first_flow_in}
use Rattle.cycle.specs.Cycle as cycle
use Rattle.cycle.specs.Cycle.{verdict_from, outputs_from, cycle_of, first_of}
use Rattle.lists.specs.Lists.{first_marked}
use Rattle.lists.proofs.Placing.{places_fit, listed_places, outputs_listed, protected_within, protected_verdict}
use Rattle.run_cycles.proofs.Cycling.{verdict_off, outputs_off, clocked_off, pins_clocked, list_size, taken_ready}
use Rattle.run_cycles.proofs.running.Run.cycle.Goals as goal

-- the net bytes that were worked out are as many as before, and those of the image's nets are among them
enough : {s : List ℕ} → Checked s → (nets worked : List ℕ) → length worked ≡ length nets → length nets ≡ 40960 → (sizes_of s).nets ≤ length worked
enough image nets worked e size = omega (arith, e, size, image.few_nets)

pub first_listed-first-requires : goal.first_listed-first-requires
first_listed-first-requires c =
    let s = c.args.self.now.image.now in
    let image = (taken_ready c.requires.takes).image in
    let below = protected_within s (places_fit (enough image _ _ c.work_out_listed.auto.nets c.requires.ready.0) (listed_places s refl OUT refl)).within in
    rw (← c.requires.made.watched.are) at below

pub take_bytes-requires : goal.take_bytes-requires
take_bytes-requires c =
    let s = c.args.self.now.image.now in
    let f = c.requires.made.found in
    let image = (taken_ready c.requires.takes).image in (
      c.requires.outputs_len ∙ image.outputs ∙ sym (list_size s OUT f.outs),
      (places_fit (enough image _ _ c.work_out_listed.auto.nets c.requires.ready.0) (listed_places s refl OUT f.outs)).within,
    )

pub clock_listed-requires-clause-list_value : goal.clock_listed-requires-clause-list_value
clock_listed-requires-clause-list_value c =
    let f = c.requires.made.found in
    let r = taken_ready c.requires.takes in
    (f.regs, r.registers.size ∙ r.image.registers ∙ sym (list_size c.args.self.now.image.now REG f.regs))

pub returns-clause-result_value : goal.returns-clause-result_value
unfolding cycle_of
returns-clause-result_value c =
    let s = c.args.self.now.image.now in
    let nets = c.work_out_listed.new.nets in
    let image = (taken_ready c.requires.takes).image in
    let earlier = c.args.earlier in
    let verdict =
    ap (λ l. first_marked l nets) c.requires.made.watched.are ∙ protected_verdict s nets ∙ verdict_off image nets
    ∙ ap (λ bs. verdict_from mark 0 (nets_of s) bs) c.work_out_listed.ensures.nets_after in
    c.first_listed-first.ensures ∙ ap (λ v. first_of earlier.cycle (verdict_in earlier.verdict) (first_of c.args.c v (first_flow_in earlier))) verdict

pub returns-clause-outputs_after : goal.returns-clause-outputs_after
unfolding cycle_of
returns-clause-outputs_after c =
    let s = c.args.self.now.image.now in
    let nets = c.work_out_listed.new.nets in
    c.take_bytes.ensures ∙ ap (map (λ i. get_or nets i 0)) c.requires.made.found.outs ∙ outputs_listed s refl nets
    ∙ outputs_off (taken_ready c.requires.takes).image nets
    ∙ ap (λ bs. outputs_from 0 (nets_of s) bs) c.work_out_listed.ensures.nets_after

pub returns-clause-state_after : goal.returns-clause-state_after
unfolding cycle_of
returns-clause-state_after c =
    let s = c.args.self.now.image.now in
    let nets = c.work_out_listed.new.nets in
    let image = (taken_ready c.requires.takes).image in
    let rule = rule_by c.args.self.now.width in
    c.clock_listed.ensures ∙ pins_clocked image nets c.work_out_listed.ensures.prepared.both c.requires.made.found.regs ∙ clocked_off image nets rule
    ∙ ap (λ bs. cycle.clocked rule (nets_of s) bs) c.work_out_listed.ensures.nets_after
