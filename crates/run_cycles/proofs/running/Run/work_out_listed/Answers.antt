-- `run_cycles::running::Run::work_out_listed` meets its contract: with the sources in place and the gates settled, the bytes are those of the cycle.
use Rattle.std.proofs.Common.{rules, ℕ, ◌≤◌, List, length, arith}
use mathlib.Core.Path.{◌≡◌, refl, sym, ◌∙◌}
use Rattle.gates.specs.Kinds.{INPUT, REG}
use Rattle.checking.proofs.Checked.{check_none}
use Rattle.lists.specs.Lists.{Put}
use Rattle.lists.proofs.Placing.{places_fit, listed_places}
use Rattle.inverses.specs.Inverses.{Both}
use Rattle.run_cycles.proofs.Cycling.{settled_bytes, settled_prepared, list_size, taken_ready}
use Rattle.run_cycles.proofs.running.Run.work_out_listed.Goals as goal

-- bytes that are put leave the nets as many, and with their inverses
size-kept : {w : ℕ} {list bytes before after : List ℕ} {j m : ℕ} → Put w list bytes before after j → length before ≡ m → length after ≡ m
size-kept put e = put.size ∙ e

both-kept : {w : ℕ} {list bytes before after : List ℕ} {j n : ℕ} → Put w list bytes before after j → n ≤ 8192 → Both w before n → Both w after n
both-kept put few both = put.both _ (omega arith) both

pub put_bytes-requires-clause-bytes_len : goal.put_bytes-requires-clause-bytes_len
put_bytes-requires-clause-bytes_len c =
    let s = c.args.self.now.image.now in
    let f = c.requires.made.found in
    let r = taken_ready c.requires.takes in
    (r.size ∙ r.image.inputs ∙ sym (list_size s INPUT f.ins), places_fit r.image.few_nets (listed_places s refl INPUT f.ins), c.requires.ready.0)

pub put_bytes-requires-2-clause-bytes_len : goal.put_bytes-requires-2-clause-bytes_len
put_bytes-requires-2-clause-bytes_len c =
    let s = c.args.self.now.image.now in
    let f = c.requires.made.found in
    let r = taken_ready c.requires.takes in
    (r.registers.size ∙ r.image.registers ∙ sym (list_size s REG f.regs), places_fit r.image.few_nets (listed_places s refl REG f.regs), search rules)

pub settle_nets-requires-clause-image_value : goal.settle_nets-requires-clause-image_value
settle_nets-requires-clause-image_value c =
    let r = taken_ready c.requires.takes in
    let few = r.image.few_nets in
    let both = c.requires.ready.1.both in
    ((check_none _).1 r.image, search (rules, size-kept), search (rules, both-kept, few, both))

pub returns-clause-nets_after : goal.returns-clause-nets_after
returns-clause-nets_after c =
    let f = c.requires.made.found in
    let r = taken_ready c.requires.takes in
    settled_bytes r.image c.requires.ready.0 c.requires.ready.1 f.ins f.regs c.put_bytes.ensures c.put_bytes-2.ensures c.settle_nets.ensures

pub returns-clause-prepared : goal.returns-clause-prepared
returns-clause-prepared c =
    let f = c.requires.made.found in
    let r = taken_ready c.requires.takes in
    settled_prepared r.image c.requires.ready.0 c.requires.ready.1 f.ins f.regs c.put_bytes.ensures c.put_bytes-2.ensures c.settle_nets.ensures
