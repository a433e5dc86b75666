-- `lists::lists::find_parts` meets its contract: there is room for the lists of the INPUTs, the REGs and the OUTs.
use Rattle.std.proofs.Common.{List, ℕ, ◌+◌, ◌≤◌, ◌≡◌, ◌∙◌, ap, arith}
use Rattle.image.specs.declared.image.Sizes.{Sizes}
use Rattle.image.specs.Image.{sizes_of}
use Rattle.checking.proofs.Checked.{Checked, check_none}
use Rattle.checking.specs.Check.{check_refusal}
use Rattle.std.proofs.Math.Option.{none}
use Rattle.lists.specs.Lists.{protected_of}
use Rattle.lists.proofs.Parting.{few_sources}
use Rattle.lists.proofs.lists.find_parts.Goals as goal

-- the sizes are few
few : (image : List ℕ) {z : Sizes} → check_refusal image ≡ none → z ≡ sizes_of image → z.inputs + z.registers + z.outputs ≤ 8192
few image known e =
    let checked : Checked image = (check_none image).0 known in
    rw e (few_sources checked)

pub sizes_of-z-requires : goal.sizes_of-z-requires
sizes_of-z-requires c = let known : Checked c.args.image.now = (check_none _).0 c.requires.0 in omega (arith, known.exact)

pub overflow_add-outs : goal.overflow_add-outs
overflow_add-outs c = record { fits = omega (arith, few c.args.image.now c.requires.0 c.sizes_of-z.ensures) }

pub overflow_add-end : goal.overflow_add-end
overflow_add-end c = record { fits = omega (arith, few c.args.image.now c.requires.0 c.sizes_of-z.ensures) }

pub list_kinds-requires-clause-end_in_bounds : goal.list_kinds-requires-clause-end_in_bounds
list_kinds-requires-clause-end_in_bounds c = omega (arith, few c.args.image.now c.requires.0 c.sizes_of-z.ensures)

pub offset_bounds-list-outs : goal.offset_bounds-list-outs
offset_bounds-list-outs c = record { fits = omega (arith, few c.args.image.now c.requires.0 c.sizes_of-z.ensures) }

pub slice_bounds-list_protected-end : goal.slice_bounds-list_protected-end
slice_bounds-list_protected-end c = omega (arith, few c.args.image.now c.requires.0 c.sizes_of-z.ensures)

pub lowest_gate-requires : goal.lowest_gate-requires
lowest_gate-requires c =
    let known : Checked c.args.image.now = (check_none _).0 c.requires.0 in
    rw c.sizes_of-z.ensures (omega (arith, known.exact))

pub returns : goal.returns
returns c =
    let lists = c.list_kinds.ensures in
    let watched = c.list_protected-watched.ensures in
    let sizes = few c.args.image.now c.requires.0 c.sizes_of-z.ensures in (
      record {
        from_upto = rw c.sizes_of-z.ensures at c.lowest_gate.ensures.0;
        none_below = c.lowest_gate.ensures.1;
        in_order = (omega arith, omega arith, omega arith);
        ins = lists.inputs;
        regs = lists.registers;
        outs = lists.outputs;
      },
      record { there = watched.0; are = watched.1 ∙ ap (protected_of c.args.image.now) lists.outputs },
    )
