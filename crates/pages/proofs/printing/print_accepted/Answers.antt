-- An accepted image has at most 8,192 inputs, registers and outputs, so that the buffers have room.
use Rattle.std.proofs.Common.{rules, ◌≡◌, ◌*◌, ◌≤◌, [], arith, sym, ap, ◌∙◌, List}
use Prim.Native.Nat.{ℕ}
use Rattle.std.proofs.Math.Option.{none}
use Rattle.gates.specs.Kinds.{INPUT, REG, OUT}
use Rattle.image.specs.Image.{sizes_of}
use Rattle.image.specs.declared.image.Sizes.{Sizes}
use Rattle.checking.specs.Check.{check_refusal}
use Rattle.checking.proofs.Checked.{check_none, few_of}
use Rattle.cycle.specs.State.{state_length}
use Rattle.text.proofs.Buffers.{zeros_length, zeros_room, front_length}
use Rattle.pages.proofs.AllTurns.{printed_none, at_once}
use Rattle.pages.proofs.Room.{outputs_room, page_room}
use Rattle.pages.proofs.printing.print_accepted.Goals as goal

module _ (s : List ℕ) (z : Sizes) (accepted : check_refusal s ≡ none) (is : z ≡ sizes_of s) where
  few-inputs : 64 * z.inputs ≤ 524288
  few-inputs = let image = (check_none _).0 accepted in omega (arith, ap (λ (x : Sizes). x.inputs) is, image.inputs, few_of image INPUT)

  few-registers : z.registers ≤ 8192
  few-registers = let image = (check_none _).0 accepted in omega (arith, ap (λ (x : Sizes). x.registers) is, image.registers, few_of image REG)

  few-outputs : z.outputs ≤ 8192
  few-outputs = let image = (check_none _).0 accepted in omega (arith, ap (λ (x : Sizes). x.outputs) is, image.outputs, few_of image OUT)

  few-state : (n : ℕ) → n ≡ state_length z → n ≤ 8194
  few-state n e = omega (arith, few-registers)

pub returns-then-z-eq0 : goal.returns-then-z-eq0
returns-then-z-eq0 g c h =
    let none = printed_none c.args.image.now [] c.requires.0 (sym (ap (λ (z : Sizes). z.inputs) c.requires.1) ∙ c.if-z-eq0.true) in
    at_once c.args.image.now c.args.text.now 0 (sym none)

pub state_length-requires : goal.state_length-requires
state_length-requires g c = omega (arith, few-registers c.args.image.now c.args.z c.requires.0 c.requires.1)

pub overflow_mul-rows : goal.overflow_mul-rows
overflow_mul-rows g c = record { fits = omega (arith, few-inputs c.args.image.now c.args.z c.requires.0 c.requires.1) }

pub slice_bounds-outs-end : goal.slice_bounds-outs-end
slice_bounds-outs-end g c = few-outputs c.args.image.now c.args.z c.requires.0 c.requires.1

pub slice_bounds-take_input-end : goal.slice_bounds-take_input-end
slice_bounds-take_input-end g c = sym (front_length 8192 c.args.z.outputs (few-outputs c.args.image.now c.args.z c.requires.0 c.requires.1))

pub slice_bounds-state-end : goal.slice_bounds-state-end
slice_bounds-state-end g c = few-state c.args.image.now c.args.z c.requires.0 c.requires.1 _ c.state_length.ensures

pub slice_bounds-take_input-end-2 : goal.slice_bounds-take_input-end-2
slice_bounds-take_input-end-2 g c =
    sym (front_length 8194 c.state_length.result (few-state c.args.image.now c.args.z c.requires.0 c.requires.1 _ c.state_length.ensures))

pub slice_bounds-take_input-end-3 : goal.slice_bounds-take_input-end-3
slice_bounds-take_input-end-3 g c = sym (zeros_length 524288)

pub slice_bounds-rows-end : goal.slice_bounds-rows-end
slice_bounds-rows-end g c = zeros_room 524288 (few-inputs c.args.image.now c.args.z c.requires.0 c.requires.1)

pub slice_bounds-take_input-end-4 : goal.slice_bounds-take_input-end-4
slice_bounds-take_input-end-4 g c =
    sym (front_length 524288 (64 * c.args.z.inputs) (few-inputs c.args.image.now c.args.z c.requires.0 c.requires.1))

pub take_input-requires-clause-outs_len : goal.take_input-requires-clause-outs_len
take_input-requires-clause-outs_len g c =
    let s = c.args.image.now in
    let z = c.args.z in
    let is = c.requires.1 in
    let few = few-outputs s z c.requires.0 is in (
      front_length 8192 z.outputs few ∙ ap (λ (x : Sizes). x.outputs) is,
      front_length 8194 c.state_length.result (few-state s z c.requires.0 is _ c.state_length.ensures) ∙ c.state_length.ensures ∙ ap state_length is,
      outputs_room 8192 524288 z.outputs few (omega arith),
    )

pub take_input-requires-clause-rows_len : goal.take_input-requires-clause-rows_len
take_input-requires-clause-rows_len g c =
    let z = c.args.z in
    let few = few-outputs c.args.image.now z c.requires.0 c.requires.1 in (
      front_length 524288 (64 * z.inputs) (few-inputs c.args.image.now z c.requires.0 c.requires.1),
      page_room 8192 _ z.outputs few (search rules),
    )
