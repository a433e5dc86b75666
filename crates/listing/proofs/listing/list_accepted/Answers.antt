-- An accepted image has at most 8,192 inputs, registers and outputs, and the buffer for rows has room for one row at least.
use Rattle.std.proofs.Common.{rules, ◌≡◌, ◌≤◌, arith, sym, ap, ◌∙◌, length, take, List}
use Prim.Native.Nat.{ℕ}
use Rattle.std.proofs.Math.Option.{none}
use Rattle.gates.specs.Kinds.{INPUT, REG, OUT}
use Rattle.image.specs.Image.{sizes_of}
use Rattle.image.specs.declared.image.Sizes.{Sizes}
use Rattle.checking.specs.Check.{check_refusal}
use Rattle.checking.proofs.Checked.{check_none, few_of}
use Rattle.cycle.specs.State.{state_length}
use Rattle.text.proofs.Buffers.{zeros, zeros_room, front_length}
use Rattle.listing.proofs.Buffers.{rows_most, row_room}
use Rattle.listing.proofs.Listings.{end_blank, end_only, listing_rows}
use Rattle.listing.proofs.listing.list_accepted.Goals as goal

module _ (s : List ℕ) (z : Sizes) (accepted : check_refusal s ≡ none) (is : z ≡ sizes_of s) where
  few-inputs : z.inputs ≤ 8192
  few-inputs = let image = (check_none _).0 accepted in omega (arith, ap (λ (x : Sizes). x.inputs) is, image.inputs, few_of image INPUT)

  few-registers : z.registers ≤ 8192
  few-registers = let image = (check_none _).0 accepted in omega (arith, ap (λ (x : Sizes). x.registers) is, image.registers, few_of image REG)

  few-outputs : z.outputs ≤ 8192
  few-outputs = let image = (check_none _).0 accepted in omega (arith, ap (λ (x : Sizes). x.outputs) is, image.outputs, few_of image OUT)

  few-state : (n : ℕ) → n ≡ state_length z → n ≤ 8194
  few-state n e = omega (arith, few-registers)

  state-size : (n : ℕ) → n ≡ state_length z → length (take n (zeros 8194)) ≡ state_length z
  state-size n e = front_length 8194 n (few-state n e) ∙ e

pub returns-then-z-eq0-clause-listing : goal.returns-then-z-eq0-clause-listing
returns-then-z-eq0-clause-listing g c h =
    let begun = c.begun.ensures in
    let line = c.print_end.ensures.result_after ∙ end_blank _ c.begun.result begun.0 begun.1 begun.3 in
    let inputs = sym (ap (λ (z : Sizes). z.inputs) c.requires.1) ∙ c.if-z-eq0.true in
    end_only c.args.image.now c.args.text.now c.requires.0 inputs line

pub state_length-st-requires : goal.state_length-st-requires
state_length-st-requires g c = omega (arith, few-registers c.args.image.now c.args.z c.requires.0 c.requires.1)

pub slice_bounds-outs-end : goal.slice_bounds-outs-end
slice_bounds-outs-end g c = few-outputs c.args.image.now c.args.z c.requires.0 c.requires.1

pub slice_bounds-take_input-end : goal.slice_bounds-take_input-end
slice_bounds-take_input-end g c = sym (front_length 8192 c.args.z.outputs (few-outputs c.args.image.now c.args.z c.requires.0 c.requires.1))

pub slice_bounds-state-end : goal.slice_bounds-state-end
slice_bounds-state-end g c = few-state c.args.image.now c.args.z c.requires.0 c.requires.1 _ c.state_length-st.ensures

pub slice_bounds-take_input-end-2 : goal.slice_bounds-take_input-end-2
slice_bounds-take_input-end-2 g c =
    sym (front_length 8194 c.state_length-st.result (few-state c.args.image.now c.args.z c.requires.0 c.requires.1 _ c.state_length-st.ensures))

pub take_input-requires-clause-outs_len : goal.take_input-requires-clause-outs_len
take_input-requires-clause-outs_len g c =
    let s = c.args.image.now in
    let z = c.args.z in
    let is = c.requires.1 in (
      front_length 8192 z.outputs (few-outputs s z c.requires.0 is) ∙ ap (λ (x : Sizes). x.outputs) is,
      state-size s z c.requires.0 is _ c.state_length-st.ensures ∙ ap state_length is,
      zeros_room 65536 (omega arith),
    )

pub take_input-requires-clause-inputs_in_bounds : goal.take_input-requires-clause-inputs_in_bounds
take_input-requires-clause-inputs_in_bounds g c =
    let z = c.args.z in
    let few = few-inputs c.args.image.now z c.requires.0 c.requires.1 in
    (row_room 65536 z.inputs (omega (arith, c.if-z-eq0.false)) (omega (arith, few)), rows_most 65536 z.inputs, search rules)

pub returns-clause-listing : goal.returns-clause-listing
returns-clause-listing g c h =
    listing_rows c.args.image.now c.args.text.now c.requires.0 _ c.requires.1 c.if-z-eq0.false
    (state-size c.args.image.now c.args.z c.requires.0 c.requires.1 _ c.state_length-st.ensures)
    (c.take_input.ensures h)
