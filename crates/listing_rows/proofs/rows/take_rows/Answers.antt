-- Each piece is some whole rows, and at the end all are taken, unless a line is the last or a write failed.
use Rattle.std.proofs.Common.{◌*◌, ◌/◌, ◌≤◌, ◌≡◌, arith, rules, sym, ap, ◌∙◌, length, length-append}
use Rattle.std.proofs.Math.Nat.{mul-le-mul_right, mul-le-mul, le-mul_of_pos_right}
use Rattle.std.proofs.Math.Seq.{length-take-le}
use Rattle.gates.specs.Kinds.{INPUT}
use Rattle.checking.proofs.Checked.{check_none, few_of}
use Rattle.listing_rows.proofs.Piecewise.{Piece, whole_counted, piece_whole, piece_few, partly_begins, partly_whole, partly_goes_on, partly_closed, leaves_begin, leaves_then}
use Rattle.listing_rows.proofs.rows.take_rows.Given.{Over}
use Rattle.listing_rows.proofs.rows.take_rows.Goals as goal
use Rattle.listing_rows.proofs.rows.take_rows.Goals.{then-not-p-via-then-not-p, then-not-p-via-else-not-p+then-p, Else-p}

pub overflow_mul-most : goal.overflow_mul-most
overflow_mul-most g c =
    let known = c.requires.known.0 in
    let image = (check_none _).0 known.outs.accepted in
    let few : c.args.inputs ≤ 8192 = omega (arith, known.inputs, image.inputs, few_of image INPUT) in
    record { fits = omega (arith, mul-le-mul c.most_rows-most.ensures.1 few) }

pub loop-piece-init : goal.loop-piece-init
loop-piece-init g c =
    let e = c.into_iter-piece-iterator.ensures.into_iter_gives in
    let size : c.into_iter-piece-iterator.result.size ≡ c.most_rows-most.result * c.args.inputs = rw e c.chunks-piece-items.ensures.size in
    let rest : c.into_iter-piece-iterator.result.rest.now ≡ c.args.rows.now = rw e c.chunks-piece-items.ensures.rest in
    record { size = size; leaves = leaves_begin c.requires.known.1 c.requires.outs_in_bounds.1; partly = partly_begins rest }

pub returns-then-not-p-clause-taken : goal.returns-then-not-p-clause-taken
returns-then-not-p-clause-taken g c ok =
    elim c.then-not-p.branch [
      | then-not-p-via-then-not-p w ↦ partly_closed c.loop-piece.invariant.partly c.requires.known.0.some (search rules) ok
      | then-not-p-via-else-not-p+then-p w ↦ cc (ok, w.if-p.true)
    ]

-- the piece at hand, and its output bytes
piece : (g : Over) (c : Else-p g) → Piece c.args.inputs c.most_rows-most.result c.loop-piece.piece-iterator.rest.now c.in-Some.piece.now c.next.new.self.rest.now
piece g c = let step = c.in-Some.ensures.steps in record { is = step.1.0; size = rw c.loop-piece.invariant.size at step.1.1 }

few : (g : Over) (c : Else-p g) → length c.in-Some.piece.now / c.args.inputs * length c.args.outs.now ≤ length c.loop-piece.outputs
few g c =
    let rows = piece_few c.requires.known.0.some (piece g c) in
    omega (arith, mul-le-mul_right (length c.args.outs.now) rows, c.most_rows-most.ensures.2, c.loop-piece.auto.outputs)

pub overflow_mul-filled : goal.overflow_mul-filled
overflow_mul-filled g c = record { fits = omega (arith, few g (goal.at.overflow_mul-filled g c).Else-p) }

pub slice_bounds-take_many-end : goal.slice_bounds-take_many-end
slice_bounds-take_many-end g c = few g (goal.at.slice_bounds-take_many-end g c).Else-p

pub slice_bounds-take_many-end-in-loop-piece : goal.slice_bounds-take_many-end-in-loop-piece
slice_bounds-take_many-end-in-loop-piece g c = sym (length-take-le _ _ (few g (goal.at.slice_bounds-take_many-end-in-loop-piece g c).Else-p))

pub take_many-p-requires : goal.take_many-p-requires
take_many-p-requires g c =
    let at = (goal.at.take_many-p-requires g c).Else-p in
    let known = c.requires.known in
    let inv = c.loop-piece.invariant in
    let left = partly_whole inv.partly known.0.some known.2 in
    let counted = whole_counted known.0.some (piece_whole known.0.some (piece g at) left) in
    record {
      known = known.0;
      state = inv.leaves.state;
      few = omega (arith, piece_few known.0.some (piece g at), c.most_rows-most.ensures.1);
      row_bytes = sym counted;
      output_bytes = length-take-le _ _ (few g at);
      room = inv.leaves.room;
      going = search rules;
      count = omega (
        arith,
        inv.leaves.cycles,
        inv.partly.upto,
        c.requires.outs_in_bounds.2,
        counted,
        (piece g at).size,
        le-mul_of_pos_right (length c.in-Some.piece.now / c.args.inputs) known.0.some,
      );
    }

pub loop-piece-preserved : goal.loop-piece-preserved
loop-piece-preserved g c =
    let at = (goal.at.loop-piece-preserved g c).Else-p in
    let many = c.take_many-p in
    let known = c.requires.known in
    let inv = c.loop-piece.invariant in
    let left = partly_whole inv.partly known.0.some known.2 in
    let counted = whole_counted known.0.some (piece_whole known.0.some (piece g at) left) in
    record {
      size = c.in-Some.ensures.steps.0 ∙ inv.size;
      leaves = leaves_then
          (omega (
            arith,
            inv.partly.upto,
            counted,
            ap length (piece g at).is,
            length-append c.in-Some.piece.now c.next.new.self.rest.now,
            le-mul_of_pos_right (length c.in-Some.piece.now / c.args.inputs) known.0.some,
          ))
          inv.leaves many.ensures.leaves;
      partly = partly_goes_on inv.partly known.0.some (piece g at) left c.if-p.false many.ensures.taken;
    }
