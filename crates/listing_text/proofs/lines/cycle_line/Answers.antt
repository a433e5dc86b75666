-- The pieces of a line are not too long together, the length that was counted is the line's, and the line is put where it fits.
use Rattle.std.proofs.Common.{arith, rules}
use Rattle.cycle.specs.Answers.{verdict_in}
use Rattle.text.proofs.Decimal.{decimal_most}
use Rattle.listing_text.proofs.Lengths.{outputs_most, verdict_most, cycle_length}
use Rattle.listing_text.proofs.Fitting.{line_did}
use Rattle.listing_text.proofs.lines.cycle_line.Goals as goal

pub overflow_add-bytes : goal.overflow_add-bytes
overflow_add-bytes c =
    record { fits = omega (arith, c.outputs_length.ensures, c.digit_count.ensures, decimal_most c.args.cycle, outputs_most c.args.outputs.now, c.well_formed) }

pub overflow_add-bytes-2 : goal.overflow_add-bytes-2
overflow_add-bytes-2 c =
    record {
      fits = omega (
        arith,
        c.verdict_length.ensures,
        c.outputs_length.ensures,
        c.digit_count.ensures,
        decimal_most c.args.cycle,
        outputs_most c.args.outputs.now,
        verdict_most (verdict_in c.args.verdict),
        c.well_formed,
      );
    }

pub overflow_add-bytes-3 : goal.overflow_add-bytes-3
overflow_add-bytes-3 c =
    record {
      fits = omega (
        arith,
        c.verdict_length.ensures,
        c.outputs_length.ensures,
        c.digit_count.ensures,
        decimal_most c.args.cycle,
        outputs_most c.args.outputs.now,
        verdict_most (verdict_in c.args.verdict),
        c.well_formed,
      );
    }

pub put_where_it_fits-requires : goal.put_where_it_fits-requires
put_where_it_fits-requires c = grind (arith, cycle_length, c.verdict_length.ensures, c.outputs_length.ensures, c.digit_count.ensures)

pub returns : goal.returns
returns c =
    line_did _ _ _
    (omega (
      arith,
      c.verdict_length.ensures,
      c.outputs_length.ensures,
      c.digit_count.ensures,
      cycle_length c.args.cycle c.args.outputs.now (verdict_in c.args.verdict),
    ))
    (λ h. let put = c.put_where_it_fits.ensures.put_there h in search (rules, put))
    c.put_where_it_fits.ensures.left
