-- The length that was counted is the line's, and the line is put where it fits.
use Rattle.std.proofs.Common.{arith, rules}
use Rattle.text.proofs.Decimal.{decimal_most}
use Rattle.listing_text.proofs.Lengths.{refused_length}
use Rattle.listing_text.proofs.Fitting.{line_did}
use Rattle.listing_text.proofs.lines.refused_line.Goals as goal

pub overflow_add-bytes : goal.overflow_add-bytes
overflow_add-bytes c =
    record { fits = omega (arith, c.digit_count-2.ensures, c.digit_count.ensures, decimal_most c.args.refusal.number, decimal_most c.args.refusal.place) }

pub overflow_add-bytes-2 : goal.overflow_add-bytes-2
overflow_add-bytes-2 c =
    record { fits = omega (arith, c.digit_count-2.ensures, c.digit_count.ensures, decimal_most c.args.refusal.number, decimal_most c.args.refusal.place) }

pub put_where_it_fits-requires : goal.put_where_it_fits-requires
put_where_it_fits-requires c = grind (arith, refused_length, c.digit_count.ensures, c.digit_count-2.ensures)

pub returns : goal.returns
returns c =
    line_did _ _ _ (omega (arith, c.digit_count-2.ensures, c.digit_count.ensures, refused_length c.args.refusal))
    (λ h. let put = c.put_where_it_fits.ensures.put_there h in search (rules, put))
    c.put_where_it_fits.ensures.left
