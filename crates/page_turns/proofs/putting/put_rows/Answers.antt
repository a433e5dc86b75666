-- The whole rows among the bytes are run, and what they give is put into the text.
use Rattle.std.proofs.Common.{sym, length-take-le}
use Rattle.page_turns.proofs.RowsPrinted.{outs_few, rows_lent, good_few, shown_within, rows_printed}
use Rattle.page_turns.proofs.putting.put_rows.Goals as goal

pub run_rows-ran-requires : goal.run_rows-ran-requires
run_rows-ran-requires c = rows_lent c.requires.0 c.args.bytes.now c.requires.1

pub slice_bounds-put_cycles-end : goal.slice_bounds-put_cycles-end
slice_bounds-put_cycles-end c = shown_within c.requires.0 c.args.bytes.now c.requires.1 c.run_rows-ran.ensures c.run_rows-ran.auto.outputs

pub slice_bounds-put_cycles-end-2 : goal.slice_bounds-put_cycles-end-2
slice_bounds-put_cycles-end-2 c =
    sym (length-take-le _ _ (shown_within c.requires.0 c.args.bytes.now c.requires.1 c.run_rows-ran.ensures c.run_rows-ran.auto.outputs))

pub put_cycles-page-requires-clause-outs_len_bound : goal.put_cycles-page-requires-clause-outs_len_bound
put_cycles-page-requires-clause-outs_len_bound c =
    let asks = c.requires.0 in
    let few = c.requires.1 in
    let did = c.run_rows-ran.ensures in
    let kept = c.run_rows-ran.auto.outputs in
    (outs_few asks, good_few asks c.args.bytes.now few did kept, length-take-le _ _ (shown_within asks c.args.bytes.now few did kept))

pub returns : goal.returns
returns c =
    let page = c.put_cycles-page.ensures in
    let last = c.put_last-used.ensures in
    rows_printed c.requires.0 c.args.bytes.now c.requires.1 c.run_rows-ran.ensures c.run_rows-ran.auto.outputs c.args.first c.or_short-o.result
    page.text_after page.value.0 c.or_short-o.ensures last.text_after last.value.0 last.value.1
