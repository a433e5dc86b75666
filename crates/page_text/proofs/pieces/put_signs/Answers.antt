-- The signs are put one by one.
use Rattle.std.proofs.Common.{◌≡◌, ◌∙◌, get_or, ap, arith}
use Rattle.std.proofs.lemmas.List.{length-map}
use Rattle.text.proofs.Putting.{put_begins, put_goes_on, put_ends}
use Rattle.page_text.specs.Pages.{sign}
use Rattle.page_text.specs.Columns.{column_bytes}
use Rattle.page_text.proofs.Signs.{output_length}
use Rattle.page_text.proofs.pieces.put_signs.Goals as goal

pub loop-c-init : goal.loop-c-init
loop-c-init c = let p = c.args.column in put_begins (omega (arith, output_length p.outputs p.output p.cycles p.bytes.now))

pub loop-c-preserved : goal.loop-c-preserved
loop-c-preserved c =
    let p = c.args.column in
    let put : get_or c.signs-table.result c.from.result 0 ≡ sign (get_or (column_bytes p) c.loop-c.c 0) =
    ap (λ n. get_or c.signs-table.result n 0) c.from.ensures ∙ c.signs-table.ensures c.byte.result ∙ ap sign c.byte.ensures in
    rw put (put_goes_on (omega (arith, output_length p.outputs p.output p.cycles p.bytes.now)) c.loop-c.invariant)

pub returns-clause-page_after : goal.returns-clause-page_after
returns-clause-page_after c =
    let p = c.args.column in
    (put_ends (omega (arith, output_length p.outputs p.output p.cycles p.bytes.now)) c.loop-c.invariant).0

pub returns-clause-value : goal.returns-clause-value
returns-clause-value c =
    let p = c.args.column in
    omega (arith, output_length p.outputs p.output p.cycles p.bytes.now, length-map (column_bytes p) sign)
