-- No cycle gives no page, and at most 64 give one.
use Rattle.std.proofs.Common.{arith}
use Rattle.page_text.proofs.PageParts.{Numbers, page_length}
use Rattle.page_turns.proofs.TextParts.{no_page, one_page}
use Rattle.page_turns.proofs.putting.put_cycles.Goals as goal

pub returns-then-n-eq0-clause-text_after : goal.returns-then-n-eq0-clause-text_after
returns-then-n-eq0-clause-text_after c = rw (no_page c.args.first c.args.n c.args.outs.now c.args.bytes.now c.if-n-eq0.true)

pub returns-then-n-eq0-clause-value : goal.returns-then-n-eq0-clause-value
returns-then-n-eq0-clause-value c = (rw (no_page c.args.first c.args.n c.args.outs.now c.args.bytes.now c.if-n-eq0.true), omega arith)

pub returns-clause-text_after : goal.returns-clause-text_after
returns-clause-text_after c =
    rw (one_page c.args.first c.args.n c.args.outs.now c.args.bytes.now (omega arith) c.requires.outs_len_bound.1) c.put_page.ensures.page_after

pub returns-clause-value : goal.returns-clause-value
returns-clause-value c =
    let few = c.requires.outs_len_bound.1 in
    let page = c.put_page.ensures.value in
    let numbers : Numbers c.args.outs.now = λ i. omega (arith, c.type_inv.outs i) in
    let size = page_length c.args.first c.args.n c.args.outs.now c.args.bytes.now numbers few in
    (rw (one_page c.args.first c.args.n c.args.outs.now c.args.bytes.now (omega arith) few) (omega (arith, page, size)), omega (arith, page))
