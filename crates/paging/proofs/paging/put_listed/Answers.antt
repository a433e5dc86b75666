-- The net numbers of the OUTs are listed, and the pages put by them.
use Rattle.std.proofs.Common.{arith, ◌≡◌, length}
use mathlib.Core.Path.{ap, ◌∙◌}
use Rattle.image.specs.Image.{sizes_of}
use Rattle.checking.proofs.Checked.{check_none}
use Rattle.paging.specs.Paging.{pages_of}
use Rattle.paging.proofs.PageCalls.{page_none, outs_length, outs_few}
use Rattle.paging.proofs.paging.put_listed.Goals as goal

pub list_nets-requires-clause-image_value : goal.list_nets-requires-clause-image_value
list_nets-requires-clause-image_value c = ((page_none c.args.image.now c.args.k c.args.outputs.now c.args.page.now).0 c.requires.0).0

pub list_nets-requires-clause-list_len : goal.list_nets-requires-clause-list_len
list_nets-requires-clause-list_len c =
    let ready = (page_none c.args.image.now c.args.k c.args.outputs.now c.args.page.now).0 c.requires.0 in
    c.requires.1 ∙ ((check_none _).0 ready.0).outputs

pub put_pages-requires-clause-outs_len_bound : goal.put_pages-requires-clause-outs_len_bound
put_pages-requires-clause-outs_len_bound c =
    let ready = (page_none c.args.image.now c.args.k c.args.outputs.now c.args.page.now).0 c.requires.0 in
    let image = (check_none _).0 ready.0 in
    let long : length c.list_nets.new.list ≡ (sizes_of c.args.image.now).outputs = ap length c.list_nets.ensures ∙ outs_length image in
    (omega (arith, long, outs_few image), ready.1, rw long ready.3)

pub put_pages-requires-clause-page_len : goal.put_pages-requires-clause-page_len
put_pages-requires-clause-page_len c =
    let ready = (page_none c.args.image.now c.args.k c.args.outputs.now c.args.page.now).0 c.requires.0 in
    let long : length c.list_nets.new.list ≡ (sizes_of c.args.image.now).outputs = ap length c.list_nets.ensures ∙ outs_length ((check_none _).0 ready.0) in
    rw long ready.4

pub returns : goal.returns
unfolding pages_of
returns c =
    rw c.list_nets.ensures at c.put_pages.ensures
