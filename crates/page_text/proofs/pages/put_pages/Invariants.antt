-- At page i the pages before it stand, and the others are left.
use Rattle.std.proofs.Common.{◌*◌, ◌-◌, [], ◌∷◌, length, drop}
use Rattle.text.proofs.Putting.{Left}
use Rattle.page_text.specs.Pages.{pages_text, page_count}
use Rattle.page_text.proofs.pages.put_pages.Given as goal

abbrev pub invariant-loop-i : goal.invariant-loop-i
invariant-loop-i l =
    Left l.fn.page 0 (pages_text (page_count l.k) 0 l.k l.outs l.bytes) l.page l.at
    (pages_text (page_count l.k - l.i) (64 * l.i) (l.k - 64 * l.i) l.outs (drop (64 * l.i * length l.outs) l.bytes) ∷ [])
