-- At output j the heading and the lines of the outputs before it stand, and those of the others are left.
use Rattle.std.proofs.Common.{[], ◌∷◌, length, drop}
use Rattle.text.proofs.Putting.{Left}
use Rattle.page_text.specs.Pages.{output_lines, page_text}
use Rattle.page_text.proofs.pages.put_page.Given as goal

abbrev pub invariant-loop-j : goal.invariant-loop-j
invariant-loop-j l =
    Left l.fn.page l.at (page_text l.first l.n l.outs l.bytes) l.page l.p (output_lines (length l.outs) l.j l.n (drop l.j l.outs) l.bytes ∷ [])
