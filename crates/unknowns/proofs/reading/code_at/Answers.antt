-- `unknowns::reading::code_at` meets its contract: the place of the code is in the table.
use Rattle.unknowns.proofs.ByWidth.{code_below, place_there}
use Rattle.unknowns.proofs.reading.code_at.Goals as goal

pub bounds-t-from : goal.bounds-t-from
bounds-t-from g c =
    let t = c.requires.tabled.0 in
    let codes = c.requires.a_value in
    rw (c.from.ensures, c.from-2.ensures, c.from-3.ensures, c.from-4.ensures)
    (place_there t c.requires.tabled.1 (code_below t _ codes.0) (code_below t _ codes.1) (code_below t _ codes.2))
