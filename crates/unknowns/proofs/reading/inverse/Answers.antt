-- `unknowns::reading::inverse` meets its contract, at either width: an unknown bit stays, and a byte is inverted.
use Rattle.std.proofs.Common.{◌∙◌, sym, lit<, arith}
use Rattle.unknowns.proofs.ByWidth.{low_code, not_low, not_unknown}
use Rattle.unknowns.proofs.reading.inverse.Goals as goal

pub returns-then-x-gt3 : goal.returns-then-x-gt3
returns-then-x-gt3 c = sym (not_unknown _ _ c.if-width-ne4.true c.requires (omega arith))

pub inverted_if-requires : goal.inverted_if-requires
inverted_if-requires c = (low_code c.requires c.else-width-ne4.either, lit< tt)

pub returns : goal.returns
returns c = c.inverted_if.ensures ∙ not_low _ _ (low_code c.requires c.else-width-ne4.either)
