-- `unknowns::tables::pair_codes` meets its contract: the rule of the table is one test, computed over its 324 codes.
use Rattle.std.proofs.Common.{refl}
use mathlib.Core.List.{flat_map}
use Rattle.gates.specs.Rules.{value, mark, byte, and_mark, or_mark, xor_mark, mux_mark, not_byte, and_byte, or_byte, xor_byte, mux_byte, gate_byte}
use Rattle.unknowns.specs.Filling.{fillings, filled, code_of, static_byte}
use Rattle.unknowns.proofs.Places.{right_pair, pair_table}
use Rattle.unknowns.proofs.tables.pair_codes.Goals as goal

pub returns : goal.returns
unfolding right_pair value mark byte and_mark or_mark xor_mark mux_mark not_byte and_byte or_byte xor_byte mux_byte gate_byte fillings filled code_of static_byte flat_map
returns c = pair_table _ tt refl
