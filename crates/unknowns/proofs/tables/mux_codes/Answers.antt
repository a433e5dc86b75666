-- `unknowns::tables::mux_codes` meets its contract: the rule of the table is one test, computed over its 216 codes.
use Rattle.std.proofs.Common.{refl}
use mathlib.Core.List.{flat_map}
use Rattle.gates.specs.Rules.{value, mark, byte, and_mark, or_mark, xor_mark, mux_mark, not_byte, and_byte, or_byte, xor_byte, mux_byte, gate_byte}
use Rattle.unknowns.specs.Filling.{fillings, filled, code_of, static_byte}
use Rattle.unknowns.proofs.Places.{right_mux, mux_table}
use Rattle.unknowns.proofs.tables.mux_codes.Goals as goal

pub returns : goal.returns
unfolding right_mux value mark byte and_mark or_mark xor_mark mux_mark not_byte and_byte or_byte xor_byte mux_byte gate_byte fillings filled code_of static_byte flat_map
returns c = mux_table _ tt refl
