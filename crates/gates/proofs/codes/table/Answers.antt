-- `gates::codes::table` meets its contract: the rule of the table is one test, computed over its 576 codes.
use Rattle.std.proofs.Common.{ℕ, ◌/◌, ◌%◌, ◌≡◌, refl, List, Bool, T, eqb, length, get_or, arith}
use lib.Dec.{eqb→eq}
use Rattle.gates.specs.Rules.{value, mark, byte, and_mark, or_mark, xor_mark, mux_mark, not_byte, and_byte, or_byte, xor_byte, mux_byte, gate_byte}
use Rattle.gates.specs.Table.{code_index, GateTable}
use Rattle.gates.proofs.Entries.{every, entry}
use Rattle.gates.proofs.codes.table.Goals as goal

-- the code x at place p is the byte of its gate
right : ℕ → ℕ → Bool
right p x = eqb x (gate_byte (p / 64) (p / 16 % 4) (p / 4 % 4) (p % 4))

filled : (t : List ℕ) → T (every right 0 t) → length t ≡ 576 → GateTable t
unfolding right
filled t test size =
    record {
      size = size;
      codes = λ kind a b c hk ha hb hc.
          let p = code_index kind a b c in
          let k : p / 64 ≡ kind = omega arith in
          let i : p / 16 % 4 ≡ a = omega arith in
          let j : p / 4 % 4 ≡ b = omega arith in
          let l : p % 4 ≡ c = omega arith in
          rw (k, i, j, l) at (eqb→eq (get_or t p 0) _ (entry right t test p (omega arith)));
    }

pub returns : goal.returns
unfolding right value mark byte and_mark or_mark xor_mark mux_mark not_byte and_byte or_byte xor_byte mux_byte gate_byte
returns c = filled _ tt refl
