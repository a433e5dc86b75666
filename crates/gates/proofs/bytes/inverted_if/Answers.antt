-- `gates::bytes::inverted_if` meets its contract: bit by bit, at each of the four bytes.
use Rattle.std.proofs.Common.{ℕ, zero, suc, ◌<◌, ◌≡◌, refl, cond, eqb, arith}
use borrow.Author.Tests.{eqb-true}
use lib.Bits.{bit_xor, xor_zero_r}
use Rattle.gates.specs.Rules.{value, mark, byte, not_byte}
use Rattle.gates.proofs.EachCode.{each}
use Rattle.gates.proofs.bytes.inverted_if.Goals as goal

by_flag : (x flag : ℕ) → x < 4 → flag < 2 → bit_xor x flag ≡ cond (eqb flag 1) (not_byte x) x
unfolding value mark byte not_byte
by_flag x zero h l = xor_zero_r x
by_flag x (suc zero) h l = eqb-true _ _ (each (λ x. eqb (bit_xor x 1) (not_byte x)) refl x (omega arith))
by_flag x (suc (suc flag)) h l = absurd (omega arith)

pub returns : goal.returns
returns c = by_flag _ _ c.requires.0 c.requires.1
