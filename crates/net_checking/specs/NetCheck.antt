-- When one net is refused, by the numbers of document 01's table: 4 to 7, in their order.
use Rattle.std.specs.Prelude.{ℕ, Bool, ◌&&◌, ◌||◌, not, eqb, leb, ltb}
use Rattle.std.proofs.Math.Option.{Option}
use Rattle.gates.specs.Kinds.{CONST, REG, OUT}
use Rattle.image.specs.declared.image.Net.{Net}
use Rattle.image.specs.Pins.{pin_net}
use Rattle.refusals.specs.declared.answer.Refusal.{Refusal}
use Rattle.refusals.specs.Refusals.{refuse, ◌then◌}
use Rattle.net_checking.specs.Operands.{lists_a, lists_b, lists_c, pin_a, pin_b, pin_c}

-- 5: a REG pin that names a net not below N, or another pin that names one not below its own
abbrev pub bad_pin : (n i : ℕ) → Net → Bool
bad_pin n i x =
    (eqb x.kind REG && leb n (pin_net x.a))
    || (pin_a x.kind && leb i (pin_net x.a))
    || (pin_b x.kind && leb i (pin_net x.b))
    || (pin_c x.kind && leb i (pin_net x.c))

-- 6: a CONST above 1, a start above 2, a policy above 1
abbrev pub bad_value : Net → Bool
bad_value x =
    (eqb x.kind CONST && ltb 1 x.a)
    || (eqb x.kind REG && ltb 2 x.b)
    || (eqb x.kind OUT && ltb 1 x.b)

-- 7: an unlisted operand that is not 0
abbrev pub bad_unlisted : Net → Bool
bad_unlisted x =
    (not (lists_a x.kind) && not (eqb x.a 0))
    || (not (lists_b x.kind) && not (eqb x.b 0))
    || (not (lists_c x.kind) && not (eqb x.c 0))

-- 4 to 7 at net i of n
unfoldable pub net_refusal : (n i : ℕ) → Net → Option Refusal
net_refusal n i x =
    refuse (ltb 8 x.kind) 4 i
    then refuse (bad_pin n i x) 5 i
    then refuse (bad_value x) 6 i
    then refuse (bad_unlisted x) 7 i
