-- A net whose operands, or those bits of them that are held to a limit, lie below their limits passes.
use Prim.Native.Nat.{ℕ, zero, suc, ◌+◌, ◌<◌}
use native.Mathlib.Omega.{arith}
use mathlib.Core.Path.{◌≡◌, refl, ◌∙◌}
use mathlib.Core.Bool.{Bool, true, false}
use mathlib.Core.Option.{none}
use lib.Bits.{bit_and, and_mask}
use lib.Dec.{T, ltb}
use lib.ListN.{get_or}
use borrow.Author.Tests.{ltb-true}
use Rattle.gates.proofs.EachCode.{both}
use Rattle.gates.proofs.Entries.{entry}
use Rattle.image.specs.declared.image.Net.{Net}
use Rattle.image.specs.Image.{net}
use Rattle.image.specs.Pins.{pin_net}
use Rattle.image.specs.Writing.{Fits}
use Rattle.image.proofs.PinNets.{net_rest}
use Rattle.net_checking.specs.NetCheck.{net_refusal}
use Rattle.net_checking.specs.Limits.{limits_of, limit_places, limit_at, held_at, within_limits}
use Rattle.net_checking.proofs.Passes.{Passes, is_const, is_input, is_reg, is_not, is_and, is_or, is_xor, is_mux, is_out, no_refusal}

true_is : (b : Bool) → T b → b ≡ true
true_is true t = refl
true_is false t = absurd t

-- each place is one of the five, and its limit stands behind it
pub place_small : (p : ℕ) → p < 27 → get_or limit_places p 0 < 9
unfolding limit_places
place_small p h = ltb-true _ 9 (true_is _ (entry (λ q x. ltb x 9) limit_places tt p h))

-- of an operand that is no pin all bits are held to its limit, and of a pin those of the net that it names
under : (x m : ℕ) → x < 65536 → ltb (bit_and x 65535) m ≡ true → x < m
under x m h t = let all : bit_and x 65535 ≡ x = and_mask x 16 ∙ omega arith in ltb-true x m (rw all at t)

names : (x m : ℕ) → x < 65536 → ltb (bit_and x 32767) m ≡ true → pin_net x < m
names x m h t = let rest : bit_and x 32767 ≡ pin_net x = and_mask x 15 ∙ net_rest x h in ltb-true (pin_net x) m (rw rest at t)

none_set : (x : ℕ) → x < 65536 → ltb (bit_and x 65535) 1 ≡ true → x ≡ 0
none_set x h t = omega (arith, under x 1 h t)

-- each operand below its limit, for kind k
record Under (n i k a b c : ℕ) : Type 0 where
  below_a : ltb (held_at (limits_of n i) k a) (limit_at (limits_of n i) k) ≡ true
  below_b : ltb (held_at (limits_of n i) (9 + k) b) (limit_at (limits_of n i) (9 + k)) ≡ true
  below_c : ltb (held_at (limits_of n i) (18 + k) c) (limit_at (limits_of n i) (18 + k)) ≡ true

by_limits : (n i k a b c : ℕ) → k < 9 → Fits (net k a b c) → Under n i k a b c → Passes n i (net k a b c)
unfolding limit_places
by_limits n i zero a b c h f t =
    rw (none_set b f.b t.below_b, none_set c f.c t.below_c) (is_const {a = a} (omega (arith, under a 2 f.a t.below_a)))
by_limits n i (suc zero) a b c h f t =
    rw (none_set a f.a t.below_a, none_set b f.b t.below_b, none_set c f.c t.below_c) is_input
by_limits n i (suc (suc zero)) a b c h f t =
    rw (none_set c f.c t.below_c) (is_reg {a = a} {b = b} (names a n f.a t.below_a) (omega (arith, under b 3 f.b t.below_b)))
by_limits n i (suc (suc (suc zero))) a b c h f t =
    rw (none_set b f.b t.below_b, none_set c f.c t.below_c) (is_not (names a i f.a t.below_a))
by_limits n i (suc (suc (suc (suc zero)))) a b c h f t =
    rw (none_set c f.c t.below_c) (is_and (names a i f.a t.below_a) (names b i f.b t.below_b))
by_limits n i (suc (suc (suc (suc (suc zero))))) a b c h f t =
    rw (none_set c f.c t.below_c) (is_or (names a i f.a t.below_a) (names b i f.b t.below_b))
by_limits n i (suc (suc (suc (suc (suc (suc zero)))))) a b c h f t =
    rw (none_set c f.c t.below_c) (is_xor (names a i f.a t.below_a) (names b i f.b t.below_b))
by_limits n i (suc (suc (suc (suc (suc (suc (suc zero))))))) a b c h f t =
    is_mux (names a i f.a t.below_a) (names b i f.b t.below_b) (names c i f.c t.below_c)
by_limits n i (suc (suc (suc (suc (suc (suc (suc (suc zero)))))))) a b c h f t =
    rw (none_set c f.c t.below_c) (is_out {a = a} {b = b} (names a i f.a t.below_a) (omega (arith, under b 2 f.b t.below_b)))
by_limits n i (suc (suc (suc (suc (suc (suc (suc (suc (suc k))))))))) a b c h f t = absurd (omega arith)

pub within_passes : (n i : ℕ) (x : Net) → x.kind < 9 → Fits x → within_limits (limits_of n i) x ≡ true → net_refusal n i x ≡ none
unfolding within_limits
within_passes n i x h f t =
    let u = both _ _ t in
    let v = both _ _ u.0 in
    no_refusal (by_limits n i x.kind x.a x.b x.c h f (record { below_a = v.0; below_b = v.1; below_c = u.1 }))
