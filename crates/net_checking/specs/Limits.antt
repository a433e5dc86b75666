-- Terms of the contracts between functions of checking: the limits below which the operands of a net that passes lie.
use Rattle.std.specs.Prelude.{ℕ, ◌+◌, List, [], ◌∷◌, Bool, ◌&&◌, ltb, get_or}
use Rattle.std.specs.Int.Bits.{bit_and}
use Rattle.image.specs.declared.image.Net.{Net}

-- the limits that there are for net i of n: an operand that is not listed is 0, a CONST and a policy are 0 or 1, a start is 0 to 2, a pin names a net below its own, and a REG's
-- pin one below N. In front of each limit stand the bits of an operand that are held to it: of a pin all but the top one
abbrev pub limits_of : (n i : ℕ) → List ℕ
limits_of n i = 65535 ∷ 1 ∷ 65535 ∷ 2 ∷ 65535 ∷ 3 ∷ 32767 ∷ i ∷ 32767 ∷ n ∷ []

-- where the bits of operand a, then b, then c stand among them, for kinds 0 to 8
unfoldable pub limit_places : List ℕ
limit_places =
    2 ∷ 0 ∷ 8 ∷ 6 ∷ 6 ∷ 6 ∷ 6 ∷ 6 ∷ 6
    ∷ 0 ∷ 0 ∷ 4 ∷ 0 ∷ 6 ∷ 6 ∷ 6 ∷ 6 ∷ 2
    ∷ 0 ∷ 0 ∷ 0 ∷ 0 ∷ 0 ∷ 0 ∷ 0 ∷ 6 ∷ 0 ∷ []

-- the limit that place p of `limit_places` names, among the limits ls, and the number in the bits of x that are held to it
abbrev pub limit_at : (ls : List ℕ) (p : ℕ) → ℕ
limit_at ls p = get_or ls (get_or limit_places p 0 + 1) 0

abbrev pub held_at : (ls : List ℕ) (p x : ℕ) → ℕ
held_at ls p x = bit_and x (get_or ls (get_or limit_places p 0) 0)

-- of each operand that number lies below its limit, among the limits ls
unfoldable pub within_limits : (ls : List ℕ) → Net → Bool
within_limits ls x =
    ltb (held_at ls x.kind x.a) (limit_at ls x.kind)
    && ltb (held_at ls (9 + x.kind) x.b) (limit_at ls (9 + x.kind))
    && ltb (held_at ls (18 + x.kind) x.c) (limit_at ls (18 + x.kind))
