-- When an image is refused, by the numbers of document 01's table: 1 to 8, in their order.
use Rattle.std.specs.Prelude.{ℕ, suc, ◌+◌, ◌*◌, List, [], ◌∷◌, Bool, ◌||◌, not, eqb, ltb, length}
use Rattle.std.proofs.Math.Option.{Option, none}
use Rattle.gates.specs.Kinds.{INPUT, REG, OUT}
use Rattle.image.specs.declared.image.Net.{Net}
use Rattle.image.specs.Image.{sizes_of, nets_of, count}
use Rattle.refusals.specs.declared.answer.Refusal.{Refusal}
use Rattle.refusals.specs.Refusals.{refuse, ◌then◌}
use Rattle.net_checking.specs.NetCheck.{net_refusal}

-- nets are tried in turn, each for 4 to 7; the first of xs is net i
unfoldable pub nets_refusal : (n i : ℕ) → List Net → Option Refusal
nets_refusal n i [] = none
nets_refusal n i (x ∷ xs) = net_refusal n i x then nets_refusal n (suc i) xs

-- 8: I, R or O is not the number of nets of its kind
abbrev pub wrong_counts : List ℕ → Bool
wrong_counts s =
    not (eqb (sizes_of s).inputs (count INPUT (nets_of s)))
    || not (eqb (sizes_of s).registers (count REG (nets_of s)))
    || not (eqb (sizes_of s).outputs (count OUT (nets_of s)))

-- 1 to 8
unfoldable pub check_refusal : List ℕ → Option Refusal
check_refusal s =
    refuse (ltb (length s) 8) 1 0
    then refuse (eqb (sizes_of s).nets 0 || ltb 8192 (sizes_of s).nets) 2 0
    then refuse (not (eqb (length s) (8 + 7 * (sizes_of s).nets))) 3 0
    then nets_refusal (sizes_of s).nets 0 (nets_of s)
    then refuse (wrong_counts s) 8 0
