-- How many nets of each kind a netlist has, as an array of nine counts.
use Rattle.std.specs.Prelude.{ℕ, ◌+◌, List, [], ◌∷◌, map, get_or, set}
use Rattle.image.specs.declared.image.Net.{Net}
use Rattle.image.specs.Image.{count}

-- how many nets there are of each kind, 0 to 8
unfoldable pub kind_counts : List Net → List ℕ
kind_counts xs = map (λ k. count k xs) (0 ∷ 1 ∷ 2 ∷ 3 ∷ 4 ∷ 5 ∷ 6 ∷ 7 ∷ 8 ∷ [])

-- counts with one place raised
abbrev pub raised : List ℕ → (k : ℕ) → List ℕ
raised counts k = set counts k (get_or counts k 0 + 1)
