-- The numbers of the nets of a kind.
use Rattle.std.specs.Prelude.{ℕ, suc, List, [], ◌∷◌, cond, eqb}
use Rattle.image.specs.declared.image.Net.{Net}

-- the numbers of the nets of kind k among nets, the first of which is net i, in net order
unfoldable pub places_from : (k i : ℕ) → List Net → List ℕ
places_from k i [] = []
places_from k i (x ∷ xs) = cond (eqb x.kind k) (i ∷ places_from k (suc i) xs) (places_from k (suc i) xs)
