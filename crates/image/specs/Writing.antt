-- Terms of the contracts of the writers: what a lent buffer holds after a net is written.
use Rattle.std.specs.Prelude.{ℕ, suc, ◌+◌, ◌*◌, ◌<◌, List, [], ◌∷◌}
use Rattle.std.proofs.lemmas.List.Edits.{sets}
use Rattle.image.specs.declared.image.Net.{Net}
use Rattle.image.specs.Image.{operands}

-- each operand of a net fits a u16
pub record Fits (x : Net) : Type 0 where
  pub a : x.a < 65536
  pub b : x.b < 65536
  pub c : x.c < 65536

-- net i of an image of n nets: its kind stands among the kinds, and its operands among the operands. `sets d p ys` is d with the bytes ys from place p on
unfoldable pub put_net : List ℕ → (n i : ℕ) → Net → List ℕ
put_net d n i x = sets (sets d (8 + i) (x.kind ∷ [])) (8 + n + 6 * i) (operands (x ∷ []))

-- some nets, the first of which is net i
unfoldable pub put_nets : List ℕ → (n i : ℕ) → List Net → List ℕ
put_nets d n i [] = d
put_nets d n i (x ∷ xs) = put_nets (put_net d n i x) n (suc i) xs
