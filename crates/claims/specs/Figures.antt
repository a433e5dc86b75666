-- How big the doubled netlist gets (document 02, L1): the figures are those of the image that doubling writes, and beside a refusal they are 0.
use Rattle.std.specs.Prelude.{ℕ, ◌+◌, ◌≤◌, ◌≡◌, List, [], ◌∷◌, length, get_or, replicate}
use Rattle.std.proofs.Math.Option.{none, some}
use Rattle.image.specs.Image.{sizes_of, nets_of, count}
use Rattle.refusals.specs.declared.answer.Refusal.{Refusal}
use Rattle.refusals.specs.Refusals.{◌then◌, bad_length}
use Rattle.figures.specs.Figures.{Figures, doubled_size_of}
use Rattle.doubling.specs.Doubling.{double_of}

-- the figures f are what is read from the image t: its N, its length, and for each of the nine kinds the number of its nets of that kind
pub record FiguresRead (f : Figures) (t : List ℕ) : Type 0 where
  pub accepted : f.refusal ≡ none
  pub nets : f.nets ≡ (sizes_of t).nets
  pub bytes : f.bytes ≡ length t
  pub nine : length f.kinds ≡ 9
  pub kinds : (k : ℕ) → k ≤ 8 → get_or f.kinds k 0 ≡ count k (nets_of t)

-- "The figures equal what doubling then writes"; proved as `figures_written`
abbrev pub FiguresWritten : Type 0
FiguresWritten = (s buf : List ℕ) → (double_of s buf).refusal ≡ none → FiguresRead (doubled_size_of s) (double_of s buf).buffer

-- "it turns back as doubling does, 1 to 8 and 15": doubling gives the same refusal, and where there is none, 16 for a buffer that is not as long as the figures say;
-- proved as `turns_back_alike`
abbrev pub TurnsBackAlike : Type 0
TurnsBackAlike = (s buf : List ℕ) → (double_of s buf).refusal ≡ ((doubled_size_of s).refusal then bad_length 16 (doubled_size_of s).bytes buf)

-- the sum of some numbers
abbrev pub total : List ℕ → ℕ
total [] = 0
total (x ∷ xs) = x + total xs

-- the nets of the nine kinds add up to all nets; proved as `kinds_add_up`
abbrev pub KindsAddUp : Type 0
KindsAddUp = (s : List ℕ) → total (doubled_size_of s).kinds ≡ (doubled_size_of s).nets

-- beside a refusal all figures are 0; proved as `no_figures`
abbrev pub NoneBesideRefusal : Type 0
NoneBesideRefusal =
    (s : List ℕ) (r : Refusal) → (doubled_size_of s).refusal ≡ some r → doubled_size_of s ≡ record { refusal = some r; nets = 0; bytes = 0; kinds = replicate 9 0 }
