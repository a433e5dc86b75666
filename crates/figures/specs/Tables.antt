-- Terms of the contracts between the functions that count. No public call's contract uses them.
use Rattle.std.specs.Prelude.{ℕ, ◌-◌, ◌≤◌, ◌<◌, ◌≡◌, List, [], ◌∷◌, length, get_or, take, drop}
use Rattle.checking.specs.Counts.{raised}

-- the kinds of the nets of the groups of kinds 0 to 8, each group with eight places, of which those behind its last net hold 0
unfoldable pub group_kinds : List ℕ
group_kinds =
    0 ∷ 0 ∷ 0 ∷ 0 ∷ 0 ∷ 0 ∷ 0 ∷ 0
    ∷ 1 ∷ 1 ∷ 0 ∷ 0 ∷ 0 ∷ 0 ∷ 0 ∷ 0
    ∷ 2 ∷ 2 ∷ 0 ∷ 0 ∷ 0 ∷ 0 ∷ 0 ∷ 0
    ∷ 3 ∷ 5 ∷ 0 ∷ 0 ∷ 0 ∷ 0 ∷ 0 ∷ 0
    ∷ 4 ∷ 4 ∷ 4 ∷ 4 ∷ 5 ∷ 5 ∷ 0 ∷ 0
    ∷ 5 ∷ 3 ∷ 3 ∷ 4 ∷ 4 ∷ 4 ∷ 5 ∷ 5
    ∷ 6 ∷ 5 ∷ 0 ∷ 0 ∷ 0 ∷ 0 ∷ 0 ∷ 0
    ∷ 7 ∷ 6 ∷ 5 ∷ 5 ∷ 4 ∷ 7 ∷ 5 ∷ 0
    ∷ 8 ∷ 8 ∷ 0 ∷ 0 ∷ 0 ∷ 0 ∷ 0 ∷ 0
    ∷ []

-- places j to end of a table, without end
abbrev pub places : List ℕ → (j end : ℕ) → List ℕ
places t j end = take (end - j) (drop j t)

-- counts with one place raised for each of the kinds ks
unfoldable pub raised_by : (counts : List ℕ) → (ks : List ℕ) → List ℕ
raised_by counts [] = counts
raised_by counts (k ∷ ks) = raised_by (raised counts k) ks

-- nine counts, none of them above m
pub record NineCounts (m : ℕ) (counts : List ℕ) : Type 0 where
  pub nine : length counts ≡ 9
  pub most : (k : ℕ) → k < 9 → get_or counts k 0 ≤ m
