-- Terms of the contracts of settling, by which gates and OUTs take their codes, from a table of a width. The nets stand with their inverses. No public call's
-- contract uses them.
use Rattle.std.specs.Prelude.{ℕ, ◌<◌, ◌≤◌, ◌≡◌, List, cond, leb, length, get_or}
use Rattle.unknowns.specs.Widths.{rule_by}
use Rattle.gates.specs.Kinds.{CONST, NOT}
use Rattle.image.specs.Image.{sizes_of, kind_at, operand_at}
use Rattle.cycle.specs.Cycle.{pin_byte}
use Rattle.inverses.specs.Inverses.{put_both, Both}

-- what operand k of net i reads as a pin
abbrev pub pin_at : (width : ℕ) (s bs : List ℕ) (i k : ℕ) → ℕ
pin_at width s bs i k = pin_byte (rule_by width) bs (operand_at s (sizes_of s).nets i k)

-- the code that the rule of net i gives it, if it is a gate or OUT, from what its pins read
unfoldable pub rule_at : (width : ℕ) (s bs : List ℕ) (i : ℕ) → ℕ
rule_at width s bs i = rule_by width (kind_at s i) (pin_at width s bs i 0) (pin_at width s bs i 1) (pin_at width s bs i 2)

-- net i takes that byte where it is a gate or OUT
unfoldable pub settled_at : (width : ℕ) (s : List ℕ) (i : ℕ) (nets : List ℕ) → List ℕ
settled_at width s i nets = cond (leb NOT (kind_at s i)) (put_both width nets i (rule_at width s nets i)) nets

-- the gates and OUTs below net i have the bytes that their rules give, and no net of another kind has changed
pub record Settled (width : ℕ) (s before after : List ℕ) (i : ℕ) : Type 0 where
  pub size : length after ≡ length before
  pub sources : (j : ℕ) → j < (sizes_of s).nets → kind_at s j < NOT → get_or after j 0 ≡ get_or before j 0
  pub gates : (j : ℕ) → j < i → NOT ≤ kind_at s j → get_or after j 0 ≡ rule_at width s after j
  pub both : Both width after (sizes_of s).nets

-- the nets below i: each CONST has its byte, and all stand with their inverses
pub record Prepared (width : ℕ) (s nets : List ℕ) (i : ℕ) : Type 0 where
  pub constants : (j : ℕ) → j < i → kind_at s j ≡ CONST → get_or nets j 0 ≡ operand_at s (sizes_of s).nets j 0
  pub both : Both width nets i
