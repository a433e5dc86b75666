-- A page for the folder (document 02, L6), character by character: for every accepted call, where each character stands and which it is. A page has 1 + O lines, the first of which is the heading;
-- a line has 71 bytes, of which the last is a newline. Pages, lines and places in a line count from 0, so that place 6 of a line is column 7.
use Rattle.std.specs.Prelude.{ℕ, ◌+◌, ◌-◌, ◌*◌, ◌/◌, ◌%◌, ◌≤◌, ◌<◌, ◌≡◌, List, length, get_or}
use Rattle.std.proofs.Math.Option.{none}
use Rattle.image.specs.Image.{sizes_of}
use Rattle.text.specs.Ascii.{ascii}
use Rattle.text.specs.Decimal.{decimal}
use Rattle.paging.specs.Paging.{page_of}
use Rattle.claims.specs.NetBytes.{net_of, place_of}

-- the number of pages of k cycles
abbrev pub pages : (k : ℕ) → ℕ
pages k = (k + 63) / 64

module _ (s : List ℕ) (k : ℕ) (outputs text : List ℕ) where
  -- where line l of page p begins
  abbrev pub line_at : (p l : ℕ) → ℕ
  line_at p l = (p * (1 + (sizes_of s).outputs) + l) * 71

  -- ⌈K / 64⌉ pages of 1 + O lines of 70 characters and a newline
  pub record Shape : Type 0 where
    -- the pages hold all k cycles, 64 each, and the last holds one at least
    pub all : k ≤ pages k * 64
    pub no_more : pages k * 64 < k + 64
    pub size : length text ≡ pages k * (1 + (sizes_of s).outputs) * 71
    pub newline : (p l : ℕ) → p < pages k → l ≤ (sizes_of s).outputs → get_or text (line_at p l + 70) 0 ≡ 10
    pub printed : (p l i : ℕ) → p < pages k → l ≤ (sizes_of s).outputs → i < 70 → 32 ≤ get_or text (line_at p l + i) 0

  -- the heading of page p: columns 1 to 5 hold the word cycle, column 6 is blank, and the others hold the number of its first cycle, 64 × p, set left; the rest is blank
  pub record Heading (p : ℕ) : Type 0 where
    pub word : (i : ℕ) → i < 5 → get_or text (line_at p 0 + i) 0 ≡ get_or (ascii "cycle") i 0
    pub column_6 : get_or text (line_at p 0 + 5) 0 ≡ 32
    pub number : (i : ℕ) → i < length (decimal (64 * p)) → get_or text (line_at p 0 + (6 + i)) 0 ≡ get_or (decimal (64 * p)) i 0
    pub blank : (i : ℕ) → length (decimal (64 * p)) ≤ i → i < 64 → get_or text (line_at p 0 + (6 + i)) 0 ≡ 32

  -- the line of an OUT, net i, on page p: columns 1 to 5 hold its net number set right, and column 6 is blank. It stands behind the heading and the lines of the OUTs before it
  pub record NetNumber (p i : ℕ) : Type 0 where
    pub few : length (decimal i) ≤ 5
    pub blank : (c : ℕ) → c < 5 - length (decimal i) → get_or text (line_at p (1 + place_of 8 s i) + c) 0 ≡ 32
    pub number : (c : ℕ) → c < length (decimal i) → get_or text (line_at p (1 + place_of 8 s i) + (5 - length (decimal i) + c)) 0 ≡ get_or (decimal i) c 0
    pub column_6 : get_or text (line_at p (1 + place_of 8 s i) + 5) 0 ≡ 32

  -- where the sign of output j in cycle c stands: on page c / 64, in the line of the output, in column 7 + c % 64
  abbrev pub sign_at : (c j : ℕ) → ℕ
  sign_at c j = get_or text (line_at (c / 64) (1 + j) + (6 + c % 64)) 0

  -- the byte of output j in cycle c
  abbrev pub byte_at : (c j : ℕ) → ℕ
  byte_at c j = get_or outputs (c * (sizes_of s).outputs + j) 0

  -- the sign of output j in cycle c: 0, 1, and l, h for untrusted 0, 1; and blanks behind the last cycle
  pub record Sign (c j : ℕ) : Type 0 where
    pub trusted_0 : c < k → byte_at c j ≡ 0 → sign_at c j ≡ 48
    pub trusted_1 : c < k → byte_at c j ≡ 1 → sign_at c j ≡ 49
    pub untrusted_0 : c < k → byte_at c j ≡ 2 → sign_at c j ≡ 108
    pub untrusted_1 : c < k → byte_at c j ≡ 3 → sign_at c j ≡ 104
    pub unused : k ≤ c → sign_at c j ≡ 32

-- the pages that an accepted call writes
abbrev pub Written : (s : List ℕ) (k : ℕ) (outputs buf : List ℕ) → Type 0
Written s k outputs buf = (page_of s k outputs buf).refusal ≡ none

-- proved as `page_shape`
abbrev pub PageShape : Type 0
PageShape = (s : List ℕ) (k : ℕ) (outputs buf : List ℕ) → Written s k outputs buf → Shape s k outputs (page_of s k outputs buf).page

-- proved as `page_heading`: on every page
abbrev pub PageHeading : Type 0
PageHeading = (s : List ℕ) (k : ℕ) (outputs buf : List ℕ) → Written s k outputs buf → (p : ℕ) → p < pages k → Heading s k outputs (page_of s k outputs buf).page p

-- proved as `page_net`: on every page, for every OUT
abbrev pub PageNet : Type 0
PageNet =
    (s : List ℕ) (k : ℕ) (outputs buf : List ℕ) → Written s k outputs buf → (p i : ℕ) → p < pages k → i < (sizes_of s).nets → (net_of s i).kind ≡ 8
    → NetNumber s k outputs (page_of s k outputs buf).page p i

-- proved as `page_sign`: for every output, in every cycle, and in every column behind the last cycle
abbrev pub PageSign : Type 0
PageSign =
    (s : List ℕ) (k : ℕ) (outputs buf : List ℕ) → Written s k outputs buf → (c j : ℕ) → c < pages k * 64 → j < (sizes_of s).outputs
    → Sign s k outputs (page_of s k outputs buf).page c j
