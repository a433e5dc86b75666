-- How the bytes of an image are read (document 01, "The image").
use Rattle.std.specs.Prelude.{ℕ, ◌+◌, ◌*◌, ◌<◌, ◌≡◌, List, length, get_or}
use Rattle.image.specs.declared.image.Net.{Net}
use Rattle.image.specs.Image.{sizes_of, net, nets_of}

-- net i of an image
abbrev pub net_of : List ℕ → (i : ℕ) → Net
net_of s i = get_or (nets_of s) i (net 0 0 0 0)

-- the u16 at place p: two bytes, low byte first
abbrev pub two_bytes : List ℕ → (p : ℕ) → ℕ
two_bytes s p = get_or s p 0 + 256 * get_or s (p + 1) 0

-- sizes come first, N, I, R and O; then N kind bytes; then N entries of three u16, the operands a, b, c
pub record ReadFrom (s : List ℕ) : Type 0 where
  pub nets : (sizes_of s).nets ≡ two_bytes s 0
  pub inputs : (sizes_of s).inputs ≡ two_bytes s 2
  pub registers : (sizes_of s).registers ≡ two_bytes s 4
  pub outputs : (sizes_of s).outputs ≡ two_bytes s 6
  pub all : length (nets_of s) ≡ (sizes_of s).nets
  pub kind : (i : ℕ) → i < (sizes_of s).nets → (net_of s i).kind ≡ get_or s (8 + i) 0
  pub a : (i : ℕ) → i < (sizes_of s).nets → (net_of s i).a ≡ two_bytes s (8 + (sizes_of s).nets + 6 * i)
  pub b : (i : ℕ) → i < (sizes_of s).nets → (net_of s i).b ≡ two_bytes s (8 + (sizes_of s).nets + 6 * i + 2)
  pub c : (i : ℕ) → i < (sizes_of s).nets → (net_of s i).c ≡ two_bytes s (8 + (sizes_of s).nets + 6 * i + 4)

-- every image, whether checking accepts it or not; proved as `image_read`
abbrev pub ImageRead : Type 0
ImageRead = (s : List ℕ) → ReadFrom s
