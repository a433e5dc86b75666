-- The image: four u16 sizes, then N kind bytes, then N entries of three u16 operands. `Sizes` and `Net` are the structs of src/image.rt.
use Rattle.std.specs.Prelude.{ℕ, zero, suc, ◌+◌, ◌*◌, ◌/◌, ◌%◌, List, [], ◌∷◌, ◌++◌, map, cond, eqb, get_or}
use Rattle.image.specs.declared.image.Sizes.{Sizes}
use Rattle.image.specs.declared.image.Net.{Net}

-- a u16 is two bytes, low byte first
abbrev pub u16_at : List ℕ → (p : ℕ) → ℕ
u16_at s p = get_or s p 0 + 256 * get_or s (p + 1) 0

-- N nets, I inputs, R registers, O outputs
unfoldable pub sizes_of : List ℕ → Sizes
sizes_of s = record { nets = u16_at s 0; inputs = u16_at s 2; registers = u16_at s 4; outputs = u16_at s 6 }

-- a net of kind k with operands a, b, c
abbrev pub net : (k a b c : ℕ) → Net
net k a b c = record { kind = k; a = a; b = b; c = c }

-- the kind of net i, and its operands a, b, c as operands 0, 1, 2, in an image of n nets
abbrev pub kind_at : List ℕ → (i : ℕ) → ℕ
kind_at s i = get_or s (8 + i) 0

abbrev pub operand_at : List ℕ → (n i k : ℕ) → ℕ
operand_at s n i k = u16_at s (8 + n + 6 * i + 2 * k)

-- net i
unfoldable pub net_at : List ℕ → (n i : ℕ) → Net
net_at s n i = record { kind = kind_at s i; a = operand_at s n i 0; b = operand_at s n i 1; c = operand_at s n i 2 }

-- k nets of it, from net i on
unfoldable pub nets_from : List ℕ → (n i k : ℕ) → List Net
nets_from s n i zero = []
nets_from s n i (suc k) = net_at s n i ∷ nets_from s n (suc i) k

-- all nets of an image
unfoldable pub nets_of : List ℕ → List Net
nets_of s = nets_from s (sizes_of s).nets 0 (sizes_of s).nets

-- how many nets are of kind k
unfoldable pub count : (k : ℕ) → List Net → ℕ
count k [] = 0
count k (x ∷ xs) = cond (eqb x.kind k) 1 0 + count k xs

-- the other way round, for writing: a u16 as its two bytes; the four sizes; the operands of nets, net after net; and the image of the nets xs with the sizes z, whatever these are
abbrev pub u16 : ℕ → List ℕ
u16 n = n % 256 ∷ n / 256 ∷ []

abbrev pub size_bytes : Sizes → List ℕ
size_bytes z = u16 z.nets ++ u16 z.inputs ++ u16 z.registers ++ u16 z.outputs

abbrev pub operands : List Net → List ℕ
operands [] = []
operands (x ∷ xs) = u16 x.a ++ u16 x.b ++ u16 x.c ++ operands xs

unfoldable pub encode : Sizes → List Net → List ℕ
encode z xs = size_bytes z ++ map (λ x. x.kind) xs ++ operands xs
