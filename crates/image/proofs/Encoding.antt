-- What `encode` writes: it is read back as it was, and its numbers are bytes.
use Prim.Native.Nat.{ℕ, zero, suc, ◌+◌, ◌*◌, ◌/◌, ◌%◌, ◌<◌}
use mathlib.Core.Path.{◌≡◌, refl, ap₂, sym, ◌∙◌, subst⁻¹}
use mathlib.Core.List.{List, [], ◌∷◌, ◌++◌, map, Forall₂}
use native.Mathlib.Omega.{arith}
use native.Mathlib.Nat.{zero-add}
use lib.Dec.{lit<}
use lib.ListN.{length, get_or, drop, length-append, get_or-append, get_or-map, length-map, drop_of_length-le}
use lib.Seq.{get_or-append-add, drop-cons}
use Rattle.image.specs.declared.image.Sizes.{Sizes}
use Rattle.image.specs.declared.image.Net.{Net}
use Rattle.image.specs.Image.{sizes_of, net, net_at, nets_from, nets_of, u16, size_bytes, operands, encode}

pub operands_length : (xs : List Net) → length (operands xs) ≡ 6 * length xs
operands_length [] = refl
operands_length (x ∷ xs) = let h = operands_length xs in omega arith

pub encode_length : (z : Sizes) (xs : List Net) → length (encode z xs) ≡ 8 + 7 * length xs
unfolding encode
encode_length z xs = simp (length-append, length-map, operands_length) (omega arith)

two_bytes : (n : ℕ) → n % 256 + 256 * (n / 256) ≡ n
two_bytes n = omega arith

-- what stands at the sizes, at a kind, and at an operand
pub sizes_back : (z : Sizes) (xs : List Net) → sizes_of (encode z xs) ≡ z
unfolding sizes_of encode
sizes_back z xs =
    λ i.
    record {
      nets = two_bytes z.nets i;
      inputs = two_bytes z.inputs i;
      registers = two_bytes z.registers i;
      outputs = two_bytes z.outputs i;
    }

abbrev pub nothing : Net
nothing = net 0 0 0 0

operand_at : (xs : List Net) (i c : ℕ) → i < length xs → c < 6 → get_or (operands xs) (6 * i + c) 0 ≡ get_or (operands (get_or xs i nothing ∷ [])) c 0
operand_at [] i c h hc = omega arith
operand_at (x ∷ xs) zero c h hc = rw zero-add (get_or-append (operands (x ∷ [])) (operands xs) 0 c hc)
operand_at (x ∷ xs) (suc i) c h hc =
    let e : 6 * suc i + c ≡ 6 + (6 * i + c) = omega arith in
    rw e (get_or-append-add (operands (x ∷ [])) (operands xs) (6 * i + c) 0 ∙ operand_at xs i c (omega arith) hc)

module _ (z : Sizes) (xs : List Net) where
  byte_at : (p i : ℕ) → p ≡ 8 + i → get_or (encode z xs) p 0 ≡ get_or (map (λ x. x.kind) xs ++ operands xs) i 0
  unfolding encode
  byte_at p i e = rw e (get_or-append-add (size_bytes z) (map (λ x. x.kind) xs ++ operands xs) i 0)

  kind_at_lem : (i : ℕ) → i < length xs → get_or (encode z xs) (8 + i) 0 ≡ (get_or xs i nothing).kind
  kind_at_lem i h =
      byte_at (8 + i) i refl
      ∙ get_or-append (map (λ x. x.kind) xs) (operands xs) 0 i (rw length-map h)
      ∙ get_or-map (λ x. x.kind) xs i nothing

  part_at : (i c p : ℕ) → i < length xs → c < 6 → p ≡ 8 + length xs + 6 * i + c → get_or (encode z xs) p 0 ≡ get_or (operands (get_or xs i nothing ∷ [])) c 0
  part_at i c p h hc e =
      byte_at p (length (map (λ (x : Net). x.kind) xs) + (6 * i + c)) (rw length-map (omega arith))
      ∙ get_or-append-add (map (λ x. x.kind) xs) (operands xs) (6 * i + c) 0
      ∙ operand_at xs i c h hc

  net_at_lem : (i : ℕ) → i < length xs → net_at (encode z xs) (length xs) i ≡ get_or xs i nothing
  unfolding net_at
  net_at_lem i h =
      let x = get_or xs i nothing in
      let n = 8 + length xs + 6 * i in
      let a = ap₂ (λ l m. l + 256 * m) (part_at i 0 (n + 0) h (lit< tt) refl) (part_at i 1 (n + 0 + 1) h (lit< tt) (omega arith)) ∙ two_bytes x.a in
      let b = ap₂ (λ l m. l + 256 * m) (part_at i 2 (n + 2) h (lit< tt) refl) (part_at i 3 (n + 2 + 1) h (lit< tt) (omega arith)) ∙ two_bytes x.b in
      let c = ap₂ (λ l m. l + 256 * m) (part_at i 4 (n + 4) h (lit< tt) refl) (part_at i 5 (n + 4 + 1) h (lit< tt) (omega arith)) ∙ two_bytes x.c in
      λ j. record { kind = kind_at_lem i h j; a = a j; b = b j; c = c j }

  nets_back_from : (i k : ℕ) → i + k ≡ length xs → nets_from (encode z xs) (length xs) i k ≡ drop i xs
  unfolding nets_from
  nets_back_from i zero h = sym (drop_of_length-le xs {i = i} (omega arith))
  nets_back_from i (suc k) h =
      rw (drop-cons xs i nothing (omega arith))
      (ap₂ (λ (x : Net) (l : List Net). x ∷ l) (net_at_lem i (omega arith)) (nets_back_from (suc i) k (omega arith)))

  pub nets_back : z.nets ≡ length xs → nets_of (encode z xs) ≡ xs
  unfolding nets_of
  nets_back h = rw sizes_back (subst⁻¹ (λ n. nets_from (encode z xs) n 0 n ≡ xs) h (nets_back_from 0 (length xs) (omega arith)))

-- its numbers are bytes
abbrev Byte : ℕ → ℕ → Type 0
Byte x y = x < 256

abbrev pub Bytes : List ℕ → Type 0
Bytes xs = Forall₂ Byte xs xs

pub u16_bytes : (n : ℕ) {l : List ℕ} → n < 65536 → Bytes l → Bytes (u16 n ++ l)
u16_bytes n h k =
    let low : n % 256 < 256 = omega arith in
    let high : n / 256 < 256 = omega arith in
    Forall₂.cons low (Forall₂.cons high k)
