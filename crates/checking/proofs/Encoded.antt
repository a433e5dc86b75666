-- The numbers of an image that is written from nets that pass are bytes.
use Prim.Native.Nat.{ℕ, ◌+◌, ◌≤◌, ◌<◌}
use mathlib.Core.List.Forall₂
use mathlib.Core.List.{List, map}
use native.Mathlib.Omega.{arith}
use lib.ListN.{length}
use Rattle.image.specs.declared.image.Sizes.{Sizes}
use Rattle.image.specs.declared.image.Net.{Net}
use Rattle.image.specs.Image.{operands, encode}
use Rattle.image.proofs.Pairs.{pairs_append}
use Rattle.image.proofs.Encoding.{Bytes, u16_bytes}
use Rattle.net_checking.proofs.Passes.{kind_most, operands_small, fits_small}
use Rattle.checking.proofs.Checked.{AllPass, nil, cons}

kind_bytes : {n i : ℕ} {xs : List Net} → n ≤ 8192 → i + length xs ≤ 8192 → AllPass n i xs → Bytes (map (λ x. x.kind) xs)
kind_bytes h l nil = Forall₂.nil
kind_bytes h l (cons {x = x} p ps) =
    let most : x.kind < 256 = omega (arith, kind_most p) in
    Forall₂.cons most (kind_bytes h (omega arith) ps)

operand_bytes : {n i : ℕ} {xs : List Net} → n ≤ 8192 → i + length xs ≤ 8192 → AllPass n i xs → Bytes (operands xs)
operand_bytes h l nil = Forall₂.nil
operand_bytes h l (cons {x = x} {xs = xs} p ps) =
    let fits = fits_small (operands_small h (omega arith) p) in
    u16_bytes x.a fits.a (u16_bytes x.b fits.b (u16_bytes x.c fits.c (operand_bytes h (omega arith) ps)))

pub encode_bytes :
    {n : ℕ} {z : Sizes} {xs : List Net} → n ≤ 8192 → length xs ≤ 8192 → AllPass n 0 xs
    → z.nets < 65536 → z.inputs < 65536 → z.registers < 65536 → z.outputs < 65536 → Bytes (encode z xs)
unfolding encode
encode_bytes {z = z} h l ps n i r o =
    u16_bytes z.nets n
    (u16_bytes z.inputs i
    (u16_bytes z.registers r
    (u16_bytes z.outputs o
    (pairs_append (kind_bytes h (omega arith) ps) (operand_bytes h (omega arith) ps)))))
