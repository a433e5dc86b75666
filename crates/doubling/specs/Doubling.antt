-- The image of the doubled netlist, and the call that writes it.
use Rattle.std.specs.Prelude.{ℕ, ◌+◌, ◌*◌, List, ltb, length, replicate}
use Rattle.std.proofs.Math.Option.{Option, none, some}
use Rattle.image.specs.declared.image.Sizes.{Sizes}
use Rattle.image.specs.Image.{sizes_of, nets_of, encode}
use Rattle.refusals.specs.declared.answer.Refusal.{Refusal}
use Rattle.refusals.specs.Refusals.{refusal, refuse, ◌then◌, bad_length}
use Rattle.checking.specs.Check.{check_refusal}
use Rattle.doubled.specs.Doubled.{doubled_size, doubled_nets}

-- the sizes of the doubled netlist: its nets, and twice the inputs, registers and outputs of the source
abbrev pub paired_sizes : List ℕ → Sizes
paired_sizes s =
    record {
      nets = doubled_size (nets_of s);
      inputs = 2 * (sizes_of s).inputs;
      registers = 2 * (sizes_of s).registers;
      outputs = 2 * (sizes_of s).outputs;
    }

-- the image of the doubled netlist
unfoldable pub doubled_image : List ℕ → List ℕ
doubled_image s = encode (paired_sizes s) (doubled_nets (nets_of s))

-- doubling: the refusal that it gives, or none, and the lent buffer
pub record Doubling : Type 0 where
  pub refusal : Option Refusal
  pub buffer : List ℕ

-- 1 to 8, 15 and 16
unfoldable pub double_refusal : (s buf : List ℕ) → Option Refusal
double_refusal s buf =
    check_refusal s
    then refuse (ltb 8192 (doubled_size (nets_of s))) 15 0
    then bad_length 16 (8 + 7 * doubled_size (nets_of s)) buf

-- 17, with the buffer set to 0, where checking refuses what was written
unfoldable pub double_of : (s buf : List ℕ) → Doubling
double_of s buf =
    elim (double_refusal s buf) [
      | none ↦
          elim (check_refusal (doubled_image s)) [
            | none ↦ record { refusal = none; buffer = doubled_image s }
            | some r ↦ record { refusal = some (refusal 17 0); buffer = replicate (length buf) 0 }
          ]
      | some r ↦ record { refusal = some r; buffer = buf }
    ]
