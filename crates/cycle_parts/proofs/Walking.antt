-- A cycle's walk that code has taken as far as net i: what is left of it gives the bytes of all nets.
use Prim.Native.Nat.{ℕ, suc, ◌+◌, ◌≤◌, ◌<◌}
use native.Mathlib.Numerals.{add-one}
use native.Mathlib.Omega.{arith}
use mathlib.Core.Path.{◌≡◌, sym, ap, ◌∙◌}
use mathlib.Core.List.Forall₂
use mathlib.Core.List.{List}
use mathlib.Core.Bool.{cond}
use lib.Dec.{eqb, lit≤}
use lib.ListN.{length, get_or, set, length-set}
use lib.Seq.{get_or-take, get_or-set_other, take-suc-set, take_all, drop-drop}
use Rattle.gates.specs.Kinds.{INPUT, REG}
use Rattle.gates.specs.Rules.{gate_byte}
use Rattle.gates.proofs.Laws.{Code}
use Rattle.image.specs.Image.{sizes_of, kind_at, net_at, nets_of, count}
use Rattle.image.proofs.Pairs.{pairs_get_or}
use Rattle.image.proofs.Nets.{nets_left, nets_next, nets_done, nets_left_lem}
use Rattle.net_checking.proofs.Passes.{Passes, no_refusal}
use Rattle.checking.proofs.Checked.{Checked, net_passes}
use Rattle.cycle.specs.Cycle.{Walk, net_byte, past, walk, bytes_of}
use Rattle.cycle.proofs.Cycles.{WalkRelated, past_related, code_kept}
use Rattle.cycle.proofs.Calls.{Ready}
use Rattle.cycle_parts.specs.Readable.{walk_at, Readable}

pub record Walked (s : List ℕ) (n : ℕ) (row state nets : List ℕ) (i inputs registers : ℕ) : Type 0 where
  pub image : Checked s
  pub count_is : n ≡ (sizes_of s).nets
  pub upto : i ≤ n
  pub size : length nets ≡ n
  pub all : bytes_of gate_byte (nets_of s) row state ≡ (walk gate_byte (nets_left s n i) (walk_at row state nets i inputs registers)).bytes
  pub codes : WalkRelated Code (walk_at row state nets i inputs registers) (walk_at row state nets i inputs registers)
  pub of_inputs : inputs + count INPUT (nets_left s n i) ≡ length row
  pub of_registers : registers + count REG (nets_left s n i) ≡ length state
  pub second : i ≤ 1 → get_or nets 1 0 ≡ 0

-- at net 0
pub walk_begins : {s : List ℕ} {n : ℕ} {row state nets : List ℕ} → Ready s state (sizes_of s).inputs row → n ≡ (sizes_of s).nets
    → length nets ≡ n → get_or nets 1 0 ≡ 0 → Walked s n row state nets 0 0 0
unfolding bytes_of
walk_begins {s} {n} r h size second =
    let left = nets_left_lem s n h in
    record {
      image = r.image;
      count_is = h;
      upto = omega arith;
      size = size;
      all = rw left;
      codes = record { bytes = Forall₂.nil; row = r.codes; state = r.registers.codes };
      of_inputs = rw left (omega (arith, r.image.inputs, r.size));
      of_registers = rw left (omega (arith, r.image.registers, r.registers.size));
      second = λ l. second;
    }

module _ {s : List ℕ} {n : ℕ} {row state nets : List ℕ} {i inputs registers : ℕ} (w : Walked s n row state nets i inputs registers) where
  -- with net i before it
  module _ (below : i < n) where
    this_passes : Passes n i (net_at s n i)
    this_passes = net_passes w.image w.count_is i below

    this_count : (k : ℕ) → count k (nets_left s n i) ≡ cond (eqb (kind_at s i) k) 1 0 + count k (nets_left s n (suc i))
    unfolding count net_at
    this_count k = rw (nets_next s n i below, add-one i)

    pub walk_readable : Readable s n row state nets i inputs registers
    walk_readable =
        record {
          passes = no_refusal this_passes;
          input = λ e. let m = rw (this_count INPUT, e) at w.of_inputs in omega arith;
          register = λ e. let m = rw (this_count REG, e) at w.of_registers in omega arith;
          codes = λ j h. let m = rw (get_or-take i nets j 0 h) at (pairs_get_or j 0 (lit≤ tt) w.codes.bytes) in omega arith;
          second = w.second;
        }

    -- one net further, with its byte in place
    module _ (b p q : ℕ)
        (byte : b ≡ net_byte gate_byte (net_at s n i) (walk_at row state nets i inputs registers))
        (in_row : p ≡ inputs + cond (eqb (kind_at s i) INPUT) 1 0)
        (in-state : q ≡ registers + cond (eqb (kind_at s i) REG) 1 0) where
      further : past gate_byte (net_at s n i) (walk_at row state nets i inputs registers) ≡ walk_at row state (set nets i b) (suc i) p q
      unfolding past net_at
      further =
          let l : i < length nets = omega (arith, w.size) in
          rw (take-suc-set nets i b l, byte, in_row, in-state, drop-drop _ inputs row, drop-drop _ registers state)

      pub walk_goes_on : Walked s n row state (set nets i b) (suc i) p q
      unfolding walk
      walk_goes_on =
          record {
            image = w.image;
            count_is = w.count_is;
            upto = below;
            size = length-set nets i b ∙ w.size;
            all = w.all ∙ rw (nets_next s n i below, add-one i) (ap (λ (v : Walk). (walk gate_byte (nets_left s n (suc i)) v).bytes) further);
            codes = rw further at (past_related code_kept this_passes w.codes);
            of_inputs = omega (arith, this_count INPUT, w.of_inputs);
            of_registers = omega (arith, this_count REG, w.of_registers);
            second = λ h. get_or-set_other nets i 1 b 0 (λ e. omega arith) ∙ w.second (omega arith);
          }

  -- with none
  pub walk_ends : n ≤ i → nets ≡ bytes_of gate_byte (nets_of s) row state
  unfolding walk
  walk_ends h = sym (w.all ∙ rw (nets_done s n i (omega arith), take_all i nets (omega (arith, w.size))))
