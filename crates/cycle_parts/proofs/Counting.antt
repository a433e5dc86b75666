-- A pass that fills the registers of a state and counts those that are marked: at net i, the marks of the registers that stand already are counted.
use Prim.Native.Nat.{ℕ, suc, ◌+◌, ◌≤◌, ◌<◌}
use native.Mathlib.Numerals.{add-one}
use native.Mathlib.Omega.{arith}
use mathlib.Core.Path.{◌≡◌, refl, sym, ap, ◌∙◌}
use mathlib.Core.List.{List}
use lib.ListN.{length, take, set, length-set}
use lib.Seq.{take_all}
use Rattle.gates.specs.Kinds.{REG}
use Rattle.gates.specs.Rules.{bit, mark}
use Rattle.image.specs.declared.image.Net.{Net}
use Rattle.image.specs.Image.{sizes_of, kind_at, net_at, nets_of}
use Rattle.checking.proofs.Checked.{Checked, few_of}
use Rattle.cycle.specs.State.{marked_count}
use Rattle.cycle.specs.Cycle.{registers}
use Rattle.cycle.proofs.States.{count_set, count_fits}
use Rattle.cycle.proofs.Selections.{registers_selected}
use Rattle.cycle.proofs.Filling.{Pass, pass_begins, pass_room, pass_takes, pass_skips, pass_ends, pass_all}

pub record Counting (byte : Net → ℕ) (s : List ℕ) (n : ℕ) (lent buffer : List ℕ) (marked j i : ℕ) : Type 0 where
  pub pass : Pass (registers_selected byte) s n lent buffer j i
  pub counted : marked ≡ marked_count (take j buffer)
  pub few : length buffer < 65536

pub counting_begins : {byte : Net → ℕ} {s : List ℕ} {n : ℕ} {lent : List ℕ} → Checked s → n ≡ (sizes_of s).nets → length lent ≡ (sizes_of s).registers
    → Counting byte s n lent lent 0 0 0
unfolding marked_count
counting_begins image e size =
    record {
      pass = pass_begins _ image e (size ∙ image.registers);
      counted = refl;
      few = omega (arith, size, image.registers, few_of image REG);
    }

module _ {byte : Net → ℕ} {s : List ℕ} {n : ℕ} {lent buffer : List ℕ} {marked j i : ℕ} (p : Counting byte s n lent buffer marked j i) where
  -- with net i before it
  module _ (below : i < n) where
    -- a register, whose byte is y
    module _ (this : kind_at s i ≡ REG) {y : ℕ} (e : y ≡ byte (net_at s n i)) where
      one_more : marked + bit (mark y) ≡ marked_count (take (suc j) (set buffer j y))
      one_more = rw p.counted (sym (count_set buffer j y (pass_room p.pass below this)))

      pub counting_fits : marked + bit (mark y) < 65536
      counting_fits = let l = length-set buffer j y in omega (arith, one_more, count_fits (set buffer j y) (suc j) (omega (arith, p.few)))

      pub counting_takes : Counting byte s n lent (set buffer j y) (marked + bit (mark y)) (j + 1) (i + 1)
      counting_takes =
          record {
            pass = rw e (pass_takes p.pass below this);
            counted = rw add-one one_more;
            few = let l = length-set buffer j y in omega (arith, p.few);
          }

    pub counting_skips : (kind_at s i ≡ REG → ⊥) → Counting byte s n lent buffer marked j (i + 1)
    counting_skips other = record { pass = pass_skips p.pass below other; counted = p.counted; few = p.few }

  -- with no net left
  pub counting_ends : n ≤ i → marked ≡ marked_count (registers byte (nets_of s))
  counting_ends h = p.counted ∙ ap marked_count (take_all j buffer (omega (arith, pass_all p.pass h)) ∙ pass_ends p.pass h)
