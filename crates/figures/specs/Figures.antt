-- How big the doubled netlist gets (document 02, L1): its nets, its bytes, and how many nets of each of the nine kinds it holds.
use Rattle.std.specs.Prelude.{ℕ, ◌+◌, ◌*◌, List, ltb, replicate}
use Rattle.std.proofs.Math.Option.{Option, none, some}
use Rattle.image.specs.declared.image.Net.{Net}
use Rattle.image.specs.Image.{nets_of}
use Rattle.refusals.specs.declared.answer.Refusal.{Refusal}
use Rattle.refusals.specs.Refusals.{refuse, ◌then◌}
use Rattle.checking.specs.Check.{check_refusal}
use Rattle.checking.specs.Counts.{kind_counts}
use Rattle.doubled.specs.Doubled.{doubled_size, doubled_nets}

-- what the call gives: the refusal, or none; the nets and the bytes of the doubled netlist; and how many nets of each kind, 0 to 8, it holds
pub record Figures : Type 0 where
  pub refusal : Option Refusal
  pub nets : ℕ
  pub bytes : ℕ
  pub kinds : List ℕ

-- the figures of the doubled netlist of the nets xs
abbrev pub figures_of : List Net → Figures
figures_of xs =
    record {
      refusal = none;
      nets = doubled_size xs;
      bytes = 8 + 7 * doubled_size xs;
      kinds = kind_counts (doubled_nets xs);
    }

-- a refusal, and all figures 0
abbrev pub no_figures : Refusal → Figures
no_figures r = record { refusal = some r; nets = 0; bytes = 0; kinds = replicate 9 0 }

-- 1 to 8 and 15
unfoldable pub size_refusal : List ℕ → Option Refusal
size_refusal s = check_refusal s then refuse (ltb 8192 (doubled_size (nets_of s))) 15 0

-- the call on the image s
unfoldable pub doubled_size_of : List ℕ → Figures
doubled_size_of s = elim (size_refusal s) [ none ↦ figures_of (nets_of s) | some r ↦ no_figures r ]
