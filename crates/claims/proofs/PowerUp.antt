-- Power-up, register by register.
use Prim.Native.Nat.{ℕ, ◌+◌, ◌<◌}
use mathlib.Core.Path.{◌≡◌, ap, ◌∙◌}
use mathlib.Core.List.{List}
use lib.ListN.{length}
use Rattle.gates.specs.Kinds.{REG}
use Rattle.image.specs.Image.{sizes_of, nets_of}
use Rattle.checking.proofs.Checked.{Checked, check_none}
use Rattle.cycle.specs.State.{state_length, registers_in}
use Rattle.cycle.specs.Calls.{start, starts, power_up_of}
use Rattle.cycle.proofs.States.{state_length_lem, registers_back}
use Rattle.cycle.proofs.Calls.{start_bytes, starts_registers, powered_up_lem}
use Rattle.cycle.proofs.Selections.{registers_selected}
use Rattle.claims.specs.NetBytes.{net_of, Counted}
use Rattle.claims.specs.PowerUp.{PowerUpStarts}
use Rattle.claims.proofs.NetBytes.{selected}

register : {s : List ℕ} (st : List ℕ) → Checked s → length st ≡ state_length (sizes_of s)
    → (i : ℕ) → i < (sizes_of s).nets → (net_of s i).kind ≡ REG → Counted REG s i (registers_in s (power_up_of s st).state) (start (net_of s i).b)
unfolding starts
register {s} st c l i h e = rw (powered_up_lem s st c l, registers_back (starts_registers c)) (selected i h (registers_selected (λ x. start x.b)) e)

pub power_up_starts : PowerUpStarts
power_up_starts s st h l =
    let c = (check_none s).0 h in
    let e = powered_up_lem s st c l in
    record {
      done = rw e;
      size = rw e (state_length_lem (starts (nets_of s)) ∙ ap (λ r. r + 2) (starts_registers c).size);
      start_0 = λ i m k b. rw (b, start_bytes.0) at (register st c l i m k);
      start_1 = λ i m k b. rw (b, start_bytes.1) at (register st c l i m k);
      none_given = λ i m k b. rw (b, start_bytes.2) at (register st c l i m k);
    }
