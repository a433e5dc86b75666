-- The small terms of the statements.
use Prim.Native.Nat.{ℕ, zero, suc, ◌/◌, ◌%◌, ◌≤◌}
use native.Mathlib.Omega.{arith}
use mathlib.Core.Logic.{◌↔◌}
use mathlib.Core.Path.{◌≡◌, refl, sym}
use mathlib.Core.Bool.{Bool, true, false}
use borrow.Author.Tests.{eq-eqb, ne_eqb}
use Rattle.gates.specs.Rules.{mark}
use Rattle.gates.specs.Relations.{same}
use Rattle.image.specs.Image.{sizes_of, nets_of, count}
use Rattle.image.proofs.Nets.{length_nets}
use Rattle.cycle.specs.State.{marked_count, with_count}
use Rattle.cycle.specs.Cycle.{cycle_of}
use Rattle.doubled.proofs.Positions.{value_end}
use Rattle.claims.specs.Terms.{Terms}

-- the mark that is counted
mark_1 : (x : ℕ) → x / 2 % 2 ≡ 1 → mark x ≡ true
unfolding mark
mark_1 x h = rw h

mark_0 : (x : ℕ) → x / 2 % 2 ≡ 0 → mark x ≡ false
unfolding mark
mark_0 x h = rw h

marked : (x : ℕ) → x ≤ 3 → (mark x ≡ true) ↔ (x / 2 ≡ 1)
unfolding mark
marked zero h = (λ e. absurd (let z : ◌≡◌ {A = Bool} false true = e in let n : ◌≡◌ {A = ℕ} 0 1 = cc in omega arith), λ e. absurd (omega arith))
marked (suc zero) h = (λ e. absurd (let z : ◌≡◌ {A = Bool} false true = e in let n : ◌≡◌ {A = ℕ} 0 1 = cc in omega arith), λ e. absurd (omega arith))
marked (suc (suc zero)) h = (λ e. refl, λ e. refl)
marked (suc (suc (suc zero))) h = (λ e. refl, λ e. refl)
marked (suc (suc (suc (suc x)))) h = absurd (omega arith)

pub terms : Terms
unfolding count cycle_of marked_count with_count
terms =
    record {
      kinds = (refl, refl, refl, refl, refl, refl, refl, refl, refl);
      count_none = λ k. refl;
      count_one = λ x xs. rw (eq-eqb x.kind x.kind refl);
      count_other = λ k x xs h. rw (ne_eqb x.kind k h) (omega arith);
      marked = marked;
      marked_none = refl;
      marked_one = λ x xs h. rw (mark_1 x h);
      marked_other = λ x xs h. rw (mark_0 x h) (omega arith);
      state_length_lem = λ s. refl;
      two_bytes = λ n. refl;
      state = λ rs. refl;
      same = λ x. same;
      outputs = λ xs row st. refl;
      size = λ s. sym (value_end (nets_of s) (sizes_of s).nets (omega (arith, length_nets s)));
    }
