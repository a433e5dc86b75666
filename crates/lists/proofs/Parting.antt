-- Three lists in one buffer, one after the other.
use Prim.Native.Nat.{ℕ, ◌+◌, ◌-◌, ◌≤◌}
use native.Mathlib.Omega.{arith}
use mathlib.Core.Path.{◌≡◌, ◌∙◌}
use mathlib.Core.List.{List, [], ◌∷◌, ◌++◌, append_assoc}
use mathlib.Core.Bool.{Bool, true, false, cond}
use lib.Dec.{eqb, lit≤}
use borrow.Author.Tests.{ne_eqb}
use mathlib.Core.Logic.{⊎_elim}
use lib.ListN.{length, take, drop, length-append}
use lib.Seq.{take_at, drop_at}
use Rattle.gates.specs.Kinds.{INPUT, REG, OUT}
use Rattle.image.specs.declared.image.Net.{Net}
use Rattle.image.specs.Image.{sizes_of, nets_of, count}
use Rattle.image.proofs.Nets.{length_nets}
use Rattle.checking.proofs.Checked.{Checked}
use Rattle.cycle.proofs.Deciding.{same_or_not}

-- written one after the other, the second leaves the first, and the third leaves the second
module _ (a b : ℕ) (xs ys : List ℕ) (h : length xs ≡ a) (k : length ys ≡ b - a) (ab : a ≤ b) (p q r : List ℕ) where
  both : length (xs ++ ys) ≡ b
  both = length-append xs ys ∙ omega (arith, h, k)

  pub middle_is : take (b - a) (drop a (take b (take a (xs ++ p) ++ (ys ++ q)) ++ r)) ≡ ys
  middle_is = rw (take_at xs p a h, ← append_assoc xs ys q, take_at (xs ++ ys) q b both, append_assoc, drop_at xs (ys ++ r) a h) (take_at ys r (b - a) k)

-- there are no more INPUTs, REGs and OUTs than nets
few_in : (xs : List Net) → count INPUT xs + count REG xs + count OUT xs ≤ length xs
unfolding count
few_in [] = omega arith
few_in (x ∷ xs) = let h = few_in xs in let l : cond (eqb x.kind INPUT) 1 0 + cond (eqb x.kind REG) 1 0 + cond (eqb x.kind OUT) 1 0 ≤ 1 = one_kind x.kind in omega arith
  where
    last : (b : Bool) → 0 + 0 + cond b 1 0 ≤ 1
    last true = lit≤ tt
    last false = lit≤ tt

    one_kind : (k : ℕ) → cond (eqb k INPUT) 1 0 + cond (eqb k REG) 1 0 + cond (eqb k OUT) 1 0 ≤ 1
    one_kind k =
        ⊎_elim
        (λ e. rw e (lit≤ tt))
        (λ f. ⊎_elim (λ e. rw e (lit≤ tt)) (λ g. rw (ne_eqb k 1 f, ne_eqb k 2 g) (last (eqb k 8))) (same_or_not k 2))
        (same_or_not k 1)

pub few_sources : {s : List ℕ} → Checked s → (sizes_of s).inputs + (sizes_of s).registers + (sizes_of s).outputs ≤ 8192
few_sources {s} c = omega (arith, few_in (nets_of s), length_nets s, c.few_nets, c.inputs, c.registers, c.outputs)
