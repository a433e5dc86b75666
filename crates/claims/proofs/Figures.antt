-- The figures are those of what doubling writes, the call turns back as doubling does, and the counts add up to the nets.
use Prim.Native.Nat.{ℕ, suc, ◌+◌, ◌*◌}
use native.Mathlib.Omega.{arith}
use mathlib.Core.Path.{◌≡◌, refl, sym, ◌∙◌}
use mathlib.Core.List.{List, ◌∷◌}
use lib.Dec.{ltb}
use lib.ListN.{length}
use Rattle.image.specs.declared.image.Net.{Net}
use Rattle.image.specs.Image.{nets_of, count}
use Rattle.image.proofs.Nets.{length_nets}
use Rattle.refusals.specs.Refusals.{refuse, ◌then◌, bad_length}
use Rattle.refusals.proofs.Refusals.{then_assoc}
use Rattle.net_checking.proofs.Passes.{Passes, is_const, is_input, is_reg, is_not, is_and, is_or, is_xor, is_mux, is_out}
use Rattle.checking.specs.Check.{check_refusal}
use Rattle.checking.specs.Counts.{kind_counts}
use Rattle.checking.proofs.Checked.{AllPass, nil, cons}
use Rattle.checking.proofs.Counting.{counts_length, count_at}
use Rattle.cycle.proofs.Calls.{either_way}
use Rattle.doubled.specs.Doubled.{doubled_size, doubled_nets}
use Rattle.doubled.proofs.Positions.{doubled_length, doubled_passes}
use Rattle.figures.specs.Figures.{size_refusal}
use Rattle.figures.proofs.Refusing.{size_refused, size_accepted, size_none, size_given}
use Rattle.doubling.specs.Doubling.{double_refusal, double_of}
use Rattle.doubling.proofs.Checks.{doubled_sizes, doubled_nets_lem, doubled_image_length, double_none, double_accepted, double_refused}
use Rattle.claims.specs.Figures.{FiguresWritten, TurnsBackAlike, total, KindsAddUp, NoneBesideRefusal}

-- what doubling gives is its chain of refusals, since 17 is never given
doubling_gives : (s buf : List ℕ) → (double_of s buf).refusal ≡ double_refusal s buf
doubling_gives s buf =
    either_way (double_refusal s buf) (λ e. rw (double_accepted s buf e, e)) (λ r e. rw (double_refused s buf r e, e))

-- that chain begins as that of the figures
chain : (s buf : List ℕ) → double_refusal s buf ≡ (size_refusal s then bad_length 16 (8 + 7 * doubled_size (nets_of s)) buf)
unfolding double_refusal size_refusal
chain s buf =
    then_assoc (check_refusal s) (refuse (ltb 8192 (doubled_size (nets_of s))) 15 0) (bad_length 16 (8 + 7 * doubled_size (nets_of s)) buf)

pub turns_back_alike : TurnsBackAlike
turns_back_alike s buf =
    doubling_gives s buf ∙ chain s buf
    ∙ either_way (size_refusal s) (λ e. rw (size_accepted s e, e)) (λ r e. rw (size_refused s r e, e))

pub no_figures : NoneBesideRefusal
no_figures s r h = size_refused s r (sym (size_given s) ∙ h)

-- THE SUM OF THE COUNTS: one more net, of one of the nine kinds, adds 1 to it
total_next : {n i : ℕ} {x : Net} → Passes n i x → (xs : List Net) → total (kind_counts (x ∷ xs)) ≡ suc (total (kind_counts xs))
unfolding kind_counts count
total_next (is_const h) xs = omega arith
total_next is_input xs = omega arith
total_next (is_reg h k) xs = omega arith
total_next (is_not h) xs = omega arith
total_next (is_and h k) xs = omega arith
total_next (is_or h k) xs = omega arith
total_next (is_xor h k) xs = omega arith
total_next (is_mux h k l) xs = omega arith
total_next (is_out h k) xs = omega arith

total_all : {n i : ℕ} {xs : List Net} → AllPass n i xs → total (kind_counts xs) ≡ length xs
unfolding kind_counts count
total_all nil = refl
total_all (cons {xs = xs} p ps) = omega (arith, total_next p xs, total_all ps)

pub kinds_add_up : KindsAddUp
kinds_add_up s =
    either_way (size_refusal s)
    (λ e.
    let c = ((size_none s).0 e).0 in
    rw (size_accepted s e) (total_all (doubled_passes c.nets (sym (length_nets s))) ∙ doubled_length (nets_of s)))
    (λ r e. rw (size_refused s r e))

pub figures_written : FiguresWritten
figures_written s buf h =
    let e = sym (doubling_gives s buf) ∙ h in
    let t = (double_none s buf).0 e in
    let f = size_accepted s ((size_none s).1 (t.0, t.1)) in
    let d = double_accepted s buf e in
    record {
      accepted = rw f;
      nets = rw (f, d, doubled_sizes s);
      bytes = rw (f, d, doubled_image_length s);
      nine = rw f (counts_length (doubled_nets (nets_of s)));
      kinds = λ k l. rw (f, d, doubled_nets_lem s) (count_at k (doubled_nets (nets_of s)) (omega arith));
    }
