-- The doubled image of an accepted image: it is read back as the doubled netlist, it passes checking, and its numbers are bytes.
use Prim.Native.Nat.{ℕ, suc, ◌+◌, ◌*◌, ◌≤◌, ◌<◌}
use mathlib.Core.Logic.{◌↔◌}
use mathlib.Core.Path.{◌≡◌, refl, ap, sym, ◌∙◌}
use mathlib.Core.List.{List, [], ◌∷◌, ◌++◌}
use mathlib.Core.Option.{none, some}
use mathlib.Core.Bool.{cond}
use native.Mathlib.Omega.{arith}
use lib.Dec.{eqb}
use lib.ListN.{length, replicate}
use Rattle.image.specs.declared.image.Net.{Net}
use Rattle.image.specs.Image.{sizes_of, nets_of, count}
use Rattle.image.proofs.Nets.{length_nets, count_most}
use Rattle.image.proofs.Encoding.{encode_length, sizes_back, nets_back, Bytes}
use Rattle.refusals.specs.declared.answer.Refusal.{Refusal}
use Rattle.refusals.specs.Refusals.{refusal}
use Rattle.refusals.proofs.Refusals.{accepted}
use Rattle.net_checking.proofs.Passes.{Passes, is_const, is_input, is_reg, is_not, is_and, is_or, is_xor, is_mux, is_out}
use Rattle.checking.specs.Check.{check_refusal}
use Rattle.checking.proofs.Checked.{AllPass, nil, cons, Checked, check_none}
use Rattle.checking.proofs.Encoded.{encode_bytes}
use Rattle.groups.specs.Groups.{group_of}
use Rattle.doubled.specs.Doubled.{doubled_size, value_net, value_pin, mark_pin, group_at, groups_from, doubled_nets}
use Rattle.doubled.proofs.Positions.{two_or_more, doubled_length, doubled_passes}
use Rattle.doubling.specs.Doubling.{paired_sizes, doubled_image, double_refusal, double_of}

-- the kinds that are counted
data Counted : ℕ → Type 0 where
  c_in : Counted 1
  c_reg : Counted 2
  c_out : Counted 8

group_count : {k n i : ℕ} {x : Net} (v : ℕ) (val mrk : ℕ → ℕ) → Counted k → Passes n i x → count k (group_of v x val mrk) ≡ 2 * cond (eqb x.kind k) 1 0
unfolding group_of count
group_count v val mrk c_in (is_const h) = refl
group_count v val mrk c_reg (is_const h) = refl
group_count v val mrk c_out (is_const h) = refl
group_count v val mrk c_in is_input = refl
group_count v val mrk c_reg is_input = refl
group_count v val mrk c_out is_input = refl
group_count v val mrk c_in (is_reg h k) = refl
group_count v val mrk c_reg (is_reg h k) = refl
group_count v val mrk c_out (is_reg h k) = refl
group_count v val mrk c_in (is_not h) = refl
group_count v val mrk c_reg (is_not h) = refl
group_count v val mrk c_out (is_not h) = refl
group_count v val mrk c_in (is_and h k) = refl
group_count v val mrk c_reg (is_and h k) = refl
group_count v val mrk c_out (is_and h k) = refl
group_count v val mrk c_in (is_or h k) = refl
group_count v val mrk c_reg (is_or h k) = refl
group_count v val mrk c_out (is_or h k) = refl
group_count v val mrk c_in (is_xor h k) = refl
group_count v val mrk c_reg (is_xor h k) = refl
group_count v val mrk c_out (is_xor h k) = refl
group_count v val mrk c_in (is_mux h k l) = refl
group_count v val mrk c_reg (is_mux h k l) = refl
group_count v val mrk c_out (is_mux h k l) = refl
group_count v val mrk c_in (is_out h k) = refl
group_count v val mrk c_reg (is_out h k) = refl
group_count v val mrk c_out (is_out h k) = refl

count_append : (k : ℕ) (xs ys : List Net) → count k (xs ++ ys) ≡ count k xs + count k ys
unfolding count
count_append k [] ys = omega arith
count_append k (x ∷ xs) ys = let h = count_append k xs ys in omega arith

groups_count : (xs : List Net) {k n i : ℕ} {ys : List Net} → Counted k → AllPass n i ys → count k (groups_from xs i ys) ≡ 2 * count k ys
unfolding groups_from count
groups_count xs c nil = refl
groups_count xs {k = k} {i = i} c (cons {x = y} {xs = ys} p ps) =
    omega
    (arith, count_append k (group_at xs i y) (groups_from xs (suc i) ys), group_count (value_net xs i) (value_pin xs) (mark_pin xs) c p, groups_count xs c ps)

doubled_count : {xs : List Net} {k n : ℕ} → Counted k → AllPass n 0 xs → count k (doubled_nets xs) ≡ 2 * count k xs
unfolding doubled_nets
doubled_count {xs} c ps = groups_count xs c ps

size_positive : {n i : ℕ} {xs : List Net} → AllPass n i xs → 0 < length xs → 0 < doubled_size xs
unfolding doubled_size
size_positive nil h = absurd (omega arith)
size_positive (cons p ps) h = omega (arith, two_or_more p)

-- what is read back from the doubled image
pub doubled_sizes : (s : List ℕ) → sizes_of (doubled_image s) ≡ paired_sizes s
unfolding doubled_image
doubled_sizes s = sizes_back _ _

pub doubled_nets_lem : (s : List ℕ) → nets_of (doubled_image s) ≡ doubled_nets (nets_of s)
unfolding doubled_image
doubled_nets_lem s = nets_back _ _ (sym (doubled_length (nets_of s)))

pub doubled_image_length : (s : List ℕ) → length (doubled_image s) ≡ 8 + 7 * doubled_size (nets_of s)
unfolding doubled_image
doubled_image_length s = encode_length _ (doubled_nets (nets_of s)) ∙ ap (λ n. 8 + 7 * n) (doubled_length (nets_of s))

pub doubled_checked : (s : List ℕ) → Checked s → doubled_size (nets_of s) ≤ 8192 → Checked (doubled_image s)
doubled_checked s c h =
    let l = length_nets s in
    let sizes = doubled_sizes s in
    let nets = doubled_nets_lem s in
    record {
      some_nets = rw sizes (size_positive c.nets (omega arith));
      few_nets = rw sizes h;
      exact = rw sizes (doubled_image_length s);
      nets = rw (sizes, nets) (doubled_passes c.nets (sym l));
      inputs = rw (sizes, nets) (ap (λ n. 2 * n) c.inputs ∙ sym (doubled_count c_in c.nets));
      registers = rw (sizes, nets) (ap (λ n. 2 * n) c.registers ∙ sym (doubled_count c_reg c.nets));
      outputs = rw (sizes, nets) (ap (λ n. 2 * n) c.outputs ∙ sym (doubled_count c_out c.nets));
    }

pub doubled_bytes : (s : List ℕ) → Checked s → doubled_size (nets_of s) ≤ 8192 → Bytes (doubled_image s)
unfolding doubled_image
doubled_bytes s c h =
    let xs = nets_of s in
    let l = doubled_length xs in
    encode_bytes h (omega arith) (doubled_passes c.nets (sym (length_nets s)))
    (omega arith)
    (omega (arith, c.inputs, doubled_count c_in c.nets, count_most 1 (doubled_nets xs)))
    (omega (arith, c.registers, doubled_count c_reg c.nets, count_most 2 (doubled_nets xs)))
    (omega (arith, c.outputs, doubled_count c_out c.nets, count_most 8 (doubled_nets xs)))

-- DOUBLING
pub double_none : (s buf : List ℕ) → (double_refusal s buf ≡ none) ↔ (Checked s × (doubled_size (nets_of s) ≤ 8192) × (length buf ≡ 8 + 7 * doubled_size (nets_of s)))
unfolding double_refusal
double_none s buf =
    (λ h. let t = simp (accepted, check_none) at h in (t.0, t.1.0, t.1.1), λ h. simp (accepted, check_none) (h.0, (h.1, h.2)))

pub double_refused : (s buf : List ℕ) (r : Refusal) → double_refusal s buf ≡ some r → double_of s buf ≡ record { refusal = some r; buffer = buf }
unfolding double_of
double_refused s buf r h = rw (h, double_of)

-- past its refusals, what is written is checked again
module _ (s buf : List ℕ) (h : double_refusal s buf ≡ none) where
  pub double_passed : check_refusal (doubled_image s) ≡ none → double_of s buf ≡ record { refusal = none; buffer = doubled_image s }
  unfolding double_of
  double_passed e = rw (h, double_of) (rw e)

  pub double_failed : (r : Refusal) → check_refusal (doubled_image s) ≡ some r → double_of s buf ≡ record { refusal = some (refusal 17 0); buffer = replicate (length buf) 0 }
  unfolding double_of
  double_failed r e = rw (h, double_of) (rw e)

  -- and always passes: 17 is never given
  pub double_accepted : double_of s buf ≡ record { refusal = none; buffer = doubled_image s }
  double_accepted = let t = (double_none s buf).0 h in double_passed ((check_none (doubled_image s)).1 (doubled_checked s t.0 t.1))
