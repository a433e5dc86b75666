-- Filling a lent buffer in order: what stands in it already, and what is left to write; and the passes over nets that fill one.
use Prim.Native.Nat.{ℕ, ◌+◌, ◌*◌, ◌≤◌, ◌<◌}
use native.Mathlib.Numerals.{add-one}
use native.Mathlib.Omega.{arith}
use mathlib.Core.Logic.{⊎_elim}
use mathlib.Core.Path.{◌≡◌, refl, sym, ap, ◌∙◌}
use mathlib.Core.List.{List, [], ◌∷◌, ◌++◌, append_assoc, append-nil}
use mathlib.Core.Bool.{cond}
use lib.Dec.{eqb}
use lib.ListN.{length, take, drop, set, length-append, length-drop, length-set}
use lib.Seq.{length-take-le, set_split, take_at, take_all}
use borrow.Author.Tests.{eq-eqb, ne_eqb}
use Rattle.image.specs.declared.image.Net.{Net}
use Rattle.image.specs.Image.{sizes_of, kind_at, net_at, nets_of, count}
use Rattle.image.proofs.Nets.{nets_left, nets_next, nets_done, nets_left_lem}
use Rattle.checking.proofs.Checked.{Checked}
use Rattle.cycle.proofs.Deciding.{there_or_not}
use Rattle.cycle.proofs.Selections.{Selection, selection_length}

-- of the whole, the first j bytes stand in the buffer, and the rest is left
pub record Filled (whole buffer : List ℕ) (j : ℕ) (left : List ℕ) : Type 0 where
  pub whole_is : whole ≡ take j buffer ++ left
  pub room : j + length left ≡ length buffer

pub fill_begins : {whole buffer left : List ℕ} → whole ≡ left → length whole ≡ length buffer → Filled whole buffer 0 left
fill_begins e h = record { whole_is = e; room = omega (arith, rw e at h) }

-- with some more bytes in place
pub fill_part : {whole buffer : List ℕ} {j : ℕ} (ys : List ℕ) {left : List ℕ} → Filled whole buffer j (ys ++ left)
    → Filled whole (take j buffer ++ (ys ++ drop (j + length ys) buffer)) (j + length ys) left
fill_part {buffer = buffer} {j} ys {left} f =
    let size : length (take j buffer) ≡ j = length-take-le j buffer (omega (arith, f.room)) in
    let fits : j + length ys + length left ≡ length buffer = omega (arith, f.room, length-append ys left) in
    let now : length (take j buffer ++ ys) ≡ j + length ys = length-append (take j buffer) ys ∙ ap (λ m. m + length ys) size in
    record {
      whole_is = f.whole_is ∙ rw (← append_assoc (take j buffer) ys (drop (j + length ys) buffer), take_at (take j buffer ++ ys) (drop (j + length ys) buffer) (j + length ys) now, append_assoc);
      room = simp (length-append, length-drop) (omega arith);
    }

-- with one more
pub fill_goes_on : {whole buffer : List ℕ} {j : ℕ} {y : ℕ} {left : List ℕ} → Filled whole buffer j (y ∷ left) → Filled whole (set buffer j y) (j + 1) left
fill_goes_on {buffer = buffer} {j} {y} {left} f =
    let h : j < length buffer = omega (arith, f.room) in
    rw (set_split buffer j y h, ← add-one j) (fill_part (y ∷ []) f)

pub fill_length : {whole buffer : List ℕ} {j : ℕ} {left : List ℕ} → Filled whole buffer j left → length buffer ≡ length whole
fill_length {buffer = buffer} {j} f = rw (f.whole_is, length-append, length-take-le j buffer (omega (arith, f.room))) (sym f.room)

pub fill_ends : {whole buffer : List ℕ} {j : ℕ} → Filled whole buffer j [] → buffer ≡ whole
fill_ends {buffer = buffer} {j} f = sym (f.whole_is ∙ rw append-nil (take_all j buffer (omega (arith, f.room))))

-- A PASS over the nets that fills a lent buffer with a selection: it has come to net i, and the bytes of the nets below it stand
pub record Pass {k : ℕ} {list : ℕ → List Net → List ℕ} {byte : ℕ → Net → ℕ} (selection : Selection k list byte)
    (s : List ℕ) (n : ℕ) (lent buffer : List ℕ) (j i : ℕ) : Type 0 where
  pub count_is : n ≡ (sizes_of s).nets
  pub exact : length s ≡ 8 + 7 * n
  pub upto : i ≤ n
  pub bytes : Filled (list 0 (nets_of s)) buffer j (list i (nets_left s n i))
  pub size : length buffer ≡ length lent

-- from net 0 on
pub pass_begins : {k : ℕ} {list : ℕ → List Net → List ℕ} {byte : ℕ → Net → ℕ} (selection : Selection k list byte)
    {s : List ℕ} {n : ℕ} {lent : List ℕ} → Checked s → n ≡ (sizes_of s).nets → length lent ≡ count k (nets_of s) → Pass selection s n lent lent 0 0
pass_begins {list = list} selection {s} {n} image e size =
    record {
      count_is = e;
      exact = rw e image.exact;
      upto = omega arith;
      bytes = fill_begins (ap (list 0) (sym (nets_left_lem s n e))) (selection_length selection 0 (nets_of s) ∙ sym size);
      size = refl;
    }

module _ {k : ℕ} {list : ℕ → List Net → List ℕ} {byte : ℕ → Net → ℕ} {selection : Selection k list byte}
    {s : List ℕ} {n : ℕ} {lent buffer : List ℕ} {j i : ℕ} (p : Pass selection s n lent buffer j i) where
  -- with net i before it, whose kind was read
  module _ (below : i < n) where
    this_net : list i (nets_left s n i) ≡ cond (eqb (kind_at s i) k) (byte i (net_at s n i) ∷ list (i + 1) (nets_left s n (i + 1))) (list (i + 1) (nets_left s n (i + 1)))
    unfolding net_at
    this_net = rw (nets_next s n i below, selection.next i (net_at s n i) (nets_left s n (i + 1)), ← add-one i)

    module _ (this : kind_at s i ≡ k) where
      takes : Filled (list 0 (nets_of s)) buffer j (byte i (net_at s n i) ∷ list (i + 1) (nets_left s n (i + 1)))
      takes = rw (this_net, eq-eqb (kind_at s i) k this) at p.bytes

      pub pass_room : j < length buffer
      pass_room = omega (arith, takes.room)

      pub pass_takes : Pass selection s n lent (set buffer j (byte i (net_at s n i))) (j + 1) (i + 1)
      pass_takes = record { count_is = p.count_is; exact = p.exact; upto = omega arith; bytes = fill_goes_on takes; size = rw length-set p.size }

    pub pass_skips : (kind_at s i ≡ k → ⊥) → Pass selection s n lent buffer j (i + 1)
    pass_skips other = record { count_is = p.count_is; exact = p.exact; upto = omega arith; bytes = rw (this_net, ne_eqb (kind_at s i) k other) at p.bytes; size = p.size }

  -- with no net left
  pub pass_ends : n ≤ i → buffer ≡ list 0 (nets_of s)
  pass_ends h = fill_ends (rw (nets_done s n i (omega arith), selection.none i) at p.bytes)

  -- all bytes then stand in it
  pub pass_all : n ≤ i → j ≡ length buffer
  pass_all h = let r = rw (nets_done s n i (omega arith), selection.none i) at p.bytes.room in omega arith

  -- while a byte is missing, a net is left
  pub pass_below : j < length buffer → i < n
  pass_below h =
      ⊎_elim (λ l. l) (λ l. let r = rw (nets_done s n i (omega arith), selection.none i) at p.bytes.room in absurd (omega arith)) (there_or_not i n)

  -- with no byte missing
  pub pass_full : length buffer ≤ j → buffer ≡ list 0 (nets_of s)
  pass_full h = fill_ends (rw (none_left (list i (nets_left s n i)) (omega (arith, p.bytes.room))) at p.bytes)
    where
      none_left : (l : List ℕ) → length l ≡ 0 → l ≡ []
      none_left [] h = refl
      none_left (x ∷ xs) h = absurd (omega arith)
