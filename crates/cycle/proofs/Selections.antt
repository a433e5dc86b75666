-- A list with a byte for each net of one kind, in net order from some net on: its length, its parts, the place of each net, and two such lists related place by place.
use Prim.Native.Nat.{ℕ, zero, suc, ◌+◌, ◌<◌}
use native.Mathlib.Nat.{add-zero, zero-add}
use native.Mathlib.Omega.{arith}
use mathlib.Core.Path.{◌≡◌, refl, ap, subst, ◌∙◌}
use mathlib.Core.List.{List, [], ◌∷◌, ◌++◌, Forall₂}
use mathlib.Core.Bool.{Bool, true, false, cond}
use lib.Dec.{eqb}
use lib.ListN.{length, get_or, take, drop, length-take}
use lib.Seq.{split_at, get_or_at}
use borrow.Author.Tests.{eq-eqb, eqb-true}
use Rattle.gates.specs.Kinds.{REG, OUT}
use Rattle.gates.proofs.Laws.{cond_related}
use Rattle.image.specs.declared.image.Net.{Net}
use Rattle.image.specs.Image.{count}
use Rattle.cycle.specs.Cycle.{outputs_from, registers}

pub record Selection (k : ℕ) (list : ℕ → List Net → List ℕ) (byte : ℕ → Net → ℕ) : Type 0 where
  pub none : (i : ℕ) → list i [] ≡ []
  pub next : (i : ℕ) (x : Net) (xs : List Net) → list i (x ∷ xs) ≡ cond (eqb x.kind k) (byte i x ∷ list (suc i) xs) (list (suc i) xs)

pub outputs_selected : (bs : List ℕ) → Selection OUT (λ i xs. outputs_from i xs bs) (λ i x. get_or bs i 0)
unfolding outputs_from
outputs_selected bs = record { none = λ i. refl; next = λ i x xs. refl }

pub registers_selected : (f : Net → ℕ) → Selection REG (λ i xs. registers f xs) (λ i x. f x)
unfolding registers
registers_selected f = record { none = λ i. refl; next = λ i x xs. refl }

-- as long as there are nets of the kind
one_more : (c : Bool) (y : ℕ) (ys : List ℕ) {n : ℕ} → length ys ≡ n → length (cond c (y ∷ ys) ys) ≡ cond c 1 0 + n
one_more true y ys h = omega (arith, h)
one_more false y ys h = omega (arith, h)

pub selection_length : {k : ℕ} {list : ℕ → List Net → List ℕ} {byte : ℕ → Net → ℕ} → Selection k list byte
    → (i : ℕ) (xs : List Net) → length (list i xs) ≡ count k xs
unfolding count
selection_length s i [] = rw (s.none i)
selection_length {k} s i (x ∷ xs) = rw (s.next i x xs) (one_more (eqb x.kind k) _ _ (selection_length s (suc i) xs))

-- part by part
cond_append : (c : Bool) (xs ys zs : List ℕ) → cond c (xs ++ zs) (ys ++ zs) ≡ cond c xs ys ++ zs
cond_append true xs ys zs = refl
cond_append false xs ys zs = refl

pub selection_append : {k : ℕ} {list : ℕ → List Net → List ℕ} {byte : ℕ → Net → ℕ} → Selection k list byte
    → (i : ℕ) (xs ys : List Net) → list i (xs ++ ys) ≡ list i xs ++ list (i + length xs) ys
selection_append s i [] ys = rw (s.none i, add-zero)
selection_append {k} {list} {byte} s i (x ∷ xs) ys =
    let e : i + suc (length xs) ≡ suc i + length xs = omega arith in
    rw (s.next i x (xs ++ ys), s.next i x xs, selection_append s (suc i) xs ys, e)
    (cond_append (eqb x.kind k) (byte i x ∷ list (suc i) xs) (list (suc i) xs) _)

-- the place of net j: as many nets of the kind stand before it
pub place_below : (k : ℕ) (xs : List Net) (j : ℕ) (d : Net) → j < length xs → (get_or xs j d).kind ≡ k → count k (take j xs) < count k xs
unfolding count
place_below k [] j d h e = absurd (omega arith)
place_below k (x ∷ xs) zero d h e = rw (eq-eqb x.kind k e) (omega arith)
place_below k (x ∷ xs) (suc j) d h e = let t = place_below k xs j d (omega arith) e in omega arith

-- and at every place among the nets of a kind stands one
pub record AtPlace (k : ℕ) (xs : List Net) (d : Net) (p : ℕ) : Type 0 where
  pub net : ℕ
  pub below : net < length xs
  pub kind : (get_or xs net d).kind ≡ k
  pub place : count k (take net xs) ≡ p

found_later : {k : ℕ} {xs : List Net} {d : Net} {p : ℕ} (x : Net) (n : ℕ) → cond (eqb x.kind k) 1 0 ≡ n → AtPlace k xs d p → AtPlace k (x ∷ xs) d (n + p)
unfolding count
found_later x n e h = record { net = suc h.net; below = omega (arith, h.below); kind = h.kind; place = omega (arith, h.place) }

found_first : (k : ℕ) (x : Net) (xs : List Net) (d : Net) (p : ℕ) → p < count k (x ∷ xs) → ((q : ℕ) → q < count k xs → AtPlace k xs d q)
    → (c : Bool) → eqb x.kind k ≡ c → AtPlace k (x ∷ xs) d p
unfolding count
found_first k x xs d zero h rest true e = record { net = 0; below = omega arith; kind = eqb-true _ _ e; place = refl }
found_first k x xs d (suc p) h rest true e =
    let l = rw e at h in
    subst (AtPlace k (x ∷ xs) d) (let q : 1 + p ≡ suc p = omega arith in q) (found_later x 1 (rw e) (rest p (omega arith)))
found_first k x xs d p h rest false e =
    let l = rw e at h in
    subst (AtPlace k (x ∷ xs) d) (zero-add p) (found_later x 0 (rw e) (rest p (omega arith)))

pub place_found : (k : ℕ) (xs : List Net) (d : Net) (p : ℕ) → p < count k xs → AtPlace k xs d p
unfolding count
place_found k [] d p h = absurd (omega arith)
place_found k (x ∷ xs) d p h = found_first k x xs d p h (place_found k xs d) (eqb x.kind k) refl

pub selection_place : {k : ℕ} {list : ℕ → List Net → List ℕ} {byte : ℕ → Net → ℕ} → Selection k list byte
    → (xs : List Net) (j : ℕ) (d : Net) → j < length xs → (get_or xs j d).kind ≡ k
    → get_or (list 0 xs) (count k (take j xs)) 0 ≡ byte j (get_or xs j d)
selection_place {k} {list} {byte} s xs j d h e =
    let x = get_or xs j d in
    let rest = drop (suc j) xs in
    let l : 0 + length (take j xs) ≡ j = omega (arith, length-take j xs) in
    ap (λ l. get_or (list 0 l) (count k (take j xs)) 0) (split_at xs j d h)
    ∙ rw (selection_append s 0 (take j xs) (x ∷ rest), l, s.next j x rest, eq-eqb x.kind k e)
    (get_or_at (list 0 (take j xs)) (byte j x) (list (suc j) rest) 0 _ (selection_length s 0 (take j xs)))

-- of related bytes
pub selections_related : (R : ℕ → ℕ → Type 0) {k : ℕ} {l l' : ℕ → List Net → List ℕ} {b b' : ℕ → Net → ℕ}
    → Selection k l b → Selection k l' b' → ((i : ℕ) (x : Net) → R (b i x) (b' i x))
    → (i : ℕ) (xs : List Net) → Forall₂ R (l i xs) (l' i xs)
selections_related R s s' h i [] = rw (s.none i, s'.none i) Forall₂.nil
selections_related R {k} s s' h i (x ∷ xs) =
    let t = selections_related R s s' h (suc i) xs in
    rw (s.next i x xs, s'.next i x xs) (cond_related (Forall₂ R) (eqb x.kind k) (Forall₂.cons (h i x) t) t)
