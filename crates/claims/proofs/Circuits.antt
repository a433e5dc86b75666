-- Nets and the ways between them, apart from images and rows: a net that no marked source reaches along two ways takes every byte that agrees with its own, for some bytes of the sources
-- that agree with those given. A source is an INPUT or a REG.
use Prim.Native.Nat.{ℕ, zero, suc, ◌/◌, ◌≤◌, ◌<◌}
use native.Mathlib.Omega.{arith}
use mathlib.Core.Path.{◌≡◌, refl, sym, ap, ap₂, ◌∙◌}
use mathlib.Core.List.{List, [], ◌∷◌, map, Forall₂}
use mathlib.Core.Bool.{Bool, true, false, ◌||◌, cond}
use lib.Dec.{eqb}
use lib.ListN.{length, length-map}
use borrow.Author.Tests.{eqb-true, eqb-false, eq-eqb, ne_eqb}
use Rattle.gates.specs.Kinds.{INPUT, REG}
use Rattle.gates.specs.Rules.{gate_byte}
use Rattle.gates.specs.Relations.{AgreeByte, same, Agree}
use Rattle.gates.proofs.Laws.{Code}
use Rattle.gates.proofs.Meaning.{either}
use Rattle.gates.proofs.Onto.{agree_marked, Onto}
use Rattle.image.specs.declared.image.Net.{Net}
use Rattle.image.specs.Pins.{pin_net}
use Rattle.claims.specs.Ways.{pins_of, sum}
use Rattle.claims.proofs.PinsOnto.{by_test, cond_keeps, pin_reads, pin_code, pin_onto, of_pins, listed}

-- an unmarked byte agrees with itself alone
unmarked : {x y : ℕ} → AgreeByte x y → (x / 2 ≡ 1 → ⊥) → x ≡ y
unmarked g n = either _ _ (λ e. e) (λ d. absurd (n (agree_marked g d)))

-- NETS. The bytes of all nets, by the bytes f of the sources
abbrev pub Bytes : Type 0
Bytes = (f : ℕ → ℕ) → (i : ℕ) → ℕ

abbrev pub is_source : Net → Bool
is_source x = eqb x.kind INPUT || eqb x.kind REG

abbrev pub reads : Bytes → (f : ℕ → ℕ) → (ps : List ℕ) → List ℕ
reads B f ps = map (λ p. pin_reads p (B f (pin_net p))) ps

-- net i is a constant, a source, or a gate
pub data Node (B : Bytes) (i : ℕ) (x : Net) : Type 0 where
  fixed : (v : ℕ) → v ≤ 1 → ((f : ℕ → ℕ) → B f i ≡ v) → Node B i x
  source : is_source x ≡ true → ((f : ℕ → ℕ) → B f i ≡ f i) → Node B i x
  gate : is_source x ≡ false → Onto (gate_byte x.kind) → 1 ≤ length (pins_of x) → length (pins_of x) ≤ 3 → ((f : ℕ → ℕ) → B f i ≡ of_pins x.kind (reads B f (pins_of x))) → Node B i x

-- pins that name nets below net i
pub data Below (i : ℕ) : List ℕ → Type 0 where
  nil : Below i []
  cons : {p : ℕ} {ps : List ℕ} → pin_net p < i → Below i ps → Below i (p ∷ ps)

-- the ways from net j to the nets that pins name, where W j i are those from net j to net i
abbrev pub ways_in : (W : ℕ → ℕ → ℕ) (ps : List ℕ) (j : ℕ) → ℕ
ways_in W ps j = sum (map (λ p. W j (pin_net p)) ps)

pub record Circuit (n : ℕ) (net : ℕ → Net) (W : ℕ → ℕ → ℕ) (B : Bytes) : Type 0 where
  pub below : (i : ℕ) → i < n → Below i (pins_of (net i))
  pub node : (i : ℕ) → i < n → Node B i (net i)
  pub ways : (j i : ℕ) → i < n → W j i ≡ cond (eqb i j) 1 (ways_in W (pins_of (net i)) j)

module _ {n : ℕ} {net : ℕ → Net} {W : ℕ → ℕ → ℕ} {B : Bytes} (c : Circuit n net W B) where
  itself : (i : ℕ) → i < n → W i i ≡ 1
  itself i h = rw (eq-eqb i i refl) at (c.ways i i h)

  -- from a source to a gate all ways lead through its pins
  through : {i j : ℕ} → i < n → is_source (net i) ≡ false → is_source (net j) ≡ true → W j i ≡ ways_in W (pins_of (net i)) j
  through {i} {j} h k t =
      let e : eqb i j ≡ false = ne_eqb i j (λ e. let z : ◌≡◌ {A = ℕ} 0 1 = cc in omega arith) in
      rw e at (c.ways j i h)

  no_way : {i j : ℕ} → i < n → W j i ≡ 0 → ways_in W (pins_of (net i)) j ≡ 0
  no_way {i} {j} h z =
      by_test (eqb i j) (λ e. absurd (omega (arith, rw e at (c.ways j i h)))) (λ e. omega (arith, rw e at (c.ways j i h)))

  -- LOCALITY: the byte of a net depends on no source but those that reach it
  abbrev Same : (f g : ℕ → ℕ) (count : ℕ → ℕ) → Type 0
  Same f g count = (j : ℕ) → is_source (net j) ≡ true → 0 < count j → f j ≡ g j

  local_pins :
      {i : ℕ} {f g : ℕ → ℕ} {ps : List ℕ} → ((p : ℕ) → p < i → Same f g (λ j. W j p) → B f p ≡ B g p)
      → Below i ps → Same f g (ways_in W ps) → reads B f ps ≡ reads B g ps
  local_pins ih nil e = refl
  local_pins ih (cons {p} l b) e =
      ap₂ ◌∷◌ (ap (pin_reads p) (ih (pin_net p) l (λ j t h. e j t (omega arith)))) (local_pins ih b (λ j t h. e j t (omega arith)))

  local_node : {i : ℕ} {f g : ℕ → ℕ} → i < n → ((p : ℕ) → p < i → Same f g (λ j. W j p) → B f p ≡ B g p)
      → Node B i (net i) → Same f g (λ j. W j i) → B f i ≡ B g i
  local_node h ih (fixed v l q) e = q _ ∙ sym (q _)
  local_node {i} h ih (source t q) e = q _ ∙ e i t (omega (arith, itself i h)) ∙ sym (q _)
  local_node {i} h ih (gate k o w z q) e =
      q _ ∙ ap (of_pins (net i).kind) (local_pins ih (c.below i h) (λ j t r. e j t (omega (arith, through h k t)))) ∙ sym (q _)

  local : (m i : ℕ) → i < m → i < n → (f g : ℕ → ℕ) → Same f g (λ j. W j i) → B f i ≡ B g i
  local zero i l h f g e = absurd (omega arith)
  local (suc m) i l h f g e = local_node h (λ p k. local m p (omega arith) (omega arith) f g) (c.node i h) e

  -- CHOICES of the sources' bytes: they agree with the bytes f₀ given, and change none but those of sources that reach a place
  module _ (f₀ : ℕ → ℕ) (codes : (i : ℕ) → B f₀ i ≤ 3) where
    pub record Choice (count : ℕ → ℕ) (Gives : (ℕ → ℕ) → Type 0) : Type 0 where
      pub f : ℕ → ℕ
      pub agrees : (j : ℕ) → AgreeByte (f₀ j) (f j)
      pub kept : (j : ℕ) → count j ≡ 0 → f j ≡ f₀ j
      pub gives : Gives f

    -- no marked source reaches the place along two ways
    abbrev pub Single : (count : ℕ → ℕ) → Type 0
    Single count = (j : ℕ) → is_source (net j) ≡ true → f₀ j / 2 ≡ 1 → count j ≤ 1

    -- net i takes every byte that agrees with its own
    abbrev pub Reached : (i : ℕ) → Type 0
    Reached i = Single (λ j. W j i) → (y : ℕ) → AgreeByte (B f₀ i) y → Choice (λ j. W j i) (λ f. B f i ≡ y)

    -- and so does what a pin reads
    read : (p : ℕ) {y : ℕ} → Reached (pin_net p) → Single (λ j. W j (pin_net p)) → AgreeByte (pin_reads p (B f₀ (pin_net p))) y
        → Choice (λ j. W j (pin_net p)) (λ f. pin_reads p (B f (pin_net p)) ≡ y)
    read p {y} r single a =
        let z = pin_onto p (B f₀ (pin_net p)) y (codes (pin_net p)) a in
        let u = r single z.byte z.agrees in
        record { f = u.f; agrees = u.agrees; kept = u.kept; gives = ap (pin_reads p) u.gives ∙ z.reads }

    -- the choices for one pin and for others, put together: a source that reaches both is unmarked, and so unchanged
    join : {i : ℕ} (p : ℕ) {ps ys : List ℕ} {y : ℕ} → i ≤ n → pin_net p < i → Below i ps → Single (ways_in W (p ∷ ps))
        → Choice (λ j. W j (pin_net p)) (λ f. pin_reads p (B f (pin_net p)) ≡ y) → Choice (ways_in W ps) (λ f. reads B f ps ≡ ys)
        → Choice (ways_in W (p ∷ ps)) (λ f. reads B f (p ∷ ps) ≡ y ∷ ys)
    join p {ps} h l b single u v =
        let f : ℕ → ℕ = λ j. cond (eqb (W j (pin_net p)) 0) (v.f j) (u.f j) in
        record {
          f = f;
          agrees = λ j. cond_keeps (AgreeByte (f₀ j)) (eqb (W j (pin_net p)) 0) (v.agrees j) (u.agrees j);
          kept = λ j e. let z : W j (pin_net p) ≡ 0 = omega arith in rw z (v.kept j (omega arith));
          gives =
              ap₂ ◌∷◌
              (ap (pin_reads p)
              (local n (pin_net p) (omega arith) (omega arith) f u.f (λ j t r. rw (ne_eqb (W j (pin_net p)) 0 (λ e. omega arith)))) ∙ u.gives)
              (local_pins (λ q k e. local n q (omega arith) (omega arith) f v.f e) b
              (λ j t r. by_test (eqb (W j (pin_net p)) 0) (λ e. rw e) (λ e. rw e (unchanged j t r (eqb-false _ _ e)))) ∙ v.gives);
        }
      where
        unchanged : (j : ℕ) → is_source (net j) ≡ true → 0 < ways_in W ps j → (W j (pin_net p) ≡ 0 → ⊥) → u.f j ≡ v.f j
        unchanged j t r e =
            either (f₀ j / 2) 1
            (λ m. absurd (e (omega (arith, single j t m))))
            (λ m. sym (unmarked (u.agrees j) m) ∙ unmarked (v.agrees j) m)

    reached_pins : {i : ℕ} {ps ys : List ℕ} → i ≤ n → ((p : ℕ) → p < i → Reached p) → Below i ps → Single (ways_in W ps) → Agree (reads B f₀ ps) ys
        → Choice (ways_in W ps) (λ f. reads B f ps ≡ ys)
    reached_pins h ih nil single Forall₂.nil = record { f = f₀; agrees = λ j. same; kept = λ j e. refl; gives = refl }
    reached_pins h ih (cons {p} l b) single (Forall₂.cons a t) =
        join p h l b single (read p (ih (pin_net p) l) (λ j k m. omega (arith, single j k m)) a)
        (reached_pins h ih b (λ j k m. omega (arith, single j k m)) t)

    codes_read : (ps : List ℕ) → Forall₂ Code (reads B f₀ ps) (reads B f₀ ps)
    codes_read [] = Forall₂.nil
    codes_read (p ∷ ps) = Forall₂.cons (pin_code p _ (codes (pin_net p))) (codes_read ps)

    reached_node : {i : ℕ} → i < n → ((p : ℕ) → p < i → Reached p) → Node B i (net i) → Reached i
    reached_node h ih (fixed v l q) single y a =
        record { f = f₀; agrees = λ j. same; kept = λ j z. refl; gives = unmarked a (λ m. omega (arith, q f₀)) }
    reached_node {i} h ih (source t q) single y a =
        let f : ℕ → ℕ = λ j. cond (eqb i j) y (f₀ j) in
        record {
          f = f;
          agrees = λ j. by_test (eqb i j) (λ z. rw (z, ← (eqb-true i j z)) (rw (q f₀) at a)) (λ z. rw z same);
          kept = λ j z. let k : eqb i j ≡ false = ne_eqb i j (λ g. omega (arith, itself i h, rw (← g) at z)) in rw k;
          gives = q f ∙ rw (eq-eqb i i refl);
        }
    reached_node {i} h ih (gate k o w z q) single y a =
        let ps = pins_of (net i) in
        let l = length-map ps (λ p. pin_reads p (B f₀ (pin_net p))) in
        let p = listed o (codes_read ps) (omega (arith, w, l)) (omega (arith, z, l)) y (rw (q f₀) at a) in
        let v = reached_pins (omega arith) ih (c.below i h) (λ j t m. omega (arith, single j t m, through h k t)) p.agrees in
        record {
          f = v.f;
          agrees = v.agrees;
          kept = λ j z. v.kept j (no_way h z);
          gives = q v.f ∙ ap (of_pins (net i).kind) v.gives ∙ p.gives;
        }

    pub reached : (m i : ℕ) → i < m → i < n → Reached i
    reached zero i l h = absurd (omega arith)
    reached (suc m) i l h = reached_node h (λ p k. reached m p (omega arith) (omega arith)) (c.node i h)
