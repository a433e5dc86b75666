-- Lists of the nets of a kind: which nets they name, bytes put to them and taken from them, and the cycle whose bytes come of it.
use Prim.Native.Nat.{ℕ, zero, suc, ◌+◌, ◌≤◌, ◌<◌}
use native.Mathlib.Nat.{zero-add}
use native.Mathlib.Numerals.{add-one}
use native.Mathlib.Omega.{arith}
use mathlib.Core.Logic.{⊎_elim}
use mathlib.Core.Path.{◌≡◌, refl, sym, ap, ◌∙◌}
use mathlib.Core.List.{List, [], ◌∷◌, ◌++◌, map, append-nil}
use mathlib.Core.Bool.{Bool, true, false, ◌&&◌, cond}
use lib.Dec.{eqb, lit≤}
use Rattle.std.specs.Int.{from_bool}
use Rattle.std.proofs.lemmas.List.{get_or-map, ext_get_or}
use lib.ListN.{length, get_or, take, drop, set, length-set, length-map, drop_of_length-le}
use lib.Seq.{drop-cons, take-suc, take-suc-set, take-set-le}
use borrow.Author.Tests.{eqb-true, eqb-false}
use Rattle.gates.specs.Kinds.{REG, NOT, OUT}
use Rattle.gates.specs.Rules.{mark}
use Rattle.image.specs.declared.image.Net.{Net}
use Rattle.image.specs.Image.{sizes_of, net, kind_at, operand_at, net_at, nets_from, nets_of, count}
use Rattle.image.specs.Places.{places_from}
use Rattle.image.proofs.Nets.{net_in, length_nets}
use Rattle.unknowns.specs.Widths.{rule_by, Coded}
use Rattle.cycle.specs.Cycle.{Rule, pin_byte, Verdict, clear, flow, outputs_from, verdict_from, clocked}
use Rattle.cycle.proofs.Selections.{Selection, outputs_selected, registers_selected, selection_length, place_below, selection_place}
use Rattle.cycle.proofs.Filling.{Pass, pass_takes, pass_skips}
use Rattle.cycle.proofs.Deciding.{below_or_here}
use Rattle.inverses.specs.Inverses.{put_both}
use Rattle.inverses.proofs.Places.{put_size, put_here, put_other, put_keeps}
use Rattle.lists.specs.Lists.{protected_of, Within, Places, Put, first_marked}

-- THE LIST of the nets of kind k
pub places_selected : (k : ℕ) → Selection k (places_from k) (λ i x. i)
unfolding places_from
places_selected k = record { none = λ i. refl; next = λ i x xs. refl }

-- number j of the list of the nets xs, the first of which is net i
pub record Listed (k i : ℕ) (xs : List Net) (j p : ℕ) : Type 0 where
  pub net : ℕ
  pub number : p ≡ i + net
  pub there : net < length xs
  pub kind : (d : Net) → (get_or xs net d).kind ≡ k
  pub place : count k (take net xs) ≡ j

later : {k i : ℕ} {xs : List Net} {j p : ℕ} (x : Net) (c : ℕ) → cond (eqb x.kind k) 1 0 ≡ c → Listed k (suc i) xs j p → Listed k i (x ∷ xs) (c + j) p
unfolding count
later x c e l = record { net = suc l.net; number = omega (arith, l.number); there = omega (arith, l.there); kind = λ d. l.kind d; place = rw (e, l.place) }

pub listed : (k i : ℕ) (xs : List Net) (j : ℕ) → j < length (places_from k i xs) → Listed k i xs j (get_or (places_from k i xs) j 0)
unfolding places_from count
listed k i [] j h = absurd (omega arith)
listed k i (x ∷ xs) j h = told (eqb x.kind k) refl j h (listed k (suc i) xs)
  where
    told : (b : Bool) → eqb x.kind k ≡ b → (j : ℕ) → j < length (cond b (i ∷ places_from k (suc i) xs) (places_from k (suc i) xs))
        → ((j : ℕ) → j < length (places_from k (suc i) xs) → Listed k (suc i) xs j (get_or (places_from k (suc i) xs) j 0))
        → Listed k i (x ∷ xs) j (get_or (cond b (i ∷ places_from k (suc i) xs) (places_from k (suc i) xs)) j 0)
    told true e zero h more = record { net = 0; number = omega arith; there = omega arith; kind = λ d. eqb-true x.kind k e; place = refl }
    told true e (suc j) h more = let o : 1 + j ≡ suc j = omega arith in rw o at (later x 1 (rw e) (more j (omega arith)))
    told false e j h more = rw (zero-add j) at (later x 0 (rw e) (more j h))

pub places_differ : (k : ℕ) (xs : List Net) → Places (length xs) (places_from k 0 xs)
places_differ k xs =
    record {
      within = record { below = λ j h. let l = listed k 0 xs j h in omega (arith, l.number, l.there) };
      different = λ j m h g e.
          let l = listed k 0 xs j h in
          let r = listed k 0 xs m g in
          let same : l.net ≡ r.net = omega (arith, l.number, r.number, e) in
          sym l.place ∙ ap (λ p. count k (take p xs)) same ∙ r.place;
    }

within_fit : {m n : ℕ} {list : List ℕ} → n ≤ m → Within n list → Within m list
within_fit e w = record { below = λ j h. let l = w.below j h in omega arith }

pub places_fit : {m n : ℕ} {list : List ℕ} → n ≤ m → Places n list → Places m list
places_fit e p = record { within = within_fit e p.within; different = p.different }

-- net i is listed at its place
pub place_listed : (k : ℕ) (xs : List Net) (i : ℕ) (d : Net) → i < length xs → (get_or xs i d).kind ≡ k
    → (count k (take i xs) < length (places_from k 0 xs)) × (get_or (places_from k 0 xs) (count k (take i xs)) 0 ≡ i)
place_listed k xs i d h e = (
  rw (selection_length (places_selected k) 0 xs) (place_below k xs i d h e),
  selection_place (places_selected k) xs i d h e,
)

-- and no net of another kind is
pub not_listed : (k : ℕ) (xs : List Net) (i : ℕ) (d : Net) → ((get_or xs i d).kind ≡ k → ⊥)
    → (j : ℕ) → j < length (places_from k 0 xs) → get_or (places_from k 0 xs) j 0 ≡ i → ⊥
not_listed k xs i d other j h e =
    let l = listed k 0 xs j h in
    let same : i ≡ l.net = omega (arith, l.number, e) in
    other (ap (λ p. (get_or xs p d).kind) same ∙ l.kind d)

-- in an image
module _ (s : List ℕ) {n : ℕ} (e : n ≡ (sizes_of s).nets) (k : ℕ) where
  pub all_nets : nets_of s ≡ nets_from s n 0 n
  unfolding nets_of
  all_nets = ap (λ m. nets_from s m 0 m) (sym e)

  pub places_in : Places n (places_from k 0 (nets_of s))
  places_in = let l : length (nets_of s) ≡ n = length_nets s ∙ sym e in rw l at (places_differ k (nets_of s))

  pub kind_listed : (j : ℕ) → j < length (places_from k 0 (nets_of s)) → kind_at s (get_or (places_from k 0 (nets_of s)) j 0) ≡ k
  unfolding net_at
  kind_listed j h =
      let l = listed k 0 (nets_of s) j h in
      let i = get_or (places_from k 0 (nets_of s)) j 0 in
      let d = net 0 0 0 0 in
      let same : i ≡ l.net = omega (arith, l.number) in
      sym (ap (λ (x : Net). x.kind) (net_in s n i d e (places_in.within.below j h))) ∙ ap (λ p. (get_or (nets_of s) p d).kind) same ∙ l.kind d

  -- of any list that is this one
  module _ {list : List ℕ} (o : list ≡ places_from k 0 (nets_of s)) where
    pub listed_places : Places n list
    listed_places = rw o places_in

    pub listed_kind : (j : ℕ) → j < length list → kind_at s (get_or list j 0) ≡ k
    listed_kind j h = rw o (kind_listed j (rw o at h))

-- BYTES PUT to the listed nets
pub put_begins : {w : ℕ} {list bytes nets : List ℕ} → Put w list bytes nets nets 0
put_begins = record { size = refl; taken = λ k h. absurd (omega arith); others = λ i m h. refl; both = λ n m b. b }

pub put_goes_on : {w : ℕ} {list bytes before after : List ℕ} {j : ℕ} → Places 8192 list → length before ≡ 40960 → Coded w bytes → j < length list → Put w list bytes before after j
    → Put w list bytes before (put_both w after (get_or list j 0) (get_or bytes j 0)) (suc j)
put_goes_on {w} {list} {bytes} {before} {after} {j} places e coded h p =
    let i = get_or list j 0 in
    let b = get_or bytes j 0 in
    let y = rule_by w NOT b 0 0 in
    let small : i < 32768 = omega (arith, places.within.below j h) in
    let there : 32768 + i < length after = omega (arith, places.within.below j h, p.size) in
    record {
      size = put_size after i b y ∙ p.size;
      taken = λ k l.
          ⊎_elim
          (λ o. rw o (put_here after i b y small there))
          (λ m.
          let other = places.within.below k (omega arith) in
          put_other after i b y (omega arith) (λ o. let x = places.different k j (omega arith) h o in omega arith) ∙ p.taken k m)
          (below_or_here j k l);
      others = λ x m no. put_other after i b y m (λ o. no j (omega arith) (sym o)) ∙ p.others x m (λ k l. no k (omega arith));
      both = λ n m q. put_keeps w after i b small there (coded.codes j) m (p.both n m q);
    }

-- BYTES TAKEN from the listed nets, each by a function of its net, in order
pub gathered_by : (f : ℕ → ℕ) (list buffer : List ℕ) → length buffer ≡ length list → ((k : ℕ) → k < length list → get_or buffer k 0 ≡ f (get_or list k 0))
    → buffer ≡ map f list
gathered_by f list buffer h taken =
    ext_get_or 0 buffer (map f list) (h ∙ sym (length-map list f)) (λ k l. taken k (omega arith) ∙ sym (get_or-map f list k 0 0 (omega arith)))

-- which is a selection
module _ (f : ℕ → ℕ) where
  mapped : (c : Bool) (i : ℕ) (is ys : List ℕ) → map f is ≡ ys → map f (cond c (i ∷ is) is) ≡ cond c (f i ∷ ys) ys
  mapped true i is ys e = ap (λ l. f i ∷ l) e
  mapped false i is ys e = e

  pub gathered_selection : {k : ℕ} {list : ℕ → List Net → List ℕ} {byte : ℕ → Net → ℕ} → Selection k list byte → (s : List ℕ) (n : ℕ)
      → ((i : ℕ) → byte i (net_at s n i) ≡ f i) → (i m : ℕ) → map f (places_from k i (nets_from s n i m)) ≡ list i (nets_from s n i m)
  unfolding nets_from places_from
  gathered_selection selection s n h i zero = rw (selection.none i)
  gathered_selection {k} selection s n h i (suc m) =
      rw (selection.next i (net_at s n i) (nets_from s n (suc i) m), h i)
      (mapped (eqb (net_at s n i).kind k) i _ _ (gathered_selection selection s n h (suc i) m))

-- THE VERDICT, by the listed OUTs that are protected
one_out : (s : List ℕ) (i : ℕ) (nets : List ℕ) (c : Bool) (is : List ℕ) (v : Verdict) → first_marked (protected_of s is) nets ≡ v
    → first_marked (protected_of s (cond c (i ∷ is) is)) nets ≡ cond (c && eqb (operand_at s (sizes_of s).nets i 1) 1 && mark (get_or nets i 0)) (flow i) v
unfolding first_marked protected_of
one_out s i nets true is v e = told (eqb (operand_at s (sizes_of s).nets i 1) 1)
  where
    told : (b : Bool) → first_marked (cond b (i ∷ protected_of s is) (protected_of s is)) nets ≡ cond (b && mark (get_or nets i 0)) (flow i) v
    told true = rw e
    told false = e
one_out s i nets false is v e = e

protected_verdict_from : (s nets : List ℕ) (i m : ℕ)
    → first_marked (protected_of s (places_from OUT i (nets_from s (sizes_of s).nets i m))) nets ≡ verdict_from mark i (nets_from s (sizes_of s).nets i m) nets
unfolding nets_from places_from verdict_from first_marked protected_of net_at
protected_verdict_from s nets i zero = refl
protected_verdict_from s nets i (suc m) = one_out s i nets (eqb (net_at s (sizes_of s).nets i).kind OUT) _ _ (protected_verdict_from s nets (suc i) m)

pub protected_verdict : (s nets : List ℕ) → first_marked (protected_of s (places_from OUT 0 (nets_of s))) nets ≡ verdict_from mark 0 (nets_of s) nets
protected_verdict s nets = rw (all_nets s refl 0) (protected_verdict_from s nets 0 (sizes_of s).nets)

-- they are listed one by one
pub protected_append : (s xs ys : List ℕ) → protected_of s (xs ++ ys) ≡ protected_of s xs ++ protected_of s ys
unfolding protected_of
protected_append s [] ys = refl
protected_append s (x ∷ xs) ys = told _ _ _ (eqb (operand_at s (sizes_of s).nets x 1) 1) (protected_append s xs ys)
  where
    told : (l m r : List ℕ) (b : Bool) → l ≡ m ++ r → cond b (x ∷ l) l ≡ cond b (x ∷ m) m ++ r
    told l m r true e = ap (λ l. x ∷ l) e
    told l m r false e = e

pub protected_next : (s outs list : List ℕ) {found j : ℕ} → j < length outs → found < length list → take found list ≡ protected_of s (take j outs)
    → let i = get_or outs j 0 in
    take (found + cond (eqb (operand_at s (sizes_of s).nets i 1) 1) 1 0) (set list found i) ≡ protected_of s (take (j + 1) outs)
unfolding protected_of
protected_next s outs list {found} {j} h g e =
    let i = get_or outs j 0 in
    rw (add-one j, take-suc outs j 0 h, protected_append s (take j outs) (i ∷ []), ← e) (told i (eqb (operand_at s (sizes_of s).nets i 1) 1))
  where
    told : (i : ℕ) (b : Bool) → take (found + cond b 1 0) (set list found i) ≡ take found list ++ cond b (i ∷ []) []
    told i true = rw (add-one found) (take-suc-set list found i g)
    told i false = let z : found + 0 ≡ found = omega arith in rw (z, append-nil) (take-set-le found list found i (omega arith))

all_within : (s : List ℕ) {n : ℕ} (list : List ℕ) → ((j : ℕ) → j < length list → get_or list j 0 < n) → (j : ℕ) → j < length (protected_of s list) → get_or (protected_of s list) j 0 < n
unfolding protected_of
all_within s [] w j h = absurd (omega arith)
all_within s {n} (i ∷ is) w j h = told _ (eqb (operand_at s (sizes_of s).nets i 1) 1) (all_within s is (λ k l. w (suc k) (omega arith))) j h
  where
    told : (l : List ℕ) (b : Bool) → ((j : ℕ) → j < length l → get_or l j 0 < n) → (j : ℕ) → j < length (cond b (i ∷ l) l) → get_or (cond b (i ∷ l) l) j 0 < n
    told l true more zero h = w 0 (omega arith)
    told l true more (suc j) h = more j (omega arith)
    told l false more j h = more j h

pub protected_within : (s : List ℕ) {n : ℕ} {list : List ℕ} → Within n list → Within n (protected_of s list)
protected_within s {list = list} w = record { below = all_within s list w.below }

-- ALL NETS of an image: what the lists of its REGs and of its OUTs give
module _ (s : List ℕ) {n : ℕ} (e : n ≡ (sizes_of s).nets) (nets : List ℕ) where
  pub clocked_listed : (rule : Rule) → map (λ i. pin_byte rule nets (operand_at s n i 0)) (places_from REG 0 (nets_of s)) ≡ clocked rule (nets_of s) nets
  unfolding clocked net_at
  clocked_listed rule = rw (all_nets s e 0) (gathered_selection (λ i. pin_byte rule nets (operand_at s n i 0)) (registers_selected (λ x. pin_byte rule nets x.a)) s n (λ i. refl) 0 n)

  pub outputs_listed : map (λ i. get_or nets i 0) (places_from OUT 0 (nets_of s)) ≡ outputs_from 0 (nets_of s) nets
  outputs_listed = rw (all_nets s e 0) (gathered_selection (λ i. get_or nets i 0) (outputs_selected nets) s n (λ i. refl) 0 n)

pub marked_next : (list nets : List ℕ) (j : ℕ) → j < length list
    → first_marked (drop j list) nets ≡ cond (mark (get_or nets (get_or list j 0) 0)) (flow (get_or list j 0)) (first_marked (drop (j + 1) list) nets)
unfolding first_marked
marked_next list nets j h =
    let e : drop j list ≡ get_or list j 0 ∷ drop (j + 1) list = drop-cons list j 0 h ∙ ap (λ m. get_or list j 0 ∷ drop m list) (sym (add-one j)) in
    ap (λ l. first_marked l nets) e

pub marked_done : (list nets : List ℕ) (j : ℕ) → length list ≤ j → first_marked (drop j list) nets ≡ clear
unfolding first_marked
marked_done list nets j h = ap (λ l. first_marked l nets) (drop_of_length-le list h)

-- a flag as a number, which counts what is listed
pub one_if : (b : Bool) → (from_bool b ≡ cond {A = ℕ} b 1 0) × (from_bool b ≤ 1)
one_if true = (refl, lit≤ tt)
one_if false = (refl, lit≤ tt)

-- A LIST BEING MADE: a number may be written at the next place before it is known whether it belongs there
module _ {k : ℕ} {s : List ℕ} {n : ℕ} {lent buffer : List ℕ} {j i : ℕ} (p : Pass (places_selected k) s n lent buffer j i) where
  scribbled : (y : ℕ) → Pass (places_selected k) s n lent (set buffer j y) j i
  scribbled y =
      record {
        count_is = p.count_is;
        exact = p.exact;
        upto = p.upto;
        bytes = record { whole_is = rw (take-set-le j buffer j y (omega arith)) p.bytes.whole_is; room = rw length-set p.bytes.room };
        size = rw length-set p.size;
      }

  pub list_goes_on : i < n → Pass (places_selected k) s n lent (set buffer j i) (j + cond (eqb (kind_at s i) k) 1 0) (i + 1)
  list_goes_on below = told (eqb (kind_at s i) k) refl
    where
      told : (b : Bool) → eqb (kind_at s i) k ≡ b → Pass (places_selected k) s n lent (set buffer j i) (j + cond b 1 0) (i + 1)
      told true o = pass_takes p below (eqb-true _ _ o)
      told false o = let z : j + 0 ≡ j = omega arith in rw z (pass_skips (scribbled i) below (eqb-false _ _ o))
