-- A buffer in which the sizes and then all nets are written, one by one, is the image of these nets.
use Prim.Native.Nat.{ℕ, suc, ◌+◌, ◌*◌, ◌≤◌, ◌<◌}
use mathlib.Core.Path.{◌≡◌, refl, ap, ap₂, ◌∙◌, subst}
use mathlib.Core.List.{List, [], ◌∷◌, ◌++◌, map, append_assoc, append-nil}
use native.Mathlib.Omega.{arith}
use native.Mathlib.Nat.{add-zero}
use lib.ListN.{length, get_or, set, drop, length-append, length-map, length-set, drop_of_length-le}
use lib.Seq.{sets, length-sets, drop-cons, get_or-set_same, get_or-set_other}
use Rattle.image.specs.declared.image.Sizes.{Sizes}
use Rattle.image.specs.declared.image.Net.{Net}
use Rattle.image.specs.Image.{size_bytes, operands, encode}
use Rattle.image.specs.Writing.{put_net, put_nets}
use Rattle.image.proofs.Encoding.{encode_length, operands_length}

-- BYTES FROM A PLACE ON. They change no byte before them
sets_before : (d : List ℕ) (p : ℕ) (ys : List ℕ) (q : ℕ) → q < p → get_or (sets d p ys) q 0 ≡ get_or d q 0
sets_before d p [] q h = refl
sets_before d p (y ∷ ys) q h = sets_before (set d p y) (suc p) ys q (omega arith) ∙ get_or-set_other d p q y 0 (λ e. omega arith)

-- the bytes ys stand in d from place p on
data Stands (d : List ℕ) : ℕ → List ℕ → Type 0 where
  nil : {p : ℕ} → Stands d p []
  cons : {p y : ℕ} {ys : List ℕ} → get_or d p 0 ≡ y → Stands d (suc p) ys → Stands d p (y ∷ ys)

sets_stand : (d : List ℕ) (p : ℕ) (ys : List ℕ) → p + length ys ≤ length d → Stands (sets d p ys) p ys
sets_stand d p [] h = nil
sets_stand d p (y ∷ ys) h =
    cons
    (sets_before (set d p y) (suc p) ys p (omega arith) ∙ get_or-set_same d p y 0 (omega arith))
    (sets_stand (set d p y) (suc p) ys (rw length-set (omega arith)))

stand_still : {d e : List ℕ} {p : ℕ} {ys : List ℕ} → ((q : ℕ) → p ≤ q → q < p + length ys → get_or e q 0 ≡ get_or d q 0) → Stands d p ys → Stands e p ys
stand_still h nil = nil
stand_still h (cons {p} y ys) = cons (h p (omega arith) (omega arith) ∙ y) (stand_still (λ q k l. h q (omega arith) (omega arith)) ys)

stand_append : {d : List ℕ} {p : ℕ} {xs ys : List ℕ} → Stands d p xs → Stands d (p + length xs) ys → Stands d p (xs ++ ys)
stand_append nil q = rw add-zero at q
stand_append {d} {p} {ys = ys} (cons {ys = xs} x t) q =
    cons x (stand_append t (subst (λ m. Stands d m ys) (let e : p + suc (length xs) ≡ suc p + length xs = omega arith in e) q))

stand_rest : {d : List ℕ} {p : ℕ} {ys : List ℕ} → Stands d p ys → p + length ys ≡ length d → drop p d ≡ ys
stand_rest {d} {p} nil h = drop_of_length-le d {i = p} (omega arith)
stand_rest {d} {p} (cons {ys = ys} y t) h =
    drop-cons d p 0 (omega arith) ∙ ap₂ (λ (z : ℕ) (l : List ℕ). z ∷ l) y (stand_rest t (omega arith))

-- NETS. Writing changes no length
put_length : (d : List ℕ) (n i : ℕ) (x : Net) → length (put_net d n i x) ≡ length d
unfolding put_net
put_length d n i x = length-sets (set d (8 + i) x.kind) (8 + n + 6 * i) (operands (x ∷ [])) ∙ length-set d (8 + i) x.kind

pub puts_append : (d : List ℕ) (n i : ℕ) (xs ys : List Net) → put_nets d n i (xs ++ ys) ≡ put_nets (put_nets d n i xs) n (i + length xs) ys
unfolding put_nets
puts_append d n i [] ys = rw add-zero
puts_append d n i (x ∷ xs) ys =
    let e : i + suc (length xs) ≡ suc i + length xs = omega arith in
    rw e (puts_append (put_net d n i x) n (suc i) xs ys)

operands_append : (xs ys : List Net) → operands (xs ++ ys) ≡ operands xs ++ operands ys
operands_append [] ys = refl
operands_append (x ∷ xs) ys = rw (operands_append xs ys)

kinds_append : (xs ys : List Net) → map (λ (x : Net). x.kind) (xs ++ ys) ≡ map (λ x. x.kind) xs ++ map (λ x. x.kind) ys
kinds_append [] ys = refl
kinds_append (x ∷ xs) ys = ap (λ l. x.kind ∷ l) (kinds_append xs ys)

-- the image of n nets that is being written: the sizes z and the first nets xs stand in it
record Begun (d : List ℕ) (n : ℕ) (z : Sizes) (xs : List Net) : Type 0 where
  room : length d ≡ 8 + 7 * n
  sizes : Stands d 0 (size_bytes z)
  kinds : Stands d 8 (map (λ x. x.kind) xs)
  rest : Stands d (8 + n) (operands xs)

module _ (d : List ℕ) (n : ℕ) (z : Sizes) (xs : List Net) (b : Begun d n z xs) (h : length xs < n) (x : Net) where
  -- below its operands, only the net's kind changes
  only_kind : (q : ℕ) → q < 8 + n + 6 * length xs → get_or (put_net d n (length xs) x) q 0 ≡ get_or (set d (8 + length xs) x.kind) q 0
  unfolding put_net
  only_kind q l = sets_before (set d (8 + length xs) x.kind) (8 + n + 6 * length xs) (operands (x ∷ [])) q l

  kept : (q : ℕ) → (q ≡ 8 + length xs → ⊥) → q < 8 + n + 6 * length xs → get_or (put_net d n (length xs) x) q 0 ≡ get_or d q 0
  kept q other l = only_kind q l ∙ get_or-set_other d (8 + length xs) q x.kind 0 other

  new_kind : get_or (put_net d n (length xs) x) (8 + length xs) 0 ≡ x.kind
  new_kind = only_kind (8 + length xs) (omega arith) ∙ get_or-set_same d (8 + length xs) x.kind 0 (omega (arith, b.room))

  new_operands : Stands (put_net d n (length xs) x) (8 + n + 6 * length xs) (operands (x ∷ []))
  unfolding put_net
  new_operands =
      sets_stand (set d (8 + length xs) x.kind) (8 + n + 6 * length xs) (operands (x ∷ []))
      (rw length-set (omega (arith, b.room)))

  one_more : Begun (put_net d n (length xs) x) n z (xs ++ (x ∷ []))
  unfolding encode
  one_more =
      let kinds : length (map (λ (x : Net). x.kind) xs) ≡ length xs = length-map xs (λ (x : Net). x.kind) in
      let rest = operands_length xs in
      record {
        room = put_length d n (length xs) x ∙ b.room;
        sizes = stand_still (λ q k l. kept q (λ e. omega arith) (omega arith)) b.sizes;
        kinds =
            rw (kinds_append xs (x ∷ []))
            (stand_append (stand_still (λ q k l. kept q (λ e. omega (arith, kinds)) (omega (arith, kinds))) b.kinds) (rw kinds (cons new_kind nil)));
        rest =
            rw (operands_append xs (x ∷ []))
            (stand_append (stand_still (λ q k l. kept q (λ e. omega arith) (omega (arith, rest))) b.rest) (rw rest new_operands));
      }

goes_on : (d : List ℕ) (n : ℕ) (z : Sizes) (xs ys : List Net) → Begun d n z xs → length xs + length ys ≡ n → Begun (put_nets d n (length xs) ys) n z (xs ++ ys)
unfolding put_nets
goes_on d n z xs [] b h = rw (append-nil xs) b
goes_on d n z xs (y ∷ ys) b h =
    let l : length (xs ++ (y ∷ [])) ≡ suc (length xs) = length-append xs (y ∷ []) ∙ omega arith in
    rw (l, append_assoc) at (goes_on (put_net d n (length xs) y) n z (xs ++ (y ∷ [])) ys (one_more d n z xs b (omega arith) y) (omega (arith, l)))

ends : {d : List ℕ} {n : ℕ} {z : Sizes} {xs : List Net} → Begun d n z xs → n ≡ length xs → d ≡ encode z xs
unfolding encode
ends {d} {n} {z} {xs} b h =
    let kinds = map (λ (x : Net). x.kind) xs in
    let at : 8 + n ≡ 0 + length (size_bytes z ++ kinds) = omega (arith, length-append (size_bytes z) kinds, length-map xs (λ (x : Net). x.kind)) in
    let front : Stands d 0 (size_bytes z ++ kinds) = stand_append b.sizes b.kinds in
    let whole : Stands d 0 ((size_bytes z ++ kinds) ++ operands xs) = stand_append front (subst (λ m. Stands d m (operands xs)) at b.rest) in
    let long : length ((size_bytes z ++ kinds) ++ operands xs) ≡ 8 + 7 * length xs = encode_length z xs in
    stand_rest whole (omega (arith, long, b.room))

-- all of it
pub written : (d : List ℕ) (z : Sizes) (xs : List Net) → length d ≡ 8 + 7 * length xs → put_nets (sets d 0 (size_bytes z)) (length xs) 0 xs ≡ encode z xs
unfolding encode
written d z xs h =
    let begun : Begun (sets d 0 (size_bytes z)) (length xs) z [] =
    record { room = length-sets d 0 (size_bytes z) ∙ h; sizes = sets_stand d 0 (size_bytes z) (omega arith); kinds = nil; rest = nil } in
    ends (goes_on (sets d 0 (size_bytes z)) (length xs) z [] xs begun (omega arith)) refl
