-- The state and its count: what stands where, when a state is accepted, and that register bytes whose marks are alike have equal counts.
use Prim.Native.Nat.{ℕ, zero, suc, ◌+◌, ◌*◌, ◌/◌, ◌%◌, ◌≤◌, ◌<◌}
use native.Mathlib.Omega.{arith}
use native.Mathlib.Numerals.{add-one}
use mathlib.Core.Logic.{◌↔◌}
use mathlib.Core.Path.{◌≡◌, refl, sym, ap, ap₂, ◌∙◌}
use mathlib.Core.List.{List, [], ◌∷◌, ◌++◌, append-nil, map, Forall₂}
use Rattle.std.specs.List.{sum}
use Rattle.std.proofs.lemmas.List.Sums.{sum-map}
use Rattle.std.proofs.lemmas.List.Recursion.{is_sum_by}
use mathlib.Core.Bool.{Bool, true, false, ◌||◌, not}
use mathlib.Core.Option.{none}
use lib.Dec.{eqb}
use borrow.Author.Tests.{eqb-true, eqb-false, eq-eqb, ne_eqb}
use lib.ListN.{length, get_or, take, drop, set, length-append, length-take, length-drop, take-append-drop}
use lib.Seq.{length-take-le, take_at, drop_at, get_or_at, get_or-append-add, take-suc-set, drop-length, sets, sets-eq}
use Rattle.gates.specs.Rules.{bit, mark}
use Rattle.gates.specs.Relations.{Agree}
use Rattle.gates.proofs.Laws.{Code, agree_mark}
use Rattle.image.specs.Image.{sizes_of, u16_at, u16}
use Rattle.image.proofs.Pairs.{pairs_length}
use Rattle.refusals.specs.Refusals.{bad_length}
use Rattle.refusals.proofs.Refusals.{Codes, length_none, accepted}
use Rattle.cycle.specs.State.{state_length, marked_count, with_count, registers_in, miscounted, AgreeStates}
use Rattle.cycle.specs.Calls.{state_refusal}

-- COUNTS
bit_most : (b : Bool) → bit b ≤ 1
bit_most true = omega arith
bit_most false = omega arith

-- no more registers are marked than there are
pub count_most : (rs : List ℕ) → marked_count rs ≤ length rs
unfolding marked_count
count_most [] = omega arith
count_most (x ∷ xs) = let t = count_most xs in let m = bit_most (mark x) in omega arith

-- the count is the sum of the marks
pub count_sum : (rs : List ℕ) → marked_count rs ≡ sum (map (λ x. bit (mark x)) rs)
unfolding marked_count
count_sum rs = is_sum_by marked_count (λ x. bit (mark x)) refl (λ x xs. refl) rs ∙ sym (sum-map (λ x. bit (mark x)) rs)

-- a u16 is another number exactly if one of its two bytes is another
pub two_bytes_differ : (low high n : ℕ) → low < 256 → not (eqb (low + high * 256) n) ≡ (not (eqb low (n % 256)) || not (eqb high (n / 256)))
two_bytes_differ low high n h = by (eqb low (n % 256)) (eqb high (n / 256)) refl refl
  where
    by : (p q : Bool) → eqb low (n % 256) ≡ p → eqb high (n / 256) ≡ q → not (eqb (low + high * 256) n) ≡ (not p || not q)
    by true true e f = rw (eq-eqb (low + high * 256) n (omega (arith, eqb-true low (n % 256) e, eqb-true high (n / 256) f)))
    by true false e f = rw (ne_eqb (low + high * 256) n (λ o. eqb-false high (n / 256) f (omega arith)))
    by false q e f = rw (ne_eqb (low + high * 256) n (λ o. eqb-false low (n % 256) e (omega arith)))

pub count_append : (xs ys : List ℕ) → marked_count (xs ++ ys) ≡ marked_count xs + marked_count ys
unfolding marked_count
count_append [] ys = omega arith
count_append (x ∷ xs) ys = rw (count_append xs ys) (omega arith)

-- fewer than a u16 holds, of the first j
pub count_fits : (rs : List ℕ) (j : ℕ) → length rs < 65536 → marked_count (take j rs) < 65536
count_fits rs j h = let m = count_most (take j rs) in let l = length-take j rs in omega arith

-- of register bytes whose marks are alike
pub count_related : {R : ℕ → ℕ → Type 0} → ((x y : ℕ) → R x y → mark x ≡ mark y) → {xs ys : List ℕ} → Forall₂ R xs ys → marked_count xs ≡ marked_count ys
unfolding marked_count
count_related h Forall₂.nil = refl
count_related h (Forall₂.cons {a = x} {b = y} r t) = ap₂ ◌+◌ (ap bit (h x y r)) (count_related h t)

pub count_agree : {xs ys : List ℕ} → Agree xs ys → marked_count xs ≡ marked_count ys
count_agree = count_related (λ x y h. agree_mark h)

-- the first j + 1 bytes of a buffer in which byte j is set: one is counted more where that byte is marked
pub count_set : (buffer : List ℕ) (j y : ℕ) → j < length buffer → marked_count (take (suc j) (set buffer j y)) ≡ marked_count (take j buffer) + bit (mark y)
unfolding marked_count
count_set buffer j y h = rw (take-suc-set buffer j y h, count_append) (omega arith)

drop_all : (n : ℕ) (l : List ℕ) → length l ≡ n → drop n l ≡ []
drop_all n l h = rw (← h) (drop-length l)

-- STATES. What stands where in the state of register bytes
module _ (rs : List ℕ) where
  pub state_length_lem : length (with_count rs) ≡ length rs + 2
  unfolding with_count
  state_length_lem = length-append rs _

  pub state_registers : {r : ℕ} → length rs ≡ r → take r (with_count rs) ≡ rs
  unfolding with_count
  state_registers {r} l = take_at rs _ r l

  pub state_count : {r : ℕ} → length rs ≡ r → drop r (with_count rs) ≡ u16 (marked_count rs)
  unfolding with_count
  state_count {r} l = drop_at rs _ r l

  pub low_byte : {r : ℕ} → length rs ≡ r → get_or (with_count rs) r 0 ≡ marked_count rs % 256
  unfolding with_count
  low_byte {r} l = get_or_at rs _ _ 0 r l

  pub high_byte : {r : ℕ} → length rs ≡ r → get_or (with_count rs) (r + 1) 0 ≡ marked_count rs / 256
  unfolding with_count
  high_byte l = rw (← l) (get_or-append-add rs (u16 (marked_count rs)) 1 0)

  -- the count is read as the number
  pub count_read : {r : ℕ} → length rs ≡ r → u16_at (with_count rs) r ≡ marked_count rs
  count_read l = let low = low_byte l in let high = high_byte l in omega arith

-- the count put behind register bytes that were written to the front of a state
pub put_count : (rs st : List ℕ) {r n : ℕ} → length rs ≡ r → length st ≡ r + 2 → n ≡ marked_count rs → sets (rs ++ drop r st) r (u16 n) ≡ with_count rs
unfolding with_count
put_count rs st {r} {n} l size e =
    let all : length (rs ++ drop r st) ≡ r + 2 = simp (length-append, length-drop) (omega arith) in
    sets-eq (u16 n) (rs ++ drop r st) r (omega arith)
    ∙ rw (take_at rs (drop r st) r l, e, drop_all (r + 2) (rs ++ drop r st) all, append-nil)

-- register bytes of an image, each in A, a relation that looks at its first byte alone; and of plain calls, bytes 0 to 3
pub record RegistersOf (A : ℕ → ℕ → Type 0) (s rs : List ℕ) : Type 0 where
  pub size : length rs ≡ (sizes_of s).registers
  pub codes : Forall₂ A rs rs

abbrev pub IsRegisters : (s rs : List ℕ) → Type 0
IsRegisters = RegistersOf Code

-- a state that plain calls accept: such bytes, and behind them their count
pub record IsState (s st : List ℕ) : Type 0 where
  pub registers : IsRegisters s (registers_in s st)
  pub counted : st ≡ with_count (registers_in s st)

-- that of register bytes is one, and they are its register bytes
pub registers_back : {A : ℕ → ℕ → Type 0} {s rs : List ℕ} → RegistersOf A s rs → registers_in s (with_count rs) ≡ rs
registers_back {rs = rs} r = state_registers rs r.size

pub counted_state : {s rs : List ℕ} → IsRegisters s rs → IsState s (with_count rs)
counted_state r = record { registers = rw (registers_back r) r; counted = ap with_count (sym (registers_back r)) }

pub state_size : {s st : List ℕ} → IsState s st → length st ≡ state_length (sizes_of s)
state_size {s} {st} a = ap length a.counted ∙ state_length_lem (registers_in s st) ∙ ap (λ r. r + 2) a.registers.size

-- as its bytes: behind the registers stands their count
pub right_count : {s st : List ℕ} → IsState s st → drop (sizes_of s).registers st ≡ u16 (marked_count (registers_in s st))
right_count {s} {st} a = ap (drop (sizes_of s).registers) a.counted ∙ state_count (registers_in s st) a.registers.size

pub counted_is : {s st : List ℕ} → IsRegisters s (registers_in s st) → drop (sizes_of s).registers st ≡ u16 (marked_count (registers_in s st)) → IsState s st
unfolding with_count
counted_is {s} {st} r e = record { registers = r; counted = sym (take-append-drop (sizes_of s).registers st) ∙ ap (λ l. registers_in s st ++ l) e }

-- with two bytes behind its registers, a list is these and the two
two_behind : (r : ℕ) (st : List ℕ) → length st ≡ r + 2 → st ≡ take r st ++ (get_or st r 0 ∷ get_or st (suc r) 0 ∷ [])
two_behind zero (x ∷ y ∷ []) h = refl
two_behind zero [] h = absurd (omega arith)
two_behind zero (x ∷ []) h = absurd (omega arith)
two_behind zero (x ∷ y ∷ z ∷ zs) h = absurd (omega arith)
two_behind (suc r) [] h = absurd (omega arith)
two_behind (suc r) (x ∷ xs) h = ap (λ l. x ∷ l) (two_behind r xs (omega arith))

pub behind_two : (r : ℕ) (st : List ℕ) → length st ≡ r + 2 → drop r st ≡ get_or st r 0 ∷ get_or st (r + 1) 0 ∷ []
behind_two r st h =
    let e = length-take-le r st (omega arith) in
    rw add-one (ap (drop r) (two_behind r st h) ∙ drop_at (take r st) _ r e)

-- 10, 11 and 20 do not apply exactly if it is one
pub state_none : (s st : List ℕ) → (state_refusal (sizes_of s) st ≡ none) ↔ IsState s st
unfolding state_refusal miscounted with_count
state_none s st = (is, none_applies)
  where
    is : state_refusal (sizes_of s) st ≡ none → IsState s st
    is h =
        let t = simp accepted at h in
        let r = (sizes_of s).registers in
        record {
          registers = record { size = length-take-le r st (omega (arith, t.0)); codes = t.1.0 };
          counted = two_behind r st t.0 ∙ ap₂ (λ x y. registers_in s st ++ (x ∷ y ∷ [])) t.1.1.0 (rw add-one at t.1.1.1);
        }

    none_applies : IsState s st → state_refusal (sizes_of s) st ≡ none
    none_applies a =
        let rs = registers_in s st in
        let low = ap (λ l. get_or l (sizes_of s).registers 0) a.counted ∙ low_byte rs a.registers.size in
        let high = ap (λ l. get_or l ((sizes_of s).registers + 1) 0) a.counted ∙ high_byte rs a.registers.size in
        simp accepted (state_size a, (a.registers.codes, (low, high)))

-- of register bytes with their count, only their number is tried
two_longer : (m n : ℕ) → eqb (m + 2) (n + 2) ≡ eqb m n
two_longer m n = by (eqb m n) refl
  where
    by : (b : Bool) → eqb m n ≡ b → eqb (m + 2) (n + 2) ≡ b
    by true e = eq-eqb (m + 2) (n + 2) (ap (λ x. x + 2) (eqb-true m n e))
    by false e = let d = eqb-false m n e in ne_eqb (m + 2) (n + 2) (λ h. d (omega arith))

pub longer_refusal : (number r : ℕ) (xs ys : List ℕ) → length ys ≡ length xs + 2 → bad_length number (r + 2) ys ≡ bad_length number r xs
unfolding bad_length
longer_refusal number r xs ys l = rw (l, two_longer (length xs) r)

pub counted_refusal : (s rs : List ℕ) → Codes rs → state_refusal (sizes_of s) (with_count rs) ≡ bad_length 10 (sizes_of s).registers rs
unfolding state_refusal bad_length
counted_refusal s rs c = by (eqb (length rs) (sizes_of s).registers) refl
  where
    by : (b : Bool) → eqb (length rs) (sizes_of s).registers ≡ b → state_refusal (sizes_of s) (with_count rs) ≡ bad_length 10 (sizes_of s).registers rs
    by true e =
        let l = eqb-true (length rs) (sizes_of s).registers e in
        (state_none s (with_count rs)).1 (counted_state (record { size = l; codes = c })) ∙ sym ((length_none 10 (sizes_of s).registers rs).1 l)
    by false e = rw (state_length_lem rs, two_longer (length rs) (sizes_of s).registers, e)

-- STATES THAT AGREE. Those of register bytes that agree do
pub counted_agree : {s rs rs' : List ℕ} → length rs ≡ (sizes_of s).registers → Agree rs rs' → AgreeStates s (with_count rs) (with_count rs')
counted_agree {s} {rs} {rs'} l h =
    let l' = sym (pairs_length h) ∙ l in
    record {
      registers = rw (state_registers rs l, state_registers rs' l') h;
      counts = state_count rs l ∙ ap u16 (count_agree h) ∙ sym (state_count rs' l');
    }
