-- Which refusal each call gives: every line of a chain both ways, then the chains, then the calls.
use Prim.Native.Nat.{ℕ, ◌+◌, ◌*◌, ◌≤◌, ◌<◌}
use native.Mathlib.Omega.{arith}
use mathlib.Core.Logic.{◌↔◌, ◌⊎◌, inl, inr, ⊎_elim}
use mathlib.Core.Path.{◌≡◌, refl, ap, ap₂, sym, ◌∙◌}
use mathlib.Core.List.{List, [], ◌∷◌}
use mathlib.Core.Option.{Option, none, some}
use mathlib.Core.Bool.{Bool, true, false, ◌||◌, not}
use lib.Dec.{eqb, ltb}
use lib.ListN.{length, get_or}
use borrow.Author.Tests.{ltb-true, ltb-false, eqb-true, lt-ltb, le-ltb, eq-eqb, ne_eqb}
use Rattle.image.specs.declared.image.Net.{Net}
use Rattle.image.specs.Image.{sizes_of, net, nets_of}
use Rattle.image.proofs.Nets.{length_nets}
use Rattle.refusals.specs.declared.answer.Refusal.{Refusal}
use Rattle.refusals.specs.Refusals.{refusal, refuse, ◌then◌, plain_bytes, bad_byte, bad_length}
use Rattle.refusals.proofs.Refusals.{refuse_none, neither, not_above, not_other, byte_none, length_none, accepted}
use Rattle.net_checking.specs.NetCheck.{bad_pin, bad_value, bad_unlisted, net_refusal}
use Rattle.checking.specs.Check.{wrong_counts, nets_refusal, check_refusal}
use Rattle.cycle.specs.State as states
use Rattle.cycle.specs.State.{state_length, registers_in}
use Rattle.cycle.proofs.States.{behind_two, state_none}
use Rattle.cycle.specs.Calls.{refused, state_refusal, lent_refusal, power_up_refusal, power_up_of, step_refusal, step_of, as_step, run_refusal, run_of, as_run, counting}
use Rattle.cycle.proofs.Calls.{power_up_accepted, power_up_refused, step_accepted, step_refused, run_accepted, run_refused}
use Rattle.doubled.specs.Doubled.{doubled_size}
use Rattle.figures.specs.Figures.{size_refusal, doubled_size_of}
use Rattle.figures.proofs.Refusing.{size_accepted, size_refused}
use Rattle.doubling.specs.Doubling.{double_refusal, double_of}
use Rattle.doubling.proofs.Checks.{double_accepted, double_refused}
use Rattle.unknowns.specs.Filling.{no_code}
use Rattle.static_run.specs.StaticCalls.{static_bytes, static_power_up_refusal, static_power_up_of, static_run_refusal, static_run_of}
use Rattle.page_text.specs.Pages.{pages_length}
use Rattle.paging.specs.Paging.{page_refusal, page_of}
use Rattle.paging.proofs.PageCalls.{page_accepted, page_refused}
use Rattle.static_run.proofs.StaticRefused.{code_none, static_power_up_accepted, static_power_up_refused, static_accepted, static_refused}
use Rattle.claims.specs.Accepted.{Sized, NoneAbove3, OnlyCodes, AcceptedImage, RightCount, AcceptedStaticState}
use Rattle.claims.specs.Refused.{AnyCall, check, power_up, step, run, static_power_up, static_run, doubled_size_lem, double, page, Gives, BadNet, kind, pin, value, unlisted, BadImage, short, no_nets, many_nets, inexact, bad_net, miscounted, FirstAbove3, BadLent, state_size, state_byte, state_count, row_size, row_byte, buffer_size, FirstNoCode, BadStatic, static_state_size, static_state_byte, static_row_size, static_row_byte, static_buffer_size, Refused, bad_image, bad_state, bad_step, many_cycles, bad_run, bad_static_state, many_static_cycles, bad_static_run, size_large, doubled_large, doubled_length, many_page_cycles, record_byte, record_size, page_size, Refusals}
use Rattle.claims.proofs.InTurn.{InTurn, given_first, first_given}
use Rattle.claims.proofs.Accepted as accept
use Rattle.claims.proofs.Unchanged.{not_refused, not_some}

-- FROM A CHAIN TO ITS TABLE: what the chain o gives is among P
record Tells (o : Option Refusal) (P : ℕ → ℕ → Type 0) : Type 0 where
  given : {r : Refusal} → o ≡ some r → P r.number r.place

same : {q r : Refusal} → some q ≡ some r → q ≡ r
same h = cc

clash : {b : Bool} → b ≡ true → b ≡ false → ⊥
clash h e = let z : ◌≡◌ {A = ℕ} 0 1 = cc in omega arith

line : {P : ℕ → ℕ → Type 0} (c : Bool) (number place : ℕ) → (c ≡ true → P number place) → Tells (refuse c number place) P
line true number place h = record { given = λ e. rw (← same e) (h refl) }
line false number place h = record { given = λ e. absurd (not_some e) }

one_then : {o q : Option Refusal} {P : ℕ → ℕ → Type 0} → Tells o P → (o ≡ none → Tells q P) → Tells (o then q) P
one_then {o = none} t u = u refl
one_then {o = some r} t u = t

length_tells : {P : ℕ → ℕ → Type 0} (number n : ℕ) (xs : List ℕ) → ((length xs ≡ n → ⊥) → P number 0) → Tells (bad_length number n xs) P
unfolding bad_length
length_tells number n xs h = line (not (eqb (length xs) n)) number 0 (λ e. h (λ l. clash e ((not_other _ _).1 l)))

-- bytes that are tried one after the other, by any test
module _ (bad : ℕ → Bool) where
  bytes_in_turn : (number : ℕ) → InTurn (λ i x. refuse (bad x) number i) (bad_byte bad number)
  unfolding bad_byte
  bytes_in_turn number = record { at_end = λ i. refl; next = λ i x xs. refl }

  -- byte i of xs is the first bad one
  record FirstBad (xs : List ℕ) (i : ℕ) : Type 0 where
    below : i < length xs
    here : bad (get_or xs i 0) ≡ true
    first : (j : ℕ) → j < i → bad (get_or xs j 0) ≡ false

  bytes_tell : {P : ℕ → ℕ → Type 0} (number : ℕ) (xs : List ℕ) → ((i : ℕ) → FirstBad xs i → P number i) → Tells (bad_byte bad number 0 xs) P
  bytes_tell {P} number xs h =
      record {
        given = λ e.
            let w = first_given 0 (bytes_in_turn number) xs e in
            (line {P = P} (bad (get_or xs w.0 0)) number w.0
            (λ t. h w.0 (record { below = w.1.below; here = t; first = λ j l. (refuse_none _ _ _).0 (w.1.before j l) }))
            ).given w.1.here;
      }

  byte_drawn : (number : ℕ) (xs : List ℕ) {i : ℕ} → FirstBad xs i → bad_byte bad number 0 xs ≡ some (refusal number i)
  byte_drawn number xs {i} w =
      given_first 0 (bytes_in_turn number) xs i
      (record { below = w.below; before = λ k l. rw (w.first k l); here = rw w.here })

-- a byte above 3, and a byte that is no code
above_3 : {xs : List ℕ} {i : ℕ} → FirstBad (ltb 3) xs i → FirstAbove3 xs i
above_3 w = record { below = w.below; above = ltb-true _ _ w.here; first = λ j l. ltb-false _ _ (w.first j l) }

bad_3 : {xs : List ℕ} {i : ℕ} → FirstAbove3 xs i → FirstBad (ltb 3) xs i
bad_3 w = record { below = w.below; here = lt-ltb 3 _ w.above; first = λ j l. le-ltb 3 _ (w.first j l) }

told_no_code : (x : ℕ) → no_code x ≡ true → (x ≡ 5) ⊎ (6 < x)
told_no_code x h = by (eqb x 5) refl h
  where
    by : (b : Bool) → eqb x 5 ≡ b → (b || ltb 6 x) ≡ true → (x ≡ 5) ⊎ (6 < x)
    by true e h = inl (eqb-true x 5 e)
    by false e h = inr (ltb-true 6 x h)

no_code_told : (x : ℕ) → (x ≡ 5) ⊎ (6 < x) → no_code x ≡ true
no_code_told x h = ⊎_elim (λ e. rw (eq-eqb x 5 e)) (λ l. rw (ne_eqb x 5 (λ e. omega arith), lt-ltb 6 x l)) h

no_code_lem : {xs : List ℕ} {i : ℕ} → FirstBad no_code xs i → FirstNoCode xs i
no_code_lem w = record { below = w.below; no_code_lem = told_no_code _ w.here; first = λ j l. (accept.code _).0 (w.first j l) }

bad_code : {xs : List ℕ} {i : ℕ} → FirstNoCode xs i → FirstBad no_code xs i
bad_code w = record { below = w.below; here = no_code_told _ w.no_code_lem; first = λ j l. (accept.code _).1 (w.first j l) }

net_tells : (n i : ℕ) (x : Net) → Tells (net_refusal n i x) (λ number place. BadNet n i x number × (place ≡ i))
unfolding net_refusal
net_tells n i x =
    one_then (line (ltb 8 x.kind) 4 i (λ e. (kind (ltb-true _ _ e), refl)))
    (λ a. let k = simp (refuse_none, not_above) at a in
    one_then (line (bad_pin n i x) 5 i (λ e. (pin k (λ p. clash e ((accept.pins n i x).1 p)), refl)))
    (λ b. let p = (accept.pins n i x).0 ((refuse_none _ 5 i).0 b) in
    one_then (line (bad_value x) 6 i (λ e. (value k p (λ v. clash e ((accept.values n i x).1 v)), refl)))
    (λ c. let v = (accept.values n i x).0 ((refuse_none _ 6 i).0 c) in
    line (bad_unlisted x) 7 i (λ e. (unlisted k p v (λ u. clash e ((accept.unlisted n i x).1 u)), refl)))))

nets_tell : {s : List ℕ} → Sized s → Tells (nets_refusal (sizes_of s).nets 0 (nets_of s)) (BadImage s)
nets_tell {s} z =
    record {
      given = λ e.
          let w = first_given (net 0 0 0 0) (accept.in_turn (sizes_of s).nets) (nets_of s) e in
          let t = (net_tells _ _ _).given w.1.here in
          rw t.1 (bad_net {i = w.0} z (omega (arith, length_nets s, w.1.below)) (λ j l. (accept.net _ _ _).0 (w.1.before j l)) t.0);
    }

size_tells : {s : List ℕ} → 8 ≤ length s → (eqb (sizes_of s).nets 0 || ltb 8192 (sizes_of s).nets) ≡ true → BadImage s 2 0
size_tells {s} h e = one (eqb (sizes_of s).nets 0) refl e
  where
    one : (b : Bool) → eqb (sizes_of s).nets 0 ≡ b → (b || ltb 8192 (sizes_of s).nets) ≡ true → BadImage s 2 0
    one true z e = no_nets h (eqb-true _ _ z)
    one false z e = many_nets h (ltb-true _ _ e)

image_tells : (s : List ℕ) → Tells (check_refusal s) (BadImage s)
unfolding check_refusal
image_tells s =
    one_then (line (ltb (length s) 8) 1 0 (λ e. short (ltb-true _ _ e)))
    (λ a. let l = simp accepted at a in
    one_then (line (eqb (sizes_of s).nets 0 || ltb 8192 (sizes_of s).nets) 2 0 (size_tells l))
    (λ b. let n = simp accepted at b in
    let some_nets : 1 ≤ (sizes_of s).nets = omega (arith, n.0) in
    one_then (line (not (eqb (length s) (8 + 7 * (sizes_of s).nets))) 3 0 (λ e. inexact l some_nets n.1 (λ x. clash e ((not_other _ _).1 x))))
    (λ c. let z : Sized s = record { some_nets = some_nets; few_nets = n.1; exact = simp accepted at c } in
    one_then (nets_tell z)
    (λ d. line (wrong_counts s) 8 0 (λ e. miscounted z ((accept.nets s).0 d) (λ x. clash e ((accept.counts s).1 x)))))))

-- the stored count is the number of marked registers, as the test has it and as bytes
count_right : (s st : List ℕ) → length st ≡ state_length (sizes_of s) → (states.miscounted (sizes_of s).registers st ≡ false) ↔ RightCount s st
unfolding states.miscounted
count_right s st l = (
  λ h. let t = simp (neither, not_other) at h in behind_two (sizes_of s).registers st l ∙ ap₂ (λ x y. x ∷ y ∷ []) t.0 t.1,
  λ h.
      let e = sym (behind_two (sizes_of s).registers st l) ∙ h in
      simp (neither, not_other) (ap (λ ys. get_or ys 0 0) e, ap (λ ys. get_or ys 1 0) e),
)

lent_tells : {s : List ℕ} {rowBytes filled : ℕ} (st rows buffer : List ℕ)
    → Tells (state_refusal (sizes_of s) st then lent_refusal plain_bytes rowBytes filled rows buffer) (BadLent s rowBytes filled st rows buffer)
unfolding state_refusal
lent_tells {s} {rowBytes} {filled} st rows buffer =
    one_then (state_tells)
    (λ n. let q = accept.state ((state_none s st).0 n) in
    one_then (length_tells 12 rowBytes rows (row_size q))
    (λ c. let m = (length_none _ _ rows).0 c in
    one_then (bytes_tell (ltb 3) 13 rows (λ i w. row_byte q m (above_3 w)))
    (λ d. length_tells 14 filled buffer (buffer_size q (record { size = m; codes = accept.each ((byte_none _ _ rows).0 d) })))))
  where
    state_tells : Tells (state_refusal (sizes_of s) st) (BadLent s rowBytes filled st rows buffer)
    state_tells =
        one_then (length_tells 10 (state_length (sizes_of s)) st state_size)
        (λ a. let l = (length_none _ _ st).0 a in
        one_then (bytes_tell (ltb 3) 11 (registers_in s st) (λ i w. state_byte l (above_3 w)))
        (λ b. line (states.miscounted (sizes_of s).registers st) 20 0
        (λ e. state_count l (accept.each ((byte_none _ _ (registers_in s st)).0 b)) (λ r. clash e ((count_right s st l).1 r)))))

static_tells : {s : List ℕ} {rowBytes filled : ℕ} (st rows buffer : List ℕ)
    → Tells (bad_length 10 (sizes_of s).registers st then bad_byte no_code 18 0 st then lent_refusal static_bytes rowBytes filled rows buffer) (BadStatic s rowBytes filled st rows buffer)
static_tells {s} {rowBytes} {filled} st rows buffer =
    one_then (length_tells 10 (sizes_of s).registers st static_state_size)
    (λ a. let l = (length_none _ _ st).0 a in
    one_then (bytes_tell no_code 18 st (λ i w. static_state_byte l (no_code_lem w)))
    (λ b. let q : AcceptedStaticState s st = record { size = l; codes = (accept.codes st).0 ((code_none 18 0 st).0 b) } in
    one_then (length_tells 12 rowBytes rows (static_row_size q))
    (λ c. let m = (length_none _ _ rows).0 c in
    one_then (bytes_tell no_code 18 rows (λ i w. static_row_byte q m (no_code_lem w)))
    (λ d. length_tells 14 filled buffer (static_buffer_size q (record { size = m; codes = (accept.codes rows).0 ((code_none 18 0 rows).0 d) }))))))

-- FROM THE TABLE TO ITS CHAIN
length_drawn : (number n : ℕ) (xs : List ℕ) → (length xs ≡ n → ⊥) → bad_length number n xs ≡ some (refusal number 0)
unfolding bad_length
length_drawn number n xs h = rw (ne_eqb (length xs) n h)

no_byte : (number : ℕ) (xs : List ℕ) → NoneAbove3 xs → bad_byte (ltb 3) number 0 xs ≡ none
no_byte number xs h = (byte_none number 0 xs).1 (accept.together xs h)

no_bad_code : (number : ℕ) (xs : List ℕ) → OnlyCodes xs → bad_byte no_code number 0 xs ≡ none
no_bad_code number xs h = (code_none number 0 xs).1 ((accept.codes xs).1 h)

-- what is not false is true
so : {b : Bool} {A : Type 0} → (b ≡ false) ↔ A → (A → ⊥) → b ≡ true
so {b = true} e h = refl
so {b = false} e h = absurd (h (e.0 refl))

net_drawn : {n i : ℕ} {x : Net} {number : ℕ} → BadNet n i x number → net_refusal n i x ≡ some (refusal number i)
unfolding net_refusal
net_drawn {n} {i} {x} (kind h) = rw (lt-ltb 8 x.kind h)
net_drawn {n} {i} {x} (pin k h) = rw (le-ltb 8 x.kind k, so (accept.pins n i x) h)
net_drawn {n} {i} {x} (value k p h) = rw (le-ltb 8 x.kind k, (accept.pins n i x).1 p, so (accept.values n i x) h)
net_drawn {n} {i} {x} (unlisted k p v h) = rw (le-ltb 8 x.kind k, (accept.pins n i x).1 p, (accept.values n i x).1 v, so (accept.unlisted n i x) h)

-- past 1 to 3
past_sizes : {s : List ℕ} → Sized s → check_refusal s ≡ (nets_refusal (sizes_of s).nets 0 (nets_of s) then refuse (wrong_counts s) 8 0)
unfolding check_refusal
past_sizes {s} z =
    rw (
      le-ltb (length s) 8 (omega (arith, z.exact, z.some_nets)),
      ne_eqb (sizes_of s).nets 0 (λ e. omega (arith, z.some_nets)),
      le-ltb 8192 (sizes_of s).nets z.few_nets,
      eq-eqb (length s) (8 + 7 * (sizes_of s).nets) z.exact,
    )

image_drawn : {s : List ℕ} {number place : ℕ} → BadImage s number place → check_refusal s ≡ some (refusal number place)
unfolding check_refusal
image_drawn {s} (short h) = rw (lt-ltb (length s) 8 h)
image_drawn {s} (no_nets h e) = rw (le-ltb (length s) 8 h, e)
image_drawn {s} (many_nets h l) = rw (le-ltb (length s) 8 h, ne_eqb (sizes_of s).nets 0 (λ e. omega arith), lt-ltb 8192 (sizes_of s).nets l)
image_drawn {s} (inexact h l m e) =
    rw (le-ltb (length s) 8 h, ne_eqb (sizes_of s).nets 0 (λ e. omega arith), le-ltb 8192 (sizes_of s).nets m, ne_eqb (length s) (8 + 7 * (sizes_of s).nets) e)
image_drawn {s} (bad_net {i = i} z l before b) =
    past_sizes z
    ∙ rw (given_first (net 0 0 0 0) (accept.in_turn (sizes_of s).nets) (nets_of s) i
    (record { below = omega (arith, length_nets s); before = λ k m. (accept.net _ _ _).1 (before k m); here = net_drawn b }))
image_drawn {s} (miscounted z nets h) = past_sizes z ∙ rw ((accept.nets s).1 nets, so (accept.counts s) h)

lent_drawn : {s : List ℕ} {rowBytes filled : ℕ} {st rows buffer : List ℕ} {number place : ℕ} → BadLent s rowBytes filled st rows buffer number place
    → (state_refusal (sizes_of s) st then lent_refusal plain_bytes rowBytes filled rows buffer) ≡ some (refusal number place)
lent_drawn {st = st} (state_size h) = unfold state_refusal in rw (length_drawn 10 _ st h)
lent_drawn {s} {st = st} (state_byte l w) = unfold state_refusal in rw ((length_none 10 _ st).1 l, byte_drawn (ltb 3) 11 (registers_in s st) (bad_3 w))
lent_drawn {s} {st = st} (state_count l c h) =
    unfold state_refusal in rw ((length_none 10 _ st).1 l, no_byte 11 (registers_in s st) c, so (count_right s st l) h)
lent_drawn {s} {st = st} {rows} (row_size q h) = rw ((state_none s st).1 (accept.is_state q), length_drawn 12 _ rows h)
lent_drawn {s} {st = st} {rows} (row_byte q l w) = rw ((state_none s st).1 (accept.is_state q), (length_none 12 _ rows).1 l, byte_drawn (ltb 3) 13 rows (bad_3 w))
lent_drawn {s} {st = st} {rows} {buffer} (buffer_size q r h) =
    rw (
      (state_none s st).1 (accept.is_state q),
      (length_none 12 _ rows).1 r.size,
      no_byte 13 rows r.codes,
      length_drawn 14 _ buffer h,
    )

static_drawn : {s : List ℕ} {rowBytes filled : ℕ} {st rows buffer : List ℕ} {number place : ℕ} → BadStatic s rowBytes filled st rows buffer number place
    → (bad_length 10 (sizes_of s).registers st then bad_byte no_code 18 0 st then lent_refusal static_bytes rowBytes filled rows buffer) ≡ some (refusal number place)
static_drawn {st = st} (static_state_size h) = rw (length_drawn 10 _ st h)
static_drawn {st = st} (static_state_byte l w) = rw ((length_none 10 _ st).1 l, byte_drawn no_code 18 st (bad_code w))
static_drawn {st = st} {rows} (static_row_size q h) = rw ((length_none 10 _ st).1 q.size, no_bad_code 18 st q.codes, length_drawn 12 _ rows h)
static_drawn {st = st} {rows} (static_row_byte q l w) =
    rw ((length_none 10 _ st).1 q.size, no_bad_code 18 st q.codes, (length_none 12 _ rows).1 l, byte_drawn no_code 18 rows (bad_code w))
static_drawn {st = st} {rows} {buffer} (static_buffer_size q r h) =
    rw (
      (length_none 10 _ st).1 q.size,
      no_bad_code 18 st q.codes,
      (length_none 12 _ rows).1 r.size,
      no_bad_code 18 rows r.codes,
      length_drawn 14 _ buffer h,
    )

-- THE CALLS: what a call is tried for behind 1 to 8
abbrev behind : (s : List ℕ) → AnyCall → Option Refusal
behind s check = none
behind s (power_up st) = bad_length 10 (state_length (sizes_of s)) st
behind s (step st row nets) = state_refusal (sizes_of s) st then lent_refusal plain_bytes (sizes_of s).inputs (sizes_of s).nets row nets
behind s (run st k rows outputs) =
    refuse (ltb 4096 k) 9 0 then state_refusal (sizes_of s) st then lent_refusal plain_bytes (k * (sizes_of s).inputs) (k * (sizes_of s).outputs) rows outputs
behind s (static_power_up st) = bad_length 10 (sizes_of s).registers st
behind s (static_run st k rows outputs) =
    refuse (ltb 4096 k) 9 0
    then bad_length 10 (sizes_of s).registers st
    then bad_byte no_code 18 0 st
    then lent_refusal static_bytes (k * (sizes_of s).inputs) (k * (sizes_of s).outputs) rows outputs
behind s doubled_size_lem = refuse (ltb 8192 (doubled_size (nets_of s))) 15 0
behind s (double buf) = refuse (ltb 8192 (doubled_size (nets_of s))) 15 0 then bad_length 16 (8 + 7 * doubled_size (nets_of s)) buf
behind s (page k outputs buf) =
    refuse (ltb 4096 k) 9 0
    then bad_byte plain_bytes.bad 13 0 outputs
    then bad_length 14 (k * (sizes_of s).outputs) outputs
    then bad_length 19 (pages_length k (sizes_of s).outputs) buf

behind_tells : (s : List ℕ) (c : AnyCall) → AcceptedImage s → Tells (behind s c) (Refused s c)
behind_tells s check a = record { given = λ e. absurd (not_some e) }
behind_tells s (power_up st) a = length_tells 10 (state_length (sizes_of s)) st (bad_state a)
behind_tells s (step st row nets) a = record { given = λ e. bad_step a ((lent_tells st row nets).given e) }
behind_tells s (run st k rows outputs) a =
    one_then (line (ltb 4096 k) 9 0 (λ e. many_cycles a (ltb-true _ _ e)))
    (λ b. record { given = λ e. bad_run a (simp accepted at b) ((lent_tells st rows outputs).given e) })
behind_tells s (static_power_up st) a = length_tells 10 (sizes_of s).registers st (bad_static_state a)
behind_tells s (static_run st k rows outputs) a =
    one_then (line (ltb 4096 k) 9 0 (λ e. many_static_cycles a (ltb-true _ _ e)))
    (λ b. record { given = λ e. bad_static_run a (simp accepted at b) ((static_tells st rows outputs).given e) })
behind_tells s doubled_size_lem a = line (ltb 8192 (doubled_size (nets_of s))) 15 0 (λ e. size_large a (ltb-true _ _ e))
behind_tells s (double buf) a =
    one_then (line (ltb 8192 (doubled_size (nets_of s))) 15 0 (λ e. doubled_large a (ltb-true _ _ e)))
    (λ b. length_tells 16 (8 + 7 * doubled_size (nets_of s)) buf (doubled_length a (simp accepted at b)))
behind_tells s (page k outputs buf) a =
    one_then (line (ltb 4096 k) 9 0 (λ e. many_page_cycles a (ltb-true _ _ e)))
    (λ b. let few : k ≤ 4096 = simp accepted at b in
    one_then (bytes_tell (ltb 3) 13 outputs (λ i w. record_byte a few (above_3 w)))
    (λ c. let codes = accept.each ((byte_none _ _ outputs).0 c) in
    one_then (length_tells 14 (k * (sizes_of s).outputs) outputs (record_size a few codes))
    (λ d. length_tells 19 (pages_length k (sizes_of s).outputs) buf
    (λ h. page_size a few (record { codes = codes; size = (length_none _ _ outputs).0 d }) (λ e. h ((accept.pages_bytes_lem s k buf).1 e))))))

call_tells : (s : List ℕ) (c : AnyCall) → Tells (check_refusal s then behind s c) (Refused s c)
call_tells s c = one_then (record { given = λ e. bad_image ((image_tells s).given e) }) (λ e. behind_tells s c ((accept.check s).0 e))

drawn : {s : List ℕ} {c : AnyCall} {number place : ℕ} → Refused s c number place → (check_refusal s then behind s c) ≡ some (refusal number place)
drawn (bad_image b) = rw (image_drawn b)
drawn {s} (bad_state {st} a h) = rw ((accept.check s).1 a, length_drawn 10 _ st h)
drawn {s} (bad_step a b) = rw ((accept.check s).1 a) (lent_drawn b)
drawn {s} (many_cycles {k = k} a l) = rw ((accept.check s).1 a, lt-ltb 4096 k l)
drawn {s} (bad_run {k = k} a l b) = rw ((accept.check s).1 a, le-ltb 4096 k l) (lent_drawn b)
drawn {s} (bad_static_state {st} a h) = rw ((accept.check s).1 a, length_drawn 10 _ st h)
drawn {s} (many_static_cycles {k = k} a l) = rw ((accept.check s).1 a, lt-ltb 4096 k l)
drawn {s} (bad_static_run {k = k} a l b) = rw ((accept.check s).1 a, le-ltb 4096 k l) (static_drawn b)
drawn {s} (size_large a l) = rw ((accept.check s).1 a, lt-ltb 8192 (doubled_size (nets_of s)) l)
drawn {s} (doubled_large a l) = rw ((accept.check s).1 a, lt-ltb 8192 (doubled_size (nets_of s)) l)
drawn {s} (doubled_length {buf} a l h) = rw ((accept.check s).1 a, le-ltb 8192 (doubled_size (nets_of s)) l, length_drawn 16 _ buf h)
drawn {s} (many_page_cycles {k} a l) = rw ((accept.check s).1 a, lt-ltb 4096 k l)
drawn {s} (record_byte {k} {outputs} a l w) = rw ((accept.check s).1 a, le-ltb 4096 k l, byte_drawn (ltb 3) 13 outputs (bad_3 w))
drawn {s} (record_size {k} {outputs} a l c h) = rw ((accept.check s).1 a, le-ltb 4096 k l, no_byte 13 outputs c, length_drawn 14 _ outputs h)
drawn {s} (page_size {k} {outputs} {buf} a l r h) =
    rw (
      (accept.check s).1 a,
      le-ltb 4096 k l,
      no_byte 13 outputs r.codes,
      (length_none 14 _ outputs).1 r.size,
      length_drawn 19 _ buf (λ e. h ((accept.pages_bytes_lem s k buf).0 e)),
    )

-- an answer a, which give makes of a refusal, where the chain o decides
by_chain : {A : Type 0} {r : Refusal} (o : Option Refusal) (a : A) (give : Refusal → A)
    → (o ≡ none → a ≡ give r → ⊥) → ((q : Refusal) → o ≡ some q → a ≡ give q) → ((q : Refusal) → give q ≡ give r → q ≡ r)
    → (a ≡ give r) ↔ (o ≡ some r)
by_chain none a give n s i = (λ e. absurd (n refl e), λ h. absurd (not_some h))
by_chain (some q) a give n s i = (λ e. ap some (i q (sym (s q refl) ∙ e)), λ h. s q refl ∙ ap give (same h))

gives : (s : List ℕ) (c : AnyCall) (r : Refusal) → Gives s c r ↔ (check_refusal s then behind s c ≡ some r)
unfolding power_up_refusal step_refusal as_step run_refusal as_run counting static_power_up_refusal static_run_refusal size_refusal double_refusal page_refusal
gives s check r = one (check_refusal s)
  where
    one : (o : Option Refusal) → (o ≡ some r) ↔ (o then none ≡ some r)
    one none = (λ h. h, λ h. h)
    one (some q) = (λ h. h, λ h. h)
gives s (power_up st) r =
    by_chain (power_up_refusal s st) (power_up_of s st).refusal some
    (λ e h. not_some (rw (power_up_accepted s st e) at h)) (λ q e. rw (power_up_refused s st q e)) (λ q. same)
gives s (step st row nets) r =
    by_chain (step_refusal s st row nets) (step_of s st row nets).answer refused
    (λ e h. not_refused (rw (step_accepted s st row nets e) at h)) (λ q e. rw (step_refused s st row nets q e)) (λ q h. cc)
gives s (run st k rows outputs) r =
    by_chain (run_refusal s st k rows outputs) (run_of s st k rows outputs).answer refused
    (λ e h. not_refused (rw (run_accepted s st k rows outputs e) at h)) (λ q e. rw (run_refused s st k rows outputs q e)) (λ q h. cc)
gives s (static_power_up st) r =
    by_chain (static_power_up_refusal s st) (static_power_up_of s st).refusal some
    (λ e h. not_some (rw (static_power_up_accepted s st e) at h)) (λ q e. rw (static_power_up_refused s st q e)) (λ q. same)
gives s (static_run st k rows outputs) r =
    by_chain (static_run_refusal s st k rows outputs) (static_run_of s st k rows outputs).answer refused
    (λ e h. not_refused (rw (static_accepted s st k rows outputs e) at h)) (λ q e. rw (static_refused s st k rows outputs q e)) (λ q h. cc)
gives s doubled_size_lem r =
    by_chain (size_refusal s) (doubled_size_of s).refusal some
    (λ e h. not_some (rw (size_accepted s e) at h)) (λ q e. rw (size_refused s q e)) (λ q. same)
gives s (double buf) r =
    by_chain (double_refusal s buf) (double_of s buf).refusal some
    (λ e h. not_some (rw (double_accepted s buf e) at h)) (λ q e. rw (double_refused s buf q e)) (λ q. same)
gives s (page k outputs buf) r =
    by_chain (page_refusal s k outputs buf) (page_of s k outputs buf).refusal some
    (λ e h. not_some (rw (page_accepted s k outputs buf e) at h)) (λ q e. rw (page_refused s k outputs buf q e)) (λ q. same)

pub refusals : Refusals
refusals s c r = (λ h. (call_tells s c).given ((gives s c r).0 h), λ h. (gives s c r).1 (drawn h))
