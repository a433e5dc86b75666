-- The promises about pages, used in full: together they leave one text, and a call whose image, record and buffer are as they should be writes it.
use Prim.Native.Nat.{ℕ, zero, suc, ◌+◌, ◌-◌, ◌*◌, ◌/◌, ◌%◌, ◌≤◌, ◌<◌, min}
use native.Mathlib.Omega.{arith}
use native.Mathlib.Nat.{zero-mul, min-eq_left, mul_assoc, div-lt_iff_lt-mul, mod-lt, div-add-mod', mul-le-mul, add-mul, one-mul}
use mathlib.Core.Logic.{◌⊎◌, inl, inr, ⊎_elim}
use mathlib.Core.Path.{◌≡◌, refl, ap, sym, ◌∙◌}
use mathlib.Core.Bool.{Bool, true, false}
use mathlib.Core.List.{List, [], ◌∷◌, ◌++◌}
use mathlib.Core.Option.{none, some}
use lib.Dec.{ltb}
use lib.ListN.{length, get_or, replicate}
use lib.Seq.{ext_get_or}
use borrow.Author.Tests.{ltb-true, ltb-false}
use Rattle.image.specs.Image.{sizes_of, net, nets_of}
use Rattle.image.specs.Examples.{counter, crossed, one_input}
use Rattle.refusals.specs.Refusals.{refusal}
use Rattle.cycle.proofs.Selections.{place_found}
use Rattle.text.specs.Decimal.{decimal}
use Rattle.paging.specs.Paging.{Paged, page_refusal, page_of}
use Rattle.paging.proofs.PageCalls.{page_accepted}
use Rattle.claims.specs.Accepted.{AcceptedImage, NoneAbove3, AcceptedRecord}
use Rattle.claims.specs.Refused.{page, FirstAbove3, BadImage, Refused, bad_image, many_page_cycles, record_byte, record_size, page_size}
use Rattle.claims.specs.NetBytes.{net_of}
use Rattle.claims.specs.Page.{Written, Shape, Heading, NetNumber, Sign, pages, line_at, byte_at}
use Rattle.claims.proofs.Promised.{promised}
use Rattle.codes.specs.Codes.{page_code}

-- below or not
split : (i n : ℕ) → (i < n) ⊎ (n ≤ i)
split i n = by (ltb i n) refl
  where
    by : (b : Bool) → ltb i n ≡ b → (i < n) ⊎ (n ≤ i)
    by true e = inl (ltb-true i n e)
    by false e = inr (ltb-false i n e)

-- all that is promised of a text of pages
pub record Promises (s : List ℕ) (k : ℕ) (outputs text : List ℕ) : Type 0 where
  pub shape : Shape s k outputs text
  pub heading : (p : ℕ) → p < pages k → Heading s k outputs text p
  pub net_number : (p i : ℕ) → p < pages k → i < (sizes_of s).nets → (net_of s i).kind ≡ 8 → NetNumber s k outputs text p i
  pub sign : (c j : ℕ) → c < pages k * 64 → j < (sizes_of s).outputs → Sign s k outputs text c j

written : (s : List ℕ) (k : ℕ) (outputs buf : List ℕ) → Written s k outputs buf → Promises s k outputs (page_of s k outputs buf).page
written s k outputs buf w =
    record {
      shape = promised.page_shape s k outputs buf w;
      heading = promised.page_heading s k outputs buf w;
      net_number = promised.page_net s k outputs buf w;
      sign = promised.page_sign s k outputs buf w;
    }

-- TWO TEXTS of which all of it holds are equal, place by place
module _ (s : List ℕ) (k : ℕ) (outputs : List ℕ) (a : AcceptedImage s) (r : AcceptedRecord s k outputs)
    {x y : List ℕ} (f : Promises s k outputs x) (g : Promises s k outputs y) where
  abbrev o : ℕ
  o = (sizes_of s).outputs

  in_heading : (p i : ℕ) → p < pages k → i < 70 → get_or x ((p * (1 + o) + 0) * 71 + i) 0 ≡ get_or y ((p * (1 + o) + 0) * 71 + i) 0
  in_heading p i h l =
      let u = f.heading p h in
      let v = g.heading p h in
      ⊎_elim (λ m. u.word i m ∙ sym (v.word i m))
      (λ m. ⊎_elim
      (λ n. let e : i ≡ 5 = omega arith in rw e (u.column_6 ∙ sym v.column_6))
      (λ n.
      let e : i ≡ 6 + (i - 6) = omega arith in
      rw e
      (⊎_elim (λ d. u.number (i - 6) d ∙ sym (v.number (i - 6) d)) (λ d. u.blank (i - 6) d (omega arith) ∙ sym (v.blank (i - 6) d (omega arith))) (split (i - 6) (length (decimal (64 * p))))))
      (split i 6))
      (split i 5)

  -- in the line of output j: its net number
  in_label : (p j i : ℕ) → p < pages k → j < o → i < 6 → get_or x ((p * (1 + o) + (1 + j)) * 71 + i) 0 ≡ get_or y ((p * (1 + o) + (1 + j)) * 71 + i) 0
  in_label p j i h l m =
      let w = place_found 8 (nets_of s) (net 0 0 0 0) j (omega (arith, a.counts.outputs)) in
      let below : w.net < (sizes_of s).nets = omega (arith, w.below, (promised.image_read s).all) in
      let n = length (decimal w.net) in
      let u = f.net_number p w.net h below w.kind in
      let v = g.net_number p w.net h below w.kind in
      ⊎_elim
      (λ q. ⊎_elim
      (λ d. rw w.place at (u.blank i d ∙ sym (v.blank i d)))
      (λ d.
      let e : i ≡ 5 - n + (i - (5 - n)) = omega arith in
      let inside : i - (5 - n) < n = omega (arith, u.few) in
      rw e (rw w.place at (u.number (i - (5 - n)) inside ∙ sym (v.number (i - (5 - n)) inside))))
      (split i (5 - n)))
      (λ q. let e : i ≡ 5 = omega arith in rw e (rw w.place at (u.column_6 ∙ sym v.column_6)))
      (split i 5)

  -- and its signs
  same_sign : (c j : ℕ) → c < pages k * 64 → j < o
      → get_or x (line_at s k outputs x (c / 64) (1 + j) + (6 + c % 64)) 0 ≡ get_or y (line_at s k outputs y (c / 64) (1 + j) + (6 + c % 64)) 0
  same_sign c j h l = ⊎_elim (λ m. by (byte_at s k outputs x c j) refl (small m) m) (λ m. (f.sign c j h l).unused m ∙ sym ((g.sign c j h l).unused m)) (split c k)
    where
      small : c < k → byte_at s k outputs x c j ≤ 3
      small m =
          let e : (c + 1) * o ≤ k * o = mul-le-mul (omega arith) (omega arith) in
          r.codes (c * o + j) (omega (arith, r.size, add-mul c 1 o, one-mul o))

      by : (b : ℕ) → byte_at s k outputs x c j ≡ b → byte_at s k outputs x c j ≤ 3 → c < k
          → get_or x (line_at s k outputs x (c / 64) (1 + j) + (6 + c % 64)) 0 ≡ get_or y (line_at s k outputs y (c / 64) (1 + j) + (6 + c % 64)) 0
      by zero e q m = (f.sign c j h l).trusted_0 m e ∙ sym ((g.sign c j h l).trusted_0 m e)
      by (suc zero) e q m = (f.sign c j h l).trusted_1 m e ∙ sym ((g.sign c j h l).trusted_1 m e)
      by (suc (suc zero)) e q m = (f.sign c j h l).untrusted_0 m e ∙ sym ((g.sign c j h l).untrusted_0 m e)
      by (suc (suc (suc zero))) e q m = (f.sign c j h l).untrusted_1 m e ∙ sym ((g.sign c j h l).untrusted_1 m e)
      by (suc (suc (suc (suc b)))) e q m = absurd (omega arith)

  in_signs : (p j i : ℕ) → p < pages k → j < o → i < 64 → get_or x ((p * (1 + o) + (1 + j)) * 71 + (6 + i)) 0 ≡ get_or y ((p * (1 + o) + (1 + j)) * 71 + (6 + i)) 0
  in_signs p j i h l m =
      let page : (64 * p + i) / 64 ≡ p = omega arith in
      let column : (64 * p + i) % 64 ≡ i = omega arith in
      rw (page, column) at (same_sign (64 * p + i) j (omega arith) l)

  in_line : (p l i : ℕ) → p < pages k → l ≤ o → i < 71 → get_or x ((p * (1 + o) + l) * 71 + i) 0 ≡ get_or y ((p * (1 + o) + l) * 71 + i) 0
  in_line p l i h m n = ⊎_elim (λ q. before l m q) (λ q. let e : i ≡ 70 = omega arith in rw e (f.shape.newline p l h m ∙ sym (g.shape.newline p l h m))) (split i 70)
    where
      before : (l : ℕ) → l ≤ o → i < 70 → get_or x ((p * (1 + o) + l) * 71 + i) 0 ≡ get_or y ((p * (1 + o) + l) * 71 + i) 0
      before zero m q = in_heading p i h q
      before (suc j) m q =
          let line : suc j ≡ 1 + j = omega arith in
          rw line
          (⊎_elim (λ d. in_label p j i h (omega arith) d)
          (λ d. let e : i ≡ 6 + (i - 6) = omega arith in rw e (in_signs p j (i - 6) h (omega arith) (omega arith)))
          (split i 6))

  -- the place of a character, by page, line and column
  placed : (q : ℕ) → q < length x → get_or x q 0 ≡ get_or y q 0
  placed q h =
      let n = (1 + o) * 71 in
      let p = q / n in
      let rest = q % n in
      let size : q < pages k * n = omega (arith, f.shape.size, mul_assoc (pages k) (1 + o) 71) in
      let page : p < pages k = (div-lt_iff_lt-mul {k = n} (omega arith)).1 size in
      let in-page : rest < n = mod-lt q (omega arith) in
      let line : rest / 71 ≤ o = omega arith in
      let e : (p * (1 + o) + rest / 71) * 71 + rest % 71 ≡ q = omega (arith, div-add-mod' q n, mul_assoc p (1 + o) 71) in
      rw e at (in_line p (rest / 71) (rest % 71) page line (omega arith))

  pub one_text : x ≡ y
  one_text = ext_get_or 0 x y (f.shape.size ∙ sym g.shape.size) placed

-- WHAT THE CALL WRITES is that text, where image, record and buffer are as they should be
accepted : (s : List ℕ) (k : ℕ) (outputs buf : List ℕ) → AcceptedImage s → k ≤ 4096 → NoneAbove3 outputs → length outputs ≡ k * (sizes_of s).outputs
    → length buf ≡ (k + 63) / 64 * ((1 + (sizes_of s).outputs) * 71) → Written s k outputs buf
accepted s k outputs buf a h c l m =
    let w : page_refusal s k outputs buf ≡ none = (promised.when_accepted.page s k outputs buf).1 (a, h, record { codes = c; size = l }, m) in
    rw (page_accepted s k outputs buf w)

pub held_page : (s : List ℕ) (k : ℕ) (outputs buf text : List ℕ) → AcceptedImage s → k ≤ 4096 → NoneAbove3 outputs → length outputs ≡ k * (sizes_of s).outputs
    → length buf ≡ (k + 63) / 64 * ((1 + (sizes_of s).outputs) * 71) → Promises s k outputs text
    → ((page_of s k outputs buf).refusal ≡ none) × ((page_of s k outputs buf).page ≡ text)
held_page s k outputs buf text a h c l m t =
    let w = accepted s k outputs buf a h c l m in
    (w, one_text s k outputs a (record { codes = c; size = l }) (written s k outputs buf w) t)

-- no cycle gives no page
pub held_none : (s : List ℕ) → AcceptedImage s → page_of s 0 [] [] ≡ record { refusal = none; page = [] }
held_none s a =
    let w = accepted s 0 [] [] a (omega arith) (λ i h. absurd (omega arith)) (omega (arith, zero-mul (sizes_of s).outputs)) (omega (arith, zero-mul ((1 + (sizes_of s).outputs) * 71))) in
    let size : length (page_of s 0 [] []).page ≡ 0 = (promised.page_shape s 0 [] [] w).size ∙ omega (arith, zero-mul (1 + (sizes_of s).outputs)) in
    rw (w, empty (page_of s 0 [] []).page size)
  where
    empty : (xs : List ℕ) → length xs ≡ 0 → xs ≡ []
    empty [] h = refl
    empty (x ∷ xs) h = absurd (omega arith)

-- the pages hold all cycles, and no line has a newline within it
pub held_lines : (s : List ℕ) (k : ℕ) (outputs buf : List ℕ) → Written s k outputs buf
    → (k ≤ pages k * 64) × (pages k * 64 < k + 64)
    × ((p l i : ℕ) → p < pages k → l ≤ (sizes_of s).outputs → i < 70 → get_or (page_of s k outputs buf).page (line_at s k outputs (page_of s k outputs buf).page p l + i) 0 ≡ 10 → ⊥)
held_lines s k outputs buf w =
    let t = promised.page_shape s k outputs buf w in
    (t.all, t.no_more, λ p l i h m n e. let c = t.printed p l i h m n in omega arith)

-- the examples, each with its text
pub held_examples : ((page_of counter 4 (0 ∷ 3 ∷ 2 ∷ 0 ∷ []) (replicate 142 9)).refusal ≡ none) × ((page_of crossed 2 (2 ∷ 1 ∷ 0 ∷ 3 ∷ []) (replicate 213 9)).refusal ≡ none)
    × ((page_of crossed 65 (replicate 128 1 ++ 2 ∷ 3 ∷ []) (replicate 426 9)).refusal ≡ none) × ((page_of one_input 65 [] (replicate 142 9)).refusal ≡ none)
    × ((page_of counter 0 [] []).page ≡ []) × ((page_of counter 1 (0 ∷ 4 ∷ []) (9 ∷ [])).page ≡ 9 ∷ [])
held_examples =
    let e = promised.page_examples in
    (ap (λ (p : Paged). p.refusal) e.counter_page, ap (λ (p : Paged). p.refusal) e.two_outputs, ap (λ (p : Paged). p.refusal) e.two_pages, ap (λ (p : Paged). p.refusal) e.no_outputs, ap (λ (p : Paged). p.page) e.no_cycles, ap (λ (p : Paged). p.page) e.bad_byte_lem)

-- REFUSALS, each with all that may apply beside it: the number and place, the number for C, and the buffer as it was
pub record Drawn (s : List ℕ) (k : ℕ) (outputs buf : List ℕ) (number place : ℕ) : Type 0 where
  pub refused : (page_of s k outputs buf).refusal ≡ some (refusal number place)
  pub code : place < 4294967296 → page_code (page_of s k outputs buf).refusal ≡ number * 4294967296 + place
  pub kept : (page_of s k outputs buf).page ≡ buf

drawn : {s : List ℕ} {k : ℕ} {outputs buf : List ℕ} {number place : ℕ} → Refused s (page k outputs buf) number place → Drawn s k outputs buf number place
drawn {s} {k} {outputs} {buf} {number} {place} h =
    let e = (promised.refusals s (page k outputs buf) (refusal number place)).1 h in
    record {
      refused = e;
      code = λ l. let low : min place 4294967295 ≡ place = min-eq_left (omega arith) in rw (e, low);
      kept = promised.unchanged.page s k outputs buf (refusal number place) e;
    }

-- the image comes first, then K; a bad byte draws 13 whatever the record's length and the buffer; then come the record's length and the buffer's
pub held_order : (s : List ℕ) (k : ℕ) (outputs buf : List ℕ)
    → ((number place : ℕ) → BadImage s number place → Drawn s k outputs buf number place)
    × (AcceptedImage s → 4096 < k → Drawn s k outputs buf 9 0)
    × ((i : ℕ) → AcceptedImage s → k ≤ 4096 → FirstAbove3 outputs i → Drawn s k outputs buf 13 i)
    × (AcceptedImage s → k ≤ 4096 → NoneAbove3 outputs → (length outputs ≡ k * (sizes_of s).outputs → ⊥) → Drawn s k outputs buf 14 0)
    × (AcceptedImage s → k ≤ 4096 → NoneAbove3 outputs → length outputs ≡ k * (sizes_of s).outputs → (length buf ≡ (k + 63) / 64 * ((1 + (sizes_of s).outputs) * 71) → ⊥) → Drawn s k outputs buf 19 0)
held_order s k outputs buf = (
  λ number place b. drawn (bad_image b),
  λ a l. drawn (many_page_cycles a l),
  λ i a l w. drawn (record_byte a l w),
  λ a l c h. drawn (record_size a l c h),
  λ a l c m h. drawn (page_size a l (record { codes = c; size = m }) h),
)

-- the number of pages that are written is 0
pub held_done : (s : List ℕ) (k : ℕ) (outputs buf : List ℕ) → Written s k outputs buf → page_code (page_of s k outputs buf).refusal ≡ 0
held_done s k outputs buf w = rw w
