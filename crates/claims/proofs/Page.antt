-- The pages of an accepted call, character by character.
use Prim.Native.Nat.{ℕ, zero, suc, ◌+◌, ◌-◌, ◌*◌, ◌/◌, ◌%◌, ◌≤◌, ◌<◌, min}
use native.Mathlib.Omega.{arith}
use native.Mathlib.Nat.{add-mul, mul_assoc, min-le_left, min-le_right, le-min, zero-add}
use mathlib.Core.Path.{◌≡◌, ap, sym, ◌∙◌}
use mathlib.Core.List.{List}
use mathlib.Core.Option.{none}
use lib.ListN.{length, get_or, drop}
use lib.Seq.{get_or-drop}
use Rattle.gates.specs.Rules.{value, mark}
use Rattle.image.specs.Image.{sizes_of, net, nets_of}
use Rattle.image.proofs.Nets.{length_nets}
use Rattle.checking.proofs.Checked.{Checked, check_none}
use Rattle.cycle.proofs.Calls.{either_way}
use Rattle.cycle.proofs.Selections.{place_below}
use Rattle.text.specs.Decimal.{decimal}
use Rattle.text.proofs.Decimal.{decimal_most}
use Rattle.page_text.specs.Pages.{outs_of, sign, output_bytes, output_line, pages_text, page_count}
use Rattle.page_text.proofs.Pagewise.{pages_length_lem}
use Rattle.page_text.proofs.Places.{page_line, pages_at}
use Rattle.page_text.proofs.Signs.{output_length, output_at}
use Rattle.page_text.proofs.LineChars as chars
use Rattle.paging.specs.Paging.{pages_of, page_refusal, page_of}
use Rattle.paging.proofs.PageCalls.{page_none, page_accepted, page_refused, outs_length, outs_numbers, outs_place}
use Rattle.claims.specs.NetBytes.{net_of, place_of}
use Rattle.claims.specs.Page.{Written, Shape, Heading, NetNumber, Sign, PageShape, PageHeading, PageNet, PageSign, pages, line_at, byte_at}
use Rattle.claims.proofs.Unchanged.{not_some}

-- an accepted call, and what it writes
written : (s : List ℕ) (k : ℕ) (outputs buf : List ℕ) → Written s k outputs buf → page_refusal s k outputs buf ≡ none
written s k outputs buf h =
    either_way (page_refusal s k outputs buf) (λ e. e) (λ r e. absurd (not_some {r = r} (sym h ∙ rw (page_refused s k outputs buf r e))))

-- of the pages of an accepted image
module _ (s : List ℕ) (image : Checked s) (k : ℕ) (outputs : List ℕ) where
  abbrev text : List ℕ
  text = pages_text ((k + 63) / 64) 0 k (outs_of s) outputs

  abbrev o : ℕ
  o = (sizes_of s).outputs

  -- character c of line l of page p
  char : (p l c : ℕ) → p < pages k → l ≤ o → c < 71
      → get_or text (line_at s k outputs text p l + c) 0 ≡ get_or (page_line (64 * p) (min 64 (k - 64 * p)) (outs_of s) (drop (64 * p * o) outputs) l) c 0
  char p l c h m i =
      let e = outs_length image in
      rw (zero-add, e) at (pages_at ((k + 63) / 64) 0 k (outs_of s) outputs p l c (outs_numbers image) h (omega (arith, e)) i)

  -- the bytes of output j on page p, and its line
  abbrev shown : (p j : ℕ) → List ℕ
  shown p j = output_bytes (length (outs_of s)) j (min 64 (k - 64 * p)) (drop (64 * p * o) outputs)

  out_char : (p j c : ℕ) → p < pages k → j < o → c < 71
      → get_or text (line_at s k outputs text p (1 + j) + c) 0 ≡ get_or (output_line (get_or (outs_of s) j 0) (shown p j)) c 0
  out_char p j c h l i = let e : 1 + j ≡ suc j = omega arith in rw e (char p (suc j) c h (omega arith) i)

  shown_length : (p j : ℕ) → length (shown p j) ≡ min 64 (k - 64 * p)
  shown_length p j = output_length (length (outs_of s)) j (min 64 (k - 64 * p)) (drop (64 * p * o) outputs)

  shown_few : (p j : ℕ) → length (shown p j) ≤ 64
  shown_few p j = rw (shown_length p j) (min-le_left 64 (k - 64 * p))

  shape : Shape s k outputs text
  shape =
      record {
        all = omega arith;
        no_more = omega arith;
        size = pages_length_lem ((k + 63) / 64) 0 k (outs_of s) outputs (outs_numbers image) ∙ rw (outs_length image) (sym (mul_assoc ((k + 63) / 64) (1 + o) 71));
        newline = λ p l h m. char p l 70 h m (omega arith) ∙ last p l;
        printed = λ p l i h m n. rw (char p l i h m (omega arith)) (above p l i n);
      }
    where
      last : (p l : ℕ) → get_or (page_line (64 * p) (min 64 (k - 64 * p)) (outs_of s) (drop (64 * p * o) outputs) l) 70 0 ≡ 10
      last p zero = chars.heading_newline (64 * p)
      last p (suc j) = chars.out_newline (get_or (outs_of s) j 0) (shown p j) (outs_numbers image j) (shown_few p j)

      above : (p l i : ℕ) → i < 70 → 32 ≤ get_or (page_line (64 * p) (min 64 (k - 64 * p)) (outs_of s) (drop (64 * p * o) outputs) l) i 0
      above p zero i h = chars.heading_printed (64 * p) i h
      above p (suc j) i h = chars.out_printed (get_or (outs_of s) j 0) (shown p j) (outs_numbers image j) (shown_few p j) i h

  heading : (p : ℕ) → p < pages k → Heading s k outputs text p
  heading p h =
      record {
        word = λ i l. char p 0 i h (omega arith) (omega arith) ∙ chars.heading_word (64 * p) i l;
        column_6 = char p 0 5 h (omega arith) (omega arith) ∙ chars.heading_6 (64 * p);
        number = λ i l. char p 0 (6 + i) h (omega arith) (omega (arith, decimal_most (64 * p))) ∙ chars.heading_number (64 * p) i l;
        blank = λ i l m. char p 0 (6 + i) h (omega arith) (omega arith) ∙ chars.heading_blank (64 * p) i l m;
      }

  net_number : (p i : ℕ) → p < pages k → i < (sizes_of s).nets → (net_of s i).kind ≡ 8 → NetNumber s k outputs text p i
  net_number p i h l e =
      let j = place_of 8 s i in
      let there : i < length (nets_of s) = omega (arith, length_nets s) in
      let below : j < o = omega (arith, place_below 8 (nets_of s) i (net 0 0 0 0) there e, image.outputs) in
      let is : get_or (outs_of s) j 0 ≡ i = outs_place s i (net 0 0 0 0) there e in
      let few : i < 100000 = rw is at (outs_numbers image j) in
      let b = shown p j in
      let five = chars.five i b few (shown_few p j) in
      record {
        few = five;
        blank = λ c m. out_char p j c h below (omega arith) ∙ rw is (chars.out_blank i b few (shown_few p j) c m);
        number = λ c m. out_char p j (5 - length (decimal i) + c) h below (omega arith) ∙ rw is (chars.out_number i b few (shown_few p j) c m);
        column_6 = out_char p j 5 h below (omega arith) ∙ rw is (chars.out_6 i b few (shown_few p j));
      }

  -- the sign of output j in cycle c, and blanks behind the last cycle
  module _ (c j : ℕ) (h : c < pages k * 64) (l : j < o) where
    abbrev p : ℕ
    p = c / 64

    abbrev at : ℕ
    at = get_or text (line_at s k outputs text p (1 + j) + (6 + c % 64)) 0

    line : at ≡ get_or (output_line (get_or (outs_of s) j 0) (shown p j)) (6 + c % 64) 0
    line = out_char p j (6 + c % 64) (omega arith) l (omega arith)

    -- the byte of the record
    byte : get_or (drop (64 * p * o) outputs) (c % 64 * o + j) 0 ≡ byte_at s k outputs text c j
    byte =
        let e : 64 * p * o + (c % 64 * o + j) ≡ c * o + j = omega (arith, add-mul (64 * p) (c % 64) o, ap (λ m. m * o) whole) in
        get_or-drop (64 * p * o) outputs (c % 64 * o + j) 0 ∙ ap (λ m. get_or outputs m 0) e
      where
        whole : 64 * p + c % 64 ≡ c
        whole = omega arith

    signed : c < k → at ≡ sign (byte_at s k outputs text c j)
    signed m =
        let here : c % 64 < min 64 (k - 64 * p) = le-min (omega arith) (omega arith) in
        line
        ∙ chars.out_sign (get_or (outs_of s) j 0) (shown p j) (outs_numbers image j) (shown_few p j) (c % 64) (rw (shown_length p j) here)
        ∙ ap sign (output_at (length (outs_of s)) j (min 64 (k - 64 * p)) (drop (64 * p * o) outputs) (c % 64) here ∙ rw (outs_length image) byte)

    unused : k ≤ c → at ≡ 32
    unused m =
        let none : min 64 (k - 64 * p) ≤ c % 64 = omega (arith, min-le_right 64 (k - 64 * p)) in
        line ∙ chars.out_unused (get_or (outs_of s) j 0) (shown p j) (outs_numbers image j) (shown_few p j) (c % 64) (rw (shown_length p j) none) (omega arith)

    signs : Sign s k outputs text c j
    unfolding sign value mark
    signs =
        record {
          trusted_0 = λ m e. signed m ∙ rw e;
          trusted_1 = λ m e. signed m ∙ rw e;
          untrusted_0 = λ m e. signed m ∙ rw e;
          untrusted_1 = λ m e. signed m ∙ rw e;
          unused = unused;
        }

-- what is said of the pages is said of what the call leaves
module _ (s : List ℕ) (k : ℕ) (outputs buf : List ℕ) (w : Written s k outputs buf) where
  image_of : Checked s
  image_of = (check_none s).0 ((page_none s k outputs buf).0 (written s k outputs buf w)).0

  page_is : (page_of s k outputs buf).page ≡ pages_text ((k + 63) / 64) 0 k (outs_of s) outputs
  unfolding pages_of page_count
  page_is = rw (page_accepted s k outputs buf (written s k outputs buf w))

pub page_shape : PageShape
page_shape s k outputs buf w = rw (page_is s k outputs buf w) (shape s (image_of s k outputs buf w) k outputs)

pub page_heading : PageHeading
page_heading s k outputs buf w p h = rw (page_is s k outputs buf w) (heading s (image_of s k outputs buf w) k outputs p h)

pub page_net : PageNet
page_net s k outputs buf w p i h l e = rw (page_is s k outputs buf w) (net_number s (image_of s k outputs buf w) k outputs p i h l e)

pub page_sign : PageSign
page_sign s k outputs buf w c j h l = rw (page_is s k outputs buf w) (signs s (image_of s k outputs buf w) k outputs c j h l)
