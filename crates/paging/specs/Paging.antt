-- A page for the folder (document 02, L6): the call that writes the pages of a run's outputs. Which text a page is stands in crates/page_text/specs/Pages.antt.
use Rattle.std.specs.Prelude.{ℕ, ◌*◌, List, ltb}
use Rattle.std.proofs.Math.Option.{Option, none, some}
use Rattle.image.specs.Image.{sizes_of}
use Rattle.refusals.specs.declared.answer.Refusal.{Refusal}
use Rattle.refusals.specs.Refusals.{refuse, ◌then◌, plain_bytes, bad_byte, bad_length}
use Rattle.checking.specs.Check.{check_refusal}
use Rattle.page_text.specs.Pages.{outs_of, pages_text, page_count, pages_length}

-- the pages of k cycles from cycle 0 on, by the outputs' bytes, cycle after cycle and each cycle in output order
unfoldable pub pages_of : (s : List ℕ) (k : ℕ) (outputs : List ℕ) → List ℕ
pages_of s k outputs = pages_text (page_count k) 0 k (outs_of s) outputs

-- 1 to 8, 9, 13, 14 and 19
unfoldable pub page_refusal : (s : List ℕ) (k : ℕ) (outputs page : List ℕ) → Option Refusal
page_refusal s k outputs page =
    check_refusal s
    then refuse (ltb 4096 k) 9 0
    then bad_byte plain_bytes.bad 13 0 outputs
    then bad_length 14 (k * (sizes_of s).outputs) outputs
    then bad_length 19 (pages_length k (sizes_of s).outputs) page

-- what the call gives: the refusal, or none, and the lent page buffer
pub record Paged : Type 0 where
  pub refusal : Option Refusal
  pub page : List ℕ

-- the call on the image s
unfoldable pub page_of : (s : List ℕ) (k : ℕ) (outputs page : List ℕ) → Paged
page_of s k outputs page =
    elim (page_refusal s k outputs page) [
      | none ↦ record { refusal = none; page = pages_of s k outputs }
      | some r ↦ record { refusal = some r; page = page }
    ]
