-- Pages as the text that a reader sees: what the call leaves, computed.
use Rattle.std.specs.Prelude.{ℕ, ◌≡◌, List, [], ◌∷◌, ◌++◌, replicate}
use Rattle.std.proofs.Math.Option.{none, some}
use Rattle.image.specs.Examples.{counter, crossed, one_input}
use Rattle.refusals.specs.Refusals.{refusal}
use Rattle.text.specs.Ascii.{ascii}
use Rattle.paging.specs.Paging.{Paged, page_of}

-- accepted, with this text in the page buffer
abbrev pub wrote : List ℕ → Paged
wrote text = record { refusal = none; page = text }

-- proved as `page_examples`
pub record PageExamples : Type 0 where
  -- the counter's four cycles, with outputs 0, 3, 2, 0: document 02's signs
  pub counter_page : page_of counter 4 (0 ∷ 3 ∷ 2 ∷ 0 ∷ []) (replicate 142 9)
      ≡ wrote (ascii "cycle 0                                                               \n"
      ++ ascii "    5 0hl0                                                            \n")
  -- two cycles of two outputs, nets 2 and 3: the record has cycle after cycle, and a line one output
  pub two_outputs : page_of crossed 2 (2 ∷ 1 ∷ 0 ∷ 3 ∷ []) (replicate 213 9)
      ≡ wrote (ascii "cycle 0                                                               \n"
      ++ ascii "    2 l0                                                              \n"
      ++ ascii "    3 1h                                                              \n")
  -- 65 cycles: the last one has a page of its own, with the number of its first cycle
  pub two_pages : page_of crossed 65 (replicate 128 1 ++ 2 ∷ 3 ∷ []) (replicate 426 9)
      ≡ wrote (ascii "cycle 0                                                               \n"
      ++ ascii "    2 1111111111111111111111111111111111111111111111111111111111111111\n"
      ++ ascii "    3 1111111111111111111111111111111111111111111111111111111111111111\n"
      ++ ascii "cycle 64                                                              \n"
      ++ ascii "    2 l                                                               \n"
      ++ ascii "    3 h                                                               \n")
  -- without outputs there are headings alone, and without cycles no page
  pub no_outputs : page_of one_input 65 [] (replicate 142 9)
      ≡ wrote (ascii "cycle 0                                                               \n"
      ++ ascii "cycle 64                                                              \n")
  pub no_cycles : page_of counter 0 [] [] ≡ wrote []
  -- a byte above 3 draws 13, though the record is too long as well, and the buffer stays
  pub bad_byte_lem : page_of counter 1 (0 ∷ 4 ∷ []) (9 ∷ []) ≡ record { refusal = some (refusal 13 1); page = 9 ∷ [] }
