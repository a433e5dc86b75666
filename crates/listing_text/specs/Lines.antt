-- The lines of the listing program, in ASCII.
use Rattle.std.specs.Prelude.{ℕ, ◌+◌, ◌%◌, List, [], ◌∷◌, ◌++◌, map}
use Rattle.refusals.specs.declared.answer.Refusal.{Refusal}
use Rattle.cycle.specs.Cycle.{Verdict, clear, flow}
use Rattle.text.specs.Ascii.{ascii, space, newline}
use Rattle.text.specs.Decimal.{decimal, numbered}

-- a dash, and the words of the lines
abbrev pub dash : List ℕ
dash = ascii "-"

abbrev pub clear_word : List ℕ
clear_word = ascii "clear"

abbrev pub flow_word : List ℕ
flow_word = ascii "flow"

abbrev pub end_word : List ℕ
end_word = ascii "end"

abbrev pub refused_word : List ℕ
refused_word = ascii "refused"

-- the digit of an OUT's byte: a byte of a net is 0 to 3, and of any other byte this is the last digit
abbrev pub digit : ℕ → ℕ
digit b = 48 + b % 10

-- O digits, each OUT's byte, or - if O is 0
unfoldable pub output_digits : List ℕ → List ℕ
output_digits [] = dash
output_digits (b ∷ bs) = map digit (b ∷ bs)

-- clear, or flow with the net
abbrev pub verdict_text : Verdict → List ℕ
verdict_text clear = clear_word
verdict_text (flow net) = numbered flow_word net

-- a line has the cycle from 0, the outputs, and the verdict; one space between
unfoldable pub cycle_line : (cycle : ℕ) (outputs : List ℕ) → Verdict → List ℕ
cycle_line cycle outputs v = decimal cycle ++ space ++ output_digits outputs ++ space ++ verdict_text v ++ newline

-- at the end: end and the count of cycles
unfoldable pub end_line : (cycles : ℕ) → List ℕ
end_line cycles = numbered end_word cycles ++ newline

-- a refusal prints refused, number, place
unfoldable pub refused_line : Refusal → List ℕ
refused_line r = numbered refused_word r.number ++ (space ++ decimal r.place) ++ newline
