-- How long the lines are.
use Prim.Native.Nat.{ℕ, ◌+◌, ◌≤◌}
use native.Mathlib.Omega.{arith}
use mathlib.Core.Path.{◌≡◌}
use mathlib.Core.List.{List, [], ◌∷◌, ◌++◌}
use lib.ListN.{length, length-append, length-map}
use Rattle.refusals.specs.declared.answer.Refusal.{Refusal}
use Rattle.cycle.specs.Cycle.{Verdict, clear, flow}
use Rattle.text.specs.Ascii.{space, newline}
use Rattle.text.specs.Decimal.{decimal, numbered}
use Rattle.text.proofs.Decimal.{decimal_most}
use Rattle.listing_text.specs.Lines.{end_word, refused_word, digit, output_digits, verdict_text, cycle_line, end_line, refused_line}

-- a byte for each output, and one where there is none
outputs_within : (n : ℕ) (xs : List ℕ) → 1 ≤ n → length xs ≤ n → length (output_digits xs) ≤ n
unfolding output_digits
outputs_within n [] l h = omega arith
outputs_within n (x ∷ xs) l h = omega (arith, length-map xs digit)

pub outputs_most : (xs : List ℕ) → length (output_digits xs) ≤ length xs + 1
outputs_most xs = outputs_within (length xs + 1) xs (omega arith) (omega arith)

pub verdict_most : (v : Verdict) → length (verdict_text v) ≤ 25
verdict_most clear = omega arith
verdict_most (flow net) = omega (arith, decimal_most net)

pub cycle_length : (cycle : ℕ) (outputs : List ℕ) (v : Verdict)
    → length (decimal cycle) + length (output_digits outputs) + length (verdict_text v) + 3 ≡ length (cycle_line cycle outputs v)
unfolding cycle_line
cycle_length cycle outputs v =
    let number = decimal cycle in
    let digits = output_digits outputs in
    let verdict = verdict_text v in
    omega (
      arith,
      length-append number space,
      length-append (number ++ space) digits,
      length-append (number ++ space ++ digits) space,
      length-append (number ++ space ++ digits ++ space) verdict,
      length-append (number ++ space ++ digits ++ space ++ verdict) newline,
    )

-- of at most 8,192 outputs
pub cycle_most : (cycle : ℕ) (outputs : List ℕ) (v : Verdict) → length outputs ≤ 8192 → length (cycle_line cycle outputs v) ≤ 8240
cycle_most cycle outputs v h =
    omega (arith, cycle_length cycle outputs v, decimal_most cycle, outputs_within 8192 outputs (omega arith) h, verdict_most v)

pub end_length : (cycles : ℕ) → length (decimal cycles) + 5 ≡ length (end_line cycles)
unfolding end_line
end_length cycles = omega (arith, length-append (numbered end_word cycles) newline)

pub refused_length : (r : Refusal) → length (decimal r.number) + length (decimal r.place) + 10 ≡ length (refused_line r)
unfolding refused_line
refused_length r =
    let word = numbered refused_word r.number in
    let place = (space ++ decimal r.place) in
    omega (arith, length-append word place, length-append (word ++ place) newline)
