-- Terms of the contract of power-up's pass over the registers. No public call's contract uses them.
use Rattle.std.specs.Prelude.{ℕ, List, cond, eqb}
use Rattle.image.specs.declared.image.Net.{Net}
use Rattle.cycle.specs.Cycle.{registers}
use Rattle.cycle.specs.Calls.{start}

-- the byte that a register powers up with, where one without a start wakes with `wake`
unfoldable pub start_by : (wake b : ℕ) → ℕ
start_by wake b = cond (eqb b 2) wake (start b)

unfoldable pub starts_by : (wake : ℕ) → List Net → List ℕ
starts_by wake xs = registers (λ x. start_by wake x.b) xs
