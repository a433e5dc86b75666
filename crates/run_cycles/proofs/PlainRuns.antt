-- A plain run goes by the table of width 4: what it takes where it is not refused, and what its cycles then are.
use Prim.Native.Nat.{ℕ, ◌*◌, ◌≤◌}
use native.Mathlib.Omega.{arith}
use mathlib.Core.Path.{◌≡◌, refl, sym, ap, ◌∙◌}
use mathlib.Core.List.{List}
use mathlib.Core.Bool.{true}
use mathlib.Core.Option.{none}
use lib.ListN.{length}
use borrow.Author.Tests.{lt-ltb}
use Rattle.unknowns.specs.Widths.{rule_by, code_by}
use Rattle.image.specs.Image.{sizes_of, nets_of}
use Rattle.image.proofs.Pairs.{pairs_imp}
use Rattle.cycle.specs.Cycle.{plain, cycles_of}
use Rattle.cycle.specs.State.{registers_in}
use Rattle.cycle.specs.Calls.{as_run, counting, run_refusal, run_of}
use Rattle.cycle.proofs.Calls.{lent_ready, run_none, run_accepted}
use Rattle.run_cycles.specs.Taking.{rules_by, Takes}
use Rattle.run_cycles.proofs.Cycling.{pairs_coded}
use Rattle.checking.proofs.Checked.{check_none}

plain_code : (x y : ℕ) → x ≤ 3 → code_by 4 x ≡ true
unfolding code_by
plain_code x y h = lt-ltb x 4 (omega arith)

pub plain_taken : (s st : List ℕ) (k : ℕ) (rows outputs : List ℕ) → run_refusal s st k rows outputs ≡ none
    → Takes 4 s (registers_in s st) (k * (sizes_of s).inputs) rows × ((k ≤ 4096) × (length outputs ≡ k * (sizes_of s).outputs))
plain_taken s st k rows outputs h =
    let t = (run_none s st k rows outputs).0 h in
    let r = lent_ready t.0 in (
      record {
        image = (check_none _).1 r.image;
        registers = r.registers.size;
        state = pairs_coded (pairs_imp plain_code r.registers.codes);
        size = r.size;
        codes = pairs_coded (pairs_imp plain_code r.codes);
      },
      (t.1, t.2),
    )

-- the rules of that table are the plain ones
plain_rules : rules_by 4 ≡ plain
unfolding rule_by
plain_rules = refl

pub plain_run : (s st : List ℕ) (k : ℕ) (rows outputs : List ℕ) → run_refusal s st k rows outputs ≡ none
    → let rs = registers_in s st in
    counting (as_run rs (cycles_of (rules_by 4) (nets_of s) (sizes_of s).inputs k rows rs)) ≡ run_of s st k rows outputs
plain_run s st k rows outputs h =
    let rs = registers_in s st in
    ap (λ rules. counting (as_run rs (cycles_of rules (nets_of s) (sizes_of s).inputs k rows rs))) plain_rules ∙ sym (run_accepted s st k rows outputs h)
