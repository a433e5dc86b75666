-- Where codes stand among the six, and a table's rule at each of its places, by one test that is computed over the whole table.
use Prim.Native.Nat.{ℕ, ◌+◌, ◌*◌, ◌/◌, ◌%◌, ◌<◌}
use native.Mathlib.Omega.{arith}
use mathlib.Core.Path.{◌≡◌, refl, sym}
use mathlib.Core.List.{List}
use mathlib.Core.Bool.{Bool, true, false, ◌||◌, cond, false≢true}
use lib.Dec.{T, eqb, eqb→eq, lit<}
use lib.ListN.{length, get_or}
use borrow.Author.Tests.{eqb-true, ne_eqb}
use Rattle.gates.specs.Kinds.{MUX}
use Rattle.gates.proofs.Entries.{every, entry}
use Rattle.unknowns.specs.Filling.{static_byte}
use Rattle.unknowns.specs.Tables.{place, MuxTable, PairTable}
use Rattle.unknowns.proofs.SixCodes.{IsCode, a_byte, unknown, untrusted, is_code_lem, all6, each6}

-- the code at a place
abbrev pub code_at : ℕ → ℕ
code_at p = cond (eqb p 5) 6 p

pub placed : {x : ℕ} → IsCode x → code_at (place x) ≡ x
placed {x} (a_byte h) = rw (ne_eqb x 6 (λ e. omega arith), ne_eqb x 5 (λ e. omega arith))
placed unknown = refl
placed untrusted = refl

pub place_small : {x : ℕ} → IsCode x → place x < 6
place_small {x} (a_byte h) = rw (ne_eqb x 6 (λ e. omega arith)) (omega arith)
place_small unknown = lit< tt
place_small untrusted = lit< tt

-- MUX: the code x at place p is right
unfoldable pub right_mux : (p x : ℕ) → Bool
right_mux p x = eqb x (static_byte MUX (code_at (p / 36)) (code_at (p / 6 % 6)) (code_at (p % 6)))

pub mux_table : (t : List ℕ) → T (every right_mux 0 t) → length t ≡ 216 → MuxTable t
unfolding right_mux
mux_table t test size =
    record {
      code = λ a b c ha hb hc.
          let i = is_code_lem a ha in
          let j = is_code_lem b hb in
          let l = is_code_lem c hc in
          let la = place_small i in
          let lb = place_small j in
          let lc = place_small l in
          let p = (place a * 6 + place b) * 6 + place c in
          let ea : p / 36 ≡ place a = omega arith in
          let eb : p / 6 % 6 ≡ place b = omega arith in
          let ec : p % 6 ≡ place c = omega arith in
          rw (ea, eb, ec, placed i, placed j, placed l) at (eqb→eq (get_or t p 0) _ (entry right_mux t test p (omega arith)));
    }

-- the other kinds: the code is right whatever the code of pin c
is_true : (b : Bool) → T b → b ≡ true
is_true true h = refl
is_true false h = absurd h

or_T : (p q : Bool) → p ≡ false → T (p || q) → T q
or_T false q h t = t
or_T true q h t = absurd (false≢true (sym h))

unfoldable pub right_pair : (p x : ℕ) → Bool
right_pair p x = eqb (p / 36) MUX || all6 (λ c. eqb x (static_byte (p / 36) (code_at (p / 6 % 6)) (code_at (p % 6)) c))

pub pair_table : (t : List ℕ) → T (every right_pair 0 t) → length t ≡ 324 → PairTable t
unfolding right_pair
pair_table t test size =
    record {
      code = λ kind a b c h other ha hb hc.
          let la = place_small (is_code_lem a ha) in
          let lb = place_small (is_code_lem b hb) in
          let p = (kind * 6 + place a) * 6 + place b in
          let ek : p / 36 ≡ kind = omega arith in
          let ea : p / 6 % 6 ≡ place a = omega arith in
          let eb : p % 6 ≡ place b = omega arith in
          let u = rw (ek, ea, eb, placed (is_code_lem a ha), placed (is_code_lem b hb)) at (entry right_pair t test p (omega arith)) in
          eqb-true (get_or t p 0) _ (each6 (λ c. eqb (get_or t p 0) (static_byte kind a b c)) (is_true _ (or_T (eqb kind MUX) _ (ne_eqb kind MUX other) u)) (is_code_lem c hc));
    }
