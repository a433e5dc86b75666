-- When a call is accepted.
use Prim.Native.Nat.{ℕ, suc, ◌≤◌}
use native.Mathlib.Omega.{arith}
use mathlib.Core.Logic.{◌↔◌}
use mathlib.Core.Path.{◌≡◌, refl, sym, ◌∙◌}
use mathlib.Core.List.{List, [], ◌∷◌, Forall₂}
use mathlib.Core.Option.{none}
use mathlib.Core.Bool.{Bool, true, false, ◌&&◌, ◌||◌, not}
use lib.Dec.{eqb, leb, lit≤}
use lib.ListN.{length, get_or}
use lib.Seq.{length-take-le}
use borrow.Author.Tests.{leb-true, eqb-true, not-true, not-false, le-leb, eq-eqb}
use Rattle.image.specs.declared.image.Net.{Net}
use Rattle.image.specs.Image.{sizes_of, nets_of}
use Rattle.image.proofs.Pairs.{pairs_get_or, pairs_places}
use Rattle.image.proofs.Nets.{length_nets}
use Rattle.refusals.proofs.Refusals.{then_none, refuse_none, neither, not_above, not_from, not_other, not_same, accepted, Codes}
use Rattle.net_checking.specs.NetCheck.{bad_pin, bad_value, bad_unlisted, net_refusal}
use Rattle.checking.specs.Check.{wrong_counts, nets_refusal, check_refusal}
use Rattle.checking.proofs.Checked.{Checked, check_none}
use Rattle.cycle.specs.State.{registers_in}
use Rattle.cycle.proofs.States.{IsState, state_size, right_count, counted_is}
use Rattle.cycle.proofs.Calls.{Lent, power_up_none, step_none, run_none}
use Rattle.figures.proofs.Refusing.{size_none, size_given}
use Rattle.doubling.proofs.Checks.{double_none}
use Rattle.unknowns.specs.Filling.{no_code}
use Rattle.static_run.proofs.StaticRefused.{AnyCode, static_power_up_none, static_none}
use Rattle.page_text.specs.Pages.{page_count, pages_length}
use Rattle.paging.proofs.PageCalls.{page_none}
use Rattle.claims.specs.Accepted as claim
use Rattle.claims.proofs.InTurn.{InTurn, none_drawn, none_given}

-- THE TESTS OF A NET, as the conditions that they leave
no_less : false ≡ true → ⊥
no_less h = let z : ◌≡◌ {A = ℕ} 0 1 = cc in omega arith

pub implies : (a b : Bool) → (a && b ≡ false) ↔ (a ≡ true → b ≡ false)
implies true b = (λ h e. h, λ h. h refl)
implies false b = (λ h e. absurd (no_less e), λ h. refl)

pub both : (a b : Bool) → (a && b ≡ true) ↔ ((a ≡ true) × (b ≡ true))
both true b = (λ h. (refl, h), λ h. h.1)
both false b = (λ h. absurd (no_less h), λ h. h.0)

pub either_one : (a b : Bool) (C : Type 0) → (a || b ≡ true → C) ↔ ((a ≡ true → C) × (b ≡ true → C))
either_one true b C = (λ f. (f, λ e. f refl), λ f. f.0)
either_one false b C = (λ f. (λ e. absurd (no_less e), f), λ f. f.1)

pub is_from : (a b : ℕ) → (leb a b ≡ true) ↔ (a ≤ b)
is_from a b = (leb-true a b, le-leb a b)

pub is_same : (a b : ℕ) → (eqb a b ≡ true) ↔ (a ≡ b)
is_same a b = (eqb-true a b, eq-eqb a b)

pub is_not : (b : Bool) → (not b ≡ true) ↔ (b ≡ false)
is_not b = (not-true b, λ h. rw h)

pub is_so : (b : Bool) → (not b ≡ false) ↔ (b ≡ true)
is_so b = (not-false b, λ h. rw h)

pub ruleset conditions = (neither, implies, both, either_one, is_from, is_same, is_not, is_so, not_above, not_from, not_same)

module _ (n i : ℕ) (x : Net) where
  pub pins : (bad_pin n i x ≡ false) ↔ claim.PinsBelow n i x
  pins = (
    λ h. let t = simp conditions at h in record { reg = t.0.0.0; a = λ l m. t.0.0.1 (l, m); b = λ l m. t.0.1 (l, m); c = t.1 },
    λ p. simp conditions (((p.reg, λ l. p.a l.0 l.1), λ l. p.b l.0 l.1), p.c),
  )

  pub values : (bad_value x ≡ false) ↔ claim.ValuesListed x
  values = (
    λ h. let t = simp conditions at h in record { const = t.0.0; start = t.0.1; policy = t.1 },
    λ v. simp conditions ((v.const, v.start), v.policy),
  )

  pub unlisted : (bad_unlisted x ≡ false) ↔ claim.UnlistedZero x
  unlisted = (
    λ h. let t = simp conditions at h in
        record { input_a = t.0.0; const_b = t.0.1.0.0; input_b = t.0.1.0.1; not_b = t.0.1.1; c = t.1 },
    λ u. simp conditions ((u.input_a, ((u.const_b, u.input_b), u.not_b)), u.c),
  )

  pub net : (net_refusal n i x ≡ none) ↔ claim.AcceptedNet n i x
  unfolding net_refusal
  net = (
    λ h. let t = simp (then_none, refuse_none, not_above) at h in
        record { kind = t.0; pins = pins.0 t.1.0; values = values.0 t.1.1.0; unlisted = unlisted.0 t.1.1.1 },
    λ p. simp (then_none, refuse_none, not_above) (p.kind, (pins.1 p.pins, (values.1 p.values, unlisted.1 p.unlisted))),
  )

-- THE IMAGE
pub in_turn : (n : ℕ) → InTurn (net_refusal n) (nets_refusal n)
unfolding nets_refusal
in_turn n = record { at_end = λ i. refl; next = λ i x xs. refl }

module _ (s : List ℕ) where
  pub nets : (nets_refusal (sizes_of s).nets 0 (nets_of s) ≡ none) ↔ claim.NetsAccepted s (sizes_of s).nets
  nets = let l = length_nets s in (
    λ h j m. (net _ j _).0 (none_drawn _ (in_turn _) (nets_of s) h j (omega arith)),
    λ h. none_given _ (in_turn _) (nets_of s) (λ j m. (net _ j _).1 (h j (omega arith))),
  )

  pub counts : (wrong_counts s ≡ false) ↔ claim.RightCounts s
  counts = (
    λ h. let t = simp (neither, not_other) at h in record { inputs = t.0.0; registers = t.0.1; outputs = t.1 },
    λ c. simp (neither, not_other) ((c.inputs, c.registers), c.outputs),
  )

  pub check : (check_refusal s ≡ none) ↔ claim.AcceptedImage s
  unfolding check_refusal
  check = (
    λ h. let t = simp (accepted, nets) at h in
        let c = t.1.1.1.1 in
        record {
          sized = record { some_nets = omega (arith, t.1.0.0); few_nets = t.1.0.1; exact = t.1.1.0 };
          nets = t.1.1.1.0;
          counts = record { inputs = c.0.0; registers = c.0.1; outputs = c.1 };
        },
    λ a.
        let z = a.sized in
        let c = a.counts in
        simp (accepted, nets)
        (omega (arith, z.exact), (((λ e. omega (arith, z.some_nets)), z.few_nets), (z.exact, (a.nets, ((c.inputs, c.registers), c.outputs))))),
  )

  pub checked : Checked s ↔ claim.AcceptedImage s
  checked = (λ c. check.0 ((check_none s).1 c), λ a. (check_none s).0 (check.1 a))

-- THE LENT BYTES: no byte is above 3, index by index and one after the other
pub each : {xs : List ℕ} → Codes xs → claim.NoneAbove3 xs
each h i l = pairs_get_or i 0 (lit≤ tt) h

pub together : (xs : List ℕ) → claim.NoneAbove3 xs → Codes xs
together [] h = Forall₂.nil
together (x ∷ xs) h = Forall₂.cons (h 0 (omega arith)) (together xs (λ i l. h (suc i) (omega arith)))

-- no byte is 5 or above 6
pub code : (x : ℕ) → (no_code x ≡ false) ↔ ((x ≡ 5 → ⊥) × (x ≤ 6))
code x = (λ h. simp (neither, not_same, not_above) at h, λ h. simp (neither, not_same, not_above) h)

pub codes : (xs : List ℕ) → Forall₂ AnyCode xs xs ↔ claim.OnlyCodes xs
codes xs = (
  λ h i l. (code (get_or xs i 0)).0 (not-true _ (pairs_get_or {R = AnyCode} i 0 refl h)),
  λ h. pairs_places xs xs 0 refl (λ i l. rw ((code (get_or xs i 0)).1 (h i l))),
)

-- what a call takes, both ways
pub state : {s st : List ℕ} → IsState s st → claim.AcceptedState s st
state h = record { size = state_size h; codes = each h.registers.codes; count = right_count h }

pub is_state : {s st : List ℕ} → claim.AcceptedState s st → IsState s st
is_state {s} {st} h =
    counted_is (record { size = length-take-le _ st (omega (arith, h.size)); codes = together (registers_in s st) h.codes }) h.count

lent : {s st : List ℕ} {n : ℕ} {rows : List ℕ} → claim.AcceptedImage s → claim.AcceptedState s st → claim.AcceptedRows n rows → Lent s st n rows
lent {rows = rows} i st r = record { image = (checked _).1 i; state = is_state st; size = r.size; codes = together rows r.codes }

image : {s st : List ℕ} {n : ℕ} {rows : List ℕ} → Lent s st n rows → claim.AcceptedImage s
image r = (checked _).0 r.image

rows_of : {s st : List ℕ} {n : ℕ} {rows : List ℕ} → Lent s st n rows → claim.AcceptedRows n rows
rows_of r = record { size = r.size; codes = each r.codes }

-- the length of the pages
pub pages_bytes_lem : (s : List ℕ) (k : ℕ) (buf : List ℕ) → (length buf ≡ pages_length k (sizes_of s).outputs) ↔ (length buf ≡ claim.pages_bytes s k)
unfolding pages_length page_count
pages_bytes_lem s k buf = (λ h. h, λ h. h)

pub when_accepted : claim.Accepted
when_accepted =
    record {
      check = check;
      power_up = λ s st. (
        λ h. let t = (power_up_none s st).0 h in ((checked s).0 t.0, t.1),
        λ t. (power_up_none s st).1 ((checked s).1 t.0, t.1),
      );
      step = λ s st row nets. (
        λ h. let t = (step_none s st row nets).0 h in (image t.0, state t.0.state, rows_of t.0, t.1),
        λ t. (step_none s st row nets).1 (lent t.0 t.1 t.2, t.3),
      );
      run = λ s st k rows outputs. (
        λ h. let t = (run_none s st k rows outputs).0 h in (image t.0, t.1, state t.0.state, rows_of t.0, t.2),
        λ t. (run_none s st k rows outputs).1 (lent t.0 t.2 t.3, t.1, t.4),
      );
      static_power_up = λ s st. (
        λ h. let t = (static_power_up_none s st).0 h in ((checked s).0 t.0, t.1),
        λ t. (static_power_up_none s st).1 ((checked s).1 t.0, t.1),
      );
      static_run = λ s st k rows outputs. (
        λ h.
            let t = (static_none s st k rows outputs).0 h in
            let r = t.0 in (
              (checked s).0 r.image,
              t.1,
              record { size = r.registers.size; codes = (codes st).0 r.registers.codes },
              record { size = r.size; codes = (codes rows).0 r.codes },
              t.2,
            ),
        λ t.
            (static_none s st k rows outputs).1 (
              record {
                image = (checked s).1 t.0;
                registers = record { size = t.2.size; codes = (codes st).1 t.2.codes };
                size = t.3.size;
                codes = (codes rows).1 t.3.codes;
              },
              t.1,
              t.4,
            ),
      );
      doubled_size_lem = λ s. (
        λ h. let t = (size_none s).0 (sym (size_given s) ∙ h) in ((checked s).0 t.0, t.1),
        λ t. size_given s ∙ (size_none s).1 ((checked s).1 t.0, t.1),
      );
      double = λ s buf. (
        λ h. let t = (double_none s buf).0 h in ((checked s).0 t.0, t.1, t.2),
        λ t. (double_none s buf).1 ((checked s).1 t.0, t.1, t.2),
      );
      page = λ s k outputs buf. (
        λ h. let t = (page_none s k outputs buf).0 h in ((check s).0 t.0, t.1, record { codes = each t.2; size = t.3 }, (pages_bytes_lem s k buf).0 t.4),
        λ t. (page_none s k outputs buf).1 ((check s).1 t.0, t.1, together outputs t.2.codes, t.2.size, (pages_bytes_lem s k buf).1 t.3),
      );
    }
