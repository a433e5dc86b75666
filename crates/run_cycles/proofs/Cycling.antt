-- A cycle by lists: the INPUTs take the row's bytes and the REGs the state's, then the gates are settled. That gives the bytes of the cycle.
use Prim.Native.Nat.{ℕ, suc, ◌≤◌, ◌<◌}
use native.Mathlib.Nat.{add-zero}
use native.Mathlib.Omega.{arith}
use mathlib.Core.Logic.{⊎_elim}
use mathlib.Core.Path.{◌≡◌, refl, sym, ap, ap₂, ◌∙◌}
use mathlib.Core.Bool.{true}
use mathlib.Core.List.{List, [], ◌∷◌, map, Forall₂}
use lib.Dec.{lit<}
use lib.ListN.{length, get_or, take}
use lib.Seq.{get_or-drop, get_or-take, length-take-le}
use Rattle.gates.specs.Kinds.{CONST, INPUT, REG, NOT}
use Rattle.gates.specs.Rules.{mark}
use Rattle.unknowns.specs.Widths.{rule_by, code_by, Coded}
use Rattle.unknowns.proofs.ByWidth.{const_code, rule_code}
use Rattle.image.specs.declared.image.Net.{Net}
use Rattle.image.specs.Image.{sizes_of, net, kind_at, operand_at, net_at, nets_of, count}
use Rattle.image.specs.Places.{places_from}
use Rattle.image.proofs.Nets.{net_in, length_nets}
use Rattle.image.proofs.Pairs.{pairs_places, pairs_get_or}
use Rattle.checking.proofs.Checked.{Checked, check_none, net_passes, pin_below}
use Rattle.cycle.specs.Cycle.{Rule, Walk, pin_byte, net_byte, bytes_of, verdict_from, outputs_from, clocked}
use Rattle.cycle.proofs.Cycles.{Kept}
use Rattle.cycle.proofs.Calls.{ReadyOf}
use Rattle.cycle.proofs.Ruling.{sight, same_byte, ruled_bytes}
use Rattle.cycle.proofs.Alike.{outputs_alike, verdict_alike, clocked_alike}
use Rattle.cycle.proofs.Deciding.{same_or_not, there_or_not}
use Rattle.cycle.proofs.Selections.{selection_length}
use Rattle.lists.specs.Lists.{Put, at_pins}
use Rattle.lists.proofs.Placing.{places_selected, place_listed, not_listed, listed_places, listed_kind, clocked_listed}
use Rattle.inverses.specs.Inverses.{Both}
use Rattle.inverses.proofs.Places.{pin_place}
use Rattle.run_cycles.specs.Taking.{Takes}
use Rattle.settling.specs.Settling.{Settled, Prepared}
use Rattle.settling.proofs.Gatewise.{policy_of, gate_rule}

-- the byte of a net that is no gate
module _ (width : ℕ) (s : List ℕ) (i : ℕ) (w : Walk) where
  abbrev n : ℕ
  n = (sizes_of s).nets

  const_is : kind_at s i ≡ CONST → net_byte (rule_by width) (net_at s n i) w ≡ operand_at s n i 0
  unfolding net_byte net_at
  const_is h = rw h

  input_is : kind_at s i ≡ INPUT → net_byte (rule_by width) (net_at s n i) w ≡ get_or w.row 0 0
  unfolding net_byte net_at
  input_is h = rw h

  register_is : kind_at s i ≡ REG → net_byte (rule_by width) (net_at s n i) w ≡ get_or w.state 0 0
  unfolding net_byte net_at
  register_is h = rw h

abbrev blank : Net
blank = net 0 0 0 0

-- two functions that are the same on a list
map_same : (f g : ℕ → ℕ) (list : List ℕ) → ((j : ℕ) → j < length list → f (get_or list j 0) ≡ g (get_or list j 0)) → map f list ≡ map g list
map_same f g [] h = refl
map_same f g (x ∷ xs) h = ap₂ (λ y ys. y ∷ ys) (h 0 (omega arith)) (map_same f g xs (λ j l. h (suc j) (omega arith)))

module _ {s : List ℕ} (c : Checked s) where
  in_nets : (i : ℕ) → i < (sizes_of s).nets → i < length (nets_of s)
  in_nets i h = omega (arith, length_nets s)

  kind_is : (i : ℕ) → i < (sizes_of s).nets → (get_or (nets_of s) i blank).kind ≡ kind_at s i
  unfolding net_at
  kind_is i h = ap (λ (x : Net). x.kind) (net_in s _ i blank refl h)

  -- bytes put to the nets of kind k: each has its own, and the nets of other kinds stay
  module _ (k : ℕ) {list : List ℕ} (are : list ≡ places_from k 0 (nets_of s)) {width : ℕ} {bytes before after : List ℕ} (put : Put width list bytes before after (length list)) (i : ℕ) (h : i < (sizes_of s).nets) where
    has : kind_at s i ≡ k → get_or after i 0 ≡ get_or bytes (count k (take i (nets_of s))) 0
    has o =
        let p = rw are at put in
        let l = place_listed k (nets_of s) i blank (in_nets i h) (kind_is i h ∙ o) in
        ap (λ j. get_or after j 0) (sym l.1) ∙ p.taken (count k (take i (nets_of s))) l.0

    stays : (kind_at s i ≡ k → ⊥) → get_or after i 0 ≡ get_or before i 0
    stays other = let p = rw are at put in p.others i (omega (arith, c.few_nets)) (not_listed k (nets_of s) i blank (λ o. other (sym (kind_is i h) ∙ o)))

  module _ {width : ℕ} {row state nets₀ nets₁ nets₂ ins-list regs-list : List ℕ} (size : length nets₀ ≡ 40960) (prepared : Prepared width s nets₀ (sizes_of s).nets)
      (ins-are : ins-list ≡ places_from INPUT 0 (nets_of s)) (regs_are : regs-list ≡ places_from REG 0 (nets_of s))
      (ins : Put width ins-list row nets₀ nets₁ (length ins-list)) (regs : Put width regs-list state nets₁ nets₂ (length regs-list)) where
    pub put_size : length nets₂ ≡ 40960
    put_size = regs.size ∙ ins.size ∙ size

    -- all nets stand with their inverses still
    pub put_both : Both width nets₂ (sizes_of s).nets
    put_both = let few : (sizes_of s).nets ≤ 32768 = omega (arith, c.few_nets) in regs.both _ few (ins.both _ few prepared.both)

    input_put : (i : ℕ) → i < (sizes_of s).nets → kind_at s i ≡ INPUT → get_or nets₂ i 0 ≡ get_or row (count INPUT (take i (nets_of s))) 0
    input_put i h o = stays REG regs_are regs i h (λ q. omega arith) ∙ has INPUT ins-are ins i h o

    register_put : (i : ℕ) → i < (sizes_of s).nets → kind_at s i ≡ REG → get_or nets₂ i 0 ≡ get_or state (count REG (take i (nets_of s))) 0
    register_put i h o = has REG regs_are regs i h o

    other_put : (i : ℕ) → i < (sizes_of s).nets → (kind_at s i ≡ INPUT → ⊥) → (kind_at s i ≡ REG → ⊥) → get_or nets₂ i 0 ≡ get_or nets₀ i 0
    other_put i h f g = stays REG regs_are regs i h g ∙ stays INPUT ins-are ins i h f

    const_put : (i : ℕ) → i < (sizes_of s).nets → kind_at s i ≡ CONST → get_or nets₂ i 0 ≡ operand_at s (sizes_of s).nets i 0
    const_put i h o = other_put i h (λ q. omega arith) (λ q. omega arith) ∙ prepared.constants i h o

    -- the gates settled
    module _ {nets₃ : List ℕ} (w : Settled width s nets₂ nets₃ (sizes_of s).nets) where
      -- the first n bytes, which are those of the nets
      abbrev bytes : List ℕ
      bytes = take (sizes_of s).nets nets₃

      first : (j : ℕ) → j < (sizes_of s).nets → get_or bytes j 0 ≡ get_or nets₃ j 0
      first j h = get_or-take (sizes_of s).nets nets₃ j 0 h

      abbrev seen : ℕ → Walk
      seen i = sight (nets_of s) row state nets₃ i

      abbrev seen_first : ℕ → Walk
      seen_first i = sight (nets_of s) row state bytes i

      by_kind : (i : ℕ) → i < (sizes_of s).nets → get_or nets₃ i 0 ≡ net_byte (rule_by width) (net_at s (sizes_of s).nets i) (seen i)
      by_kind i h =
          ⊎_elim
          (λ source.
          w.sources i h source
          ∙ ⊎_elim
          (λ o. const_put i h o ∙ sym (const_is width s i (seen i) o))
          (λ f.
          ⊎_elim
          (λ o. input_put i h o ∙ sym (input_is width s i (seen i) o ∙ get_or-drop (count INPUT (take i (nets_of s))) row 0 0 ∙ rw add-zero))
          (λ g.
          let o : kind_at s i ≡ REG = only source f g in
          register_put i h o ∙ sym (register_is width s i (seen i) o ∙ get_or-drop (count REG (take i (nets_of s))) state 0 0 ∙ rw add-zero))
          (same_or_not (kind_at s i) INPUT))
          (same_or_not (kind_at s i) CONST))
          (λ gate. w.gates i h gate ∙ sym (gate_rule width s i (seen i) gate))
          (there_or_not (kind_at s i) NOT)
        where
          only : {k : ℕ} → k < 3 → (k ≡ 0 → ⊥) → (k ≡ 1 → ⊥) → k ≡ 2
          only h f g = omega arith

      by_kind_first : (i : ℕ) → i < (sizes_of s).nets → get_or bytes i 0 ≡ net_byte (rule_by width) (net_at s (sizes_of s).nets i) (seen_first i)
      by_kind_first i h =
          first i h ∙ by_kind i h
          ∙ same_byte (policy_of width) (seen i) (seen_first i) (net_passes c refl i h) (λ j l. sym (first j (omega arith))) refl refl

      pub settled_bytes : bytes ≡ bytes_of (rule_by width) (nets_of s) row state
      settled_bytes =
          ruled_bytes (policy_of width) c.nets row state
          (record {
            size = length-take-le _ nets₃ (omega (arith, w.size, put_size, c.few_nets)) ∙ sym (length_nets s);
            byte = λ i d h. let l : i < (sizes_of s).nets = omega (arith, length_nets s) in rw (net_in s _ i d refl l) (by_kind_first i l);
          })
          blank

      pub settled_prepared : Prepared width s nets₃ (sizes_of s).nets
      settled_prepared = record { constants = λ i h o. w.sources i h (rw o (lit< tt)) ∙ const_put i h o; both = w.both }

  -- what is read off the local array is what the bytes of the nets give
  module _ (nets : List ℕ) where
    nets_alike : (j : ℕ) → j < (sizes_of s).nets → get_or nets j 0 ≡ get_or (take (sizes_of s).nets nets) j 0
    nets_alike j h = sym (get_or-take (sizes_of s).nets nets j 0 h)

    pub verdict_off : verdict_from mark 0 (nets_of s) nets ≡ verdict_from mark 0 (nets_of s) (take (sizes_of s).nets nets)
    verdict_off = verdict_alike nets _ nets_alike mark 0 (nets_of s) (omega (arith, length_nets s))

    pub outputs_off : outputs_from 0 (nets_of s) nets ≡ outputs_from 0 (nets_of s) (take (sizes_of s).nets nets)
    outputs_off = outputs_alike nets _ nets_alike 0 (nets_of s) (omega (arith, length_nets s))

    pub clocked_off : (rule : Rule) → clocked rule (nets_of s) nets ≡ clocked rule (nets_of s) (take (sizes_of s).nets nets)
    clocked_off rule = clocked_alike nets _ nets_alike rule c.nets

    -- and what stands at the pins of the registers is what these read
    pub pins_clocked : {width : ℕ} {list : List ℕ} → Both width nets (sizes_of s).nets → list ≡ places_from REG 0 (nets_of s)
        → at_pins s list nets ≡ clocked (rule_by width) (nets_of s) nets
    pins_clocked {width} {list} both are =
        map_same (λ i. get_or nets (operand_at s (sizes_of s).nets i 0) 0) (λ i. pin_byte (rule_by width) nets (operand_at s (sizes_of s).nets i 0)) list
        (λ j h. pin_place both _ (pin_below c refl _ ((listed_places s refl REG are).within.below j h) (listed_kind s refl REG are j h)))
        ∙ ap (map (λ i. pin_byte (rule_by width) nets (operand_at s (sizes_of s).nets i 0))) are
        ∙ clocked_listed s refl nets (rule_by width)

-- WHAT A RUN FOUND fits the lent bytes
pub list_size : (s : List ℕ) (k : ℕ) {list : List ℕ} → list ≡ places_from k 0 (nets_of s) → length list ≡ count k (nets_of s)
list_size s k o = rw o (selection_length (places_selected k) 0 (nets_of s))

-- WHAT A RUN TAKES. A byte that is a code, as a relation that looks at its first byte alone
abbrev pub IsCodeBy : (width x y : ℕ) → Type 0
IsCodeBy width x y = code_by width x ≡ true

pub coded_pairs : {width : ℕ} {xs : List ℕ} → Coded width xs → Forall₂ (IsCodeBy width) xs xs
coded_pairs {xs = xs} h = pairs_places xs xs 0 refl (λ i l. h.codes i)

pub pairs_coded : {width : ℕ} {xs : List ℕ} → Forall₂ (IsCodeBy width) xs xs → Coded width xs
pairs_coded {width} h = record { codes = λ i. pairs_get_or i 0 (const_code width 0 (omega arith)) h }

pub taken_ready : {width : ℕ} {s st : List ℕ} {n : ℕ} {rows : List ℕ} → Takes width s st n rows → ReadyOf (IsCodeBy width) s st n rows
taken_ready t =
    record {
      image = (check_none _).0 t.image;
      registers = record { size = t.registers; codes = coded_pairs t.state };
      size = t.size;
      codes = coded_pairs t.codes;
    }

pub ready_taken : {width : ℕ} {s st : List ℕ} {n : ℕ} {rows : List ℕ} → ReadyOf (IsCodeBy width) s st n rows → Takes width s st n rows
ready_taken r =
    record {
      image = (check_none _).1 r.image;
      registers = r.registers.size;
      state = pairs_coded r.registers.codes;
      size = r.size;
      codes = pairs_coded r.codes;
    }

pub width_kept : (width : ℕ) → Kept (rule_by width) (rule_by width) (IsCodeBy width)
width_kept width = record { const = λ a h. const_code width a h; gate = λ kind a a' b b' c c' p q r. rule_code width kind a b c p q r }
