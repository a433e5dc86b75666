-- Every refusal that a call gives has a number from 1 to 20, and a place below 2^32 where a record of pages has at most 2^32 bytes.
use Prim.Native.Nat.{ℕ, ◌^◌, ◌≤◌, ◌<◌, min}
use native.Mathlib.Omega.{arith}
use native.Mathlib.Nat.{mul-le-mul, min-le_right}
use mathlib.Core.Path.{◌≡◌, refl}
use mathlib.Core.List.{List}
use mathlib.Core.Option.{Option, none, some}
use lib.ListN.{length, length-take}
use Rattle.image.specs.declared.image.Net.{Net}
use Rattle.image.specs.Image.{sizes_of, nets_of}
use Rattle.image.proofs.Nets.{count_most}
use Rattle.refusals.specs.declared.answer.Refusal.{Refusal}
use Rattle.checking.specs.Check.{check_refusal}
use Rattle.cycle.specs.Calls.{power_up_of}
use Rattle.doubling.specs.Doubling.{double_of}
use Rattle.static_run.specs.StaticCalls.{static_power_up_of}
use Rattle.paging.specs.Paging.{page_of}
use Rattle.claims.specs.Accepted.{AcceptedImage}
use Rattle.claims.specs.Refused as table
use Rattle.claims.specs.Refused.{AnyCall, Gives, BadNet, BadImage, BadLent, BadStatic, Refused}
use Rattle.claims.proofs.Promised.{promised}

pub record Tabled (number place : ℕ) : Type 0 where
  pub some_number : 1 ≤ number
  pub most : number ≤ 20
  pub low : place < 2 ^ 32

-- there are at most 8,192 registers, and as many inputs
record Few (s : List ℕ) : Type 0 where
  inputs : (sizes_of s).inputs ≤ 8192
  registers : (sizes_of s).registers ≤ 8192

few : (s : List ℕ) → AcceptedImage s → Few s
few s a =
    let all = (promised.image_read s).all in
    record {
      inputs = omega (arith, all, a.sized.few_nets, a.counts.inputs, count_most 1 (nets_of s));
      registers = omega (arith, all, a.sized.few_nets, a.counts.registers, count_most 2 (nets_of s));
    }

-- line by line of the table
bad_net : {n i : ℕ} {x : Net} {number : ℕ} → BadNet n i x number → i < 2 ^ 32 → Tabled number i
bad_net (table.kind h) l = record { some_number = omega arith; most = omega arith; low = l }
bad_net (table.pin h k) l = record { some_number = omega arith; most = omega arith; low = l }
bad_net (table.value h k m) l = record { some_number = omega arith; most = omega arith; low = l }
bad_net (table.unlisted h k m o) l = record { some_number = omega arith; most = omega arith; low = l }

-- with place 0
plain : {number : ℕ} → 1 ≤ number → number ≤ 20 → Tabled number 0
plain l m = record { some_number = l; most = m; low = omega arith }

bad_image : {s : List ℕ} {number place : ℕ} → BadImage s number place → Tabled number place
bad_image (table.short h) = plain (omega arith) (omega arith)
bad_image (table.no_nets h k) = plain (omega arith) (omega arith)
bad_image (table.many_nets h k) = plain (omega arith) (omega arith)
bad_image (table.inexact h k m o) = plain (omega arith) (omega arith)
bad_image (table.bad_net z l h b) = bad_net b (omega (arith, z.few_nets))
bad_image (table.miscounted h k m) = plain (omega arith) (omega arith)

bad_lent : {s : List ℕ} {rowBytes filled : ℕ} {st rows buffer : List ℕ} {number place : ℕ} → Few s → rowBytes ≤ 2 ^ 32
    → BadLent s rowBytes filled st rows buffer number place → Tabled number place
bad_lent f l (table.state_size h) = plain (omega arith) (omega arith)
bad_lent {s} {st = st} f l (table.state_byte e h) =
    record { some_number = omega arith; most = omega arith; low = omega (arith, h.below, length-take (sizes_of s).registers st, f.registers) }
bad_lent f l (table.state_count e h k) = plain (omega arith) (omega arith)
bad_lent f l (table.row_size h k) = plain (omega arith) (omega arith)
bad_lent f l (table.row_byte a e h) = record { some_number = omega arith; most = omega arith; low = omega (arith, h.below) }
bad_lent f l (table.buffer_size h k m) = plain (omega arith) (omega arith)

bad_static : {s : List ℕ} {rowBytes filled : ℕ} {st rows buffer : List ℕ} {number place : ℕ} → Few s → rowBytes ≤ 2 ^ 32
    → BadStatic s rowBytes filled st rows buffer number place → Tabled number place
bad_static f l (table.static_state_size h) = plain (omega arith) (omega arith)
bad_static f l (table.static_state_byte e h) = record { some_number = omega arith; most = omega arith; low = omega (arith, h.below, f.registers) }
bad_static f l (table.static_row_size h k) = plain (omega arith) (omega arith)
bad_static f l (table.static_row_byte a e h) = record { some_number = omega arith; most = omega arith; low = omega (arith, h.below) }
bad_static f l (table.static_buffer_size h k m) = plain (omega arith) (omega arith)

-- the length of the record that a call is lent, which may be any number: only pages take one
abbrev pub record_length : AnyCall → ℕ
record_length table.check = 0
record_length (table.power_up st) = 0
record_length (table.step st row nets) = 0
record_length (table.run st k rows outputs) = 0
record_length (table.static_power_up st) = 0
record_length (table.static_run st k rows outputs) = 0
record_length table.doubled_size_lem = 0
record_length (table.double buf) = 0
record_length (table.page k outputs buf) = length outputs

refused_tabled : (s : List ℕ) {c : AnyCall} {number place : ℕ} → record_length c ≤ 2 ^ 32 → Refused s c number place → Tabled number place
refused_tabled s short (table.bad_image h) = bad_image h
refused_tabled s short (table.bad_state h k) = plain (omega arith) (omega arith)
refused_tabled s short (table.bad_step a h) = let f = few s a in bad_lent f (omega (arith, f.inputs)) h
refused_tabled s short (table.many_cycles h k) = plain (omega arith) (omega arith)
refused_tabled s short (table.bad_run a h k) = let f = few s a in bad_lent f (omega (arith, mul-le-mul h f.inputs)) k
refused_tabled s short (table.bad_static_state h k) = plain (omega arith) (omega arith)
refused_tabled s short (table.many_static_cycles h k) = plain (omega arith) (omega arith)
refused_tabled s short (table.bad_static_run a h k) = let f = few s a in bad_static f (omega (arith, mul-le-mul h f.inputs)) k
refused_tabled s short (table.doubled_large h k) = plain (omega arith) (omega arith)
refused_tabled s short (table.size_large h k) = plain (omega arith) (omega arith)
refused_tabled s short (table.doubled_length h k m) = plain (omega arith) (omega arith)
refused_tabled s short (table.many_page_cycles h k) = plain (omega arith) (omega arith)
refused_tabled s short (table.record_byte a h w) = record { some_number = omega arith; most = omega arith; low = omega (arith, w.below) }
refused_tabled s short (table.record_size a h c k) = plain (omega arith) (omega arith)
refused_tabled s short (table.page_size a h r k) = plain (omega arith) (omega arith)

pub tabled : (s : List ℕ) (c : AnyCall) (r : Refusal) → record_length c ≤ 2 ^ 32 → Gives s c r → Tabled r.number r.place
tabled s c r short h = refused_tabled s short ((promised.refusals s c r).0 h)

-- the same of what a call without a result gives
pub data Given : Option Refusal → Type 0 where
  no : Given none
  one : {r : Refusal} → Tabled r.number r.place → Given (some r)

given : (o : Option Refusal) → ((r : Refusal) → o ≡ some r → Tabled r.number r.place) → Given o
given none h = no
given (some r) h = one (h r refl)

pub check_given : (s : List ℕ) → Given (check_refusal s)
check_given s = given _ (λ r e. tabled s table.check r (omega arith) e)

pub powered_up_given : (s st : List ℕ) → Given (power_up_of s st).refusal
powered_up_given s st = given _ (λ r e. tabled s (table.power_up st) r (omega arith) e)

pub static_powered_up_given : (s st : List ℕ) → Given (static_power_up_of s st).refusal
static_powered_up_given s st = given _ (λ r e. tabled s (table.static_power_up st) r (omega arith) e)

pub doubled_given : (s buffer : List ℕ) → Given (double_of s buffer).refusal
doubled_given s buffer = given _ (λ r e. tabled s (table.double buffer) r (omega arith) e)

-- of pages, with any record: a number of the table
numbered : (s : List ℕ) {k : ℕ} {outputs buf : List ℕ} {number place : ℕ} → Refused s (table.page k outputs buf) number place → Tabled number 0
numbered s (table.bad_image h) = let t = bad_image h in plain t.some_number t.most
numbered s (table.many_page_cycles h k) = plain (omega arith) (omega arith)
numbered s (table.record_byte a h w) = plain (omega arith) (omega arith)
numbered s (table.record_size a h c k) = plain (omega arith) (omega arith)
numbered s (table.page_size a h r k) = plain (omega arith) (omega arith)

pub page_numbered : (s : List ℕ) (k : ℕ) (outputs buf : List ℕ) (r : Refusal) → (page_of s k outputs buf).refusal ≡ some r → Tabled r.number 0
page_numbered s k outputs buf r h = numbered s ((promised.refusals s (table.page k outputs buf) r).0 h)

-- so its place, given up to 2^32 − 1, is below 2^32
pub data PageGiven : Option Refusal → Type 0 where
  wrote : PageGiven none
  turned : {r : Refusal} → Tabled r.number (min r.place 4294967295) → PageGiven (some r)

pub page_given : (s : List ℕ) (k : ℕ) (outputs buf : List ℕ) → PageGiven (page_of s k outputs buf).refusal
page_given s k outputs buf = one (page_of s k outputs buf).refusal refl
  where
    one : (o : Option Refusal) → (page_of s k outputs buf).refusal ≡ o → PageGiven o
    one none e = wrote
    one (some r) e =
        let t = page_numbered s k outputs buf r e in
        turned {r = r} (record { some_number = t.some_number; most = t.most; low = omega (arith, min-le_right r.place 4294967295) })

pub page_low : (s : List ℕ) (k : ℕ) (outputs buf : List ℕ) (r : Refusal) → length outputs ≤ 2 ^ 32 → (page_of s k outputs buf).refusal ≡ some r → r.place < 2 ^ 32
page_low s k outputs buf r h e = (tabled s (table.page k outputs buf) r h e).low
