-- `settling::settling::settle` meets its contract: a gate or OUT takes the code of the table, and another net keeps its byte.
use Rattle.std.proofs.Common.{ℕ, List, true, get_or, ◌≡◌, ◌∙◌, ◌%◌, ◌≤◌, ◌<◌, arith}
use borrow.Author.Tests.{lt-leb}
use Rattle.gates.specs.Kinds.{NOT}
use Rattle.image.specs.Image.{kind_at}
use Rattle.image.specs.Pins.{pin_net}
use Rattle.image.proofs.PinNets.{net_rest}
use Rattle.checking.proofs.Checked.{Checked, check_none}
use Rattle.unknowns.specs.Widths.{code_by}
use Rattle.unknowns.proofs.ByWidth.{rule_code}
use Rattle.inverses.specs.Inverses.{Both}
use Rattle.settling.specs.Settling.{settled_at}
use Rattle.settling.proofs.Gatewise.{pin_coded, gate_there, takes_code}
use Rattle.settling.proofs.settling.settle.Goals as goal

-- a place below 65,536 holds a code, where its rest by 32,768 names a net
coded : {w : ℕ} {bs : List ℕ} {m : ℕ} → Both w bs m → (p : ℕ) → p < 65536 → p % 32768 < m → code_by w (get_or bs p 0) ≡ true
coded both p low h = pin_coded both p (rw (← net_rest p low) h)

-- a pin as it was read, and its rest
rest : {p q m : ℕ} → p ≡ q → q < 40960 → pin_net q < m → (p < 40960) × (p % 32768 < m)
rest {q = q} e low h = (omega (arith, e, low), rw (e, net_rest q (omega (arith, low))) h)

pub kind_of-kind-requires : goal.kind_of-kind-requires
kind_of-kind-requires g c = let known : Checked c.args.image.now = (check_none _).0 c.requires.image_value in omega (arith, known.exact, c.requires.i_value)

pub operand_of-a-requires : goal.operand_of-a-requires
operand_of-a-requires g c = let known : Checked c.args.image.now = (check_none _).0 c.requires.image_value in (c.requires.i_value, omega arith, known.exact)

pub operand_of-b-requires : goal.operand_of-b-requires
operand_of-b-requires g c = let known : Checked c.args.image.now = (check_none _).0 c.requires.image_value in (c.requires.i_value, omega arith, known.exact)

pub operand_of-c-requires : goal.operand_of-c-requires
operand_of-c-requires g c = let known : Checked c.args.image.now = (check_none _).0 c.requires.image_value in (c.requires.i_value, omega arith, known.exact)

pub bounds-nets-a : goal.bounds-nets-a
bounds-nets-a g c =
    let gate = gate_there c.requires.image_value c.requires.i_value c.requires.nets_value.1 c.kind_of-kind.ensures c.if-kind.true in
    omega (arith, gate.a.place, c.operand_of-a.ensures.0, c.requires.nets_value.0)

pub bounds-nets-b : goal.bounds-nets-b
bounds-nets-b g c =
    let gate = gate_there c.requires.image_value c.requires.i_value c.requires.nets_value.1 c.kind_of-kind.ensures c.if-kind.true in
    omega (arith, gate.b.place, c.operand_of-b.ensures.0, c.requires.nets_value.0)

pub bounds-nets-c : goal.bounds-nets-c
bounds-nets-c g c =
    let gate = gate_there c.requires.image_value c.requires.i_value c.requires.nets_value.1 c.kind_of-kind.ensures c.if-kind.true in
    omega (arith, gate.c.place, c.operand_of-c.ensures.0, c.requires.nets_value.0)

pub code_by-x-requires-clause-tabled : goal.code_by-x-requires-clause-tabled
code_by-x-requires-clause-tabled g c =
    let gate = gate_there c.requires.image_value c.requires.i_value c.requires.nets_value.1 c.kind_of-kind.ensures c.if-kind.true in
    (c.requires.tabled, rw c.kind_of-kind.ensures gate.kind)

pub code_by-x-requires-clause-a_value : goal.code_by-x-requires-clause-a_value
code_by-x-requires-clause-a_value g c =
    let gate = gate_there c.requires.image_value c.requires.i_value c.requires.nets_value.1 c.kind_of-kind.ensures c.if-kind.true in
    let a = rest c.operand_of-a.ensures.0 gate.a.place gate.a-named in
    let b = rest c.operand_of-b.ensures.0 gate.b.place gate.b-named in
    let d = rest c.operand_of-c.ensures.0 gate.c.place gate.c-named in
    let code = coded c.requires.nets_value.1 in
    (code _ (omega (arith, a.0)) (omega (arith, a.1)), code _ (omega (arith, b.0)) (omega (arith, b.1)), code _ (omega (arith, d.0)) (omega (arith, d.1)))

pub inverse-requires : goal.inverse-requires
inverse-requires g c =
    let gate = gate_there c.requires.image_value c.requires.i_value c.requires.nets_value.1 c.kind_of-kind.ensures c.if-kind.true in
    let a = rest c.operand_of-a.ensures.0 gate.a.place gate.a-named in
    let b = rest c.operand_of-b.ensures.0 gate.b.place gate.b-named in
    let d = rest c.operand_of-c.ensures.0 gate.c.place gate.c-named in
    let code = coded c.requires.nets_value.1 in
    rw c.code_by-x.ensures (rule_code _ _ _ _ _ (code _ (omega (arith, a.0)) (omega (arith, a.1))) (code _ (omega (arith, b.0)) (omega (arith, b.1))) (code _ (omega (arith, d.0)) (omega (arith, d.1))))

pub put_both-requires : goal.put_both-requires
put_both-requires g c =
    let known : Checked c.args.image.now = (check_none _).0 c.requires.image_value in
    (omega (arith, known.few_nets, c.requires.i_value), omega (arith, known.few_nets, c.requires.i_value, c.requires.nets_value.0))

pub returns-then-kind : goal.returns-then-kind
returns-then-kind g c =
    let gate = gate_there c.requires.image_value c.requires.i_value c.requires.nets_value.1 c.kind_of-kind.ensures c.if-kind.true in
    let read : NOT ≤ kind_at c.args.image.now c.args.i = rw c.kind_of-kind.ensures at c.if-kind.true in
    c.put_both.ensures
    ∙ takes_code _ _ _ _ c.kind_of-kind.ensures read
    c.operand_of-a.ensures.0 c.operand_of-b.ensures.0 c.operand_of-c.ensures.0
    (rw c.operand_of-a.ensures.0 gate.a.pin) (rw c.operand_of-b.ensures.0 gate.b.pin) (rw c.operand_of-c.ensures.0 gate.c.pin)
    c.code_by-x.ensures c.inverse.ensures

pub returns-else-kind : goal.returns-else-kind
unfolding settled_at
returns-else-kind g c = rw (lt-leb 3 (kind_at c.args.image.now c.args.i) (rw c.kind_of-kind.ensures at c.if-kind.false))
