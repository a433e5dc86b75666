-- The room for a group of the net's kind, and the nets of the group.
use Rattle.std.proofs.Common.{rules, ◌≡◌, ◌<◌, ℕ, List, arith}
use Rattle.gates.specs.declared.kinds.Kind.{Kind}
use Rattle.gates.specs.Kinds.{number_of}
use Rattle.groups.specs.Groups.{group_lengths, group_length}
use Rattle.groups.proofs.Groups.{mark_start_code}
use Rattle.large_groups.specs.Room.{Room}
use Rattle.all_groups.proofs.group.put_group.Goals as goal

-- the room for a group of a kind, where the net's number is that of the kind
room : {d : List ℕ} {n v x : ℕ} {k l : Kind} → k ≡ l → number_of k ≡ x → Room d n v (group_length x) → Room d n v (group_length (number_of l))
room e h r = rw (← h, e) at r

pub gate-requires-in-Reg-2 : goal.gate-requires-in-Reg-2
gate-requires-in-Reg-2 c =
    let low = mark_start_code c.args.x.b in
    let fits = c.requires.fits.1 in
    let start : c.mark_start.result < 65536 = omega (arith, low, c.mark_start.ensures) in
    search rules

pub put_and-requires : goal.put_and-requires
unfolding group_length group_lengths
put_and-requires c = (room c.in-And.is c.in-Ok.ensures c.requires.kind_bound.1, c.requires.fits.1, c.requires.fits.2)

pub put_or-requires : goal.put_or-requires
unfolding group_length group_lengths
put_or-requires c = (room c.in-Or.is c.in-Ok.ensures c.requires.kind_bound.1, c.requires.fits.1, c.requires.fits.2)

pub put_mux-requires : goal.put_mux-requires
unfolding group_length group_lengths
put_mux-requires c = (room c.in-Mux.is c.in-Ok.ensures c.requires.kind_bound.1, c.requires.fits.1, c.requires.fits.2, c.requires.fits.3)

pub put_two-requires : goal.put_two-requires
unfolding group_length group_lengths
put_two-requires c = (room c.in-Const.is c.in-Ok.ensures c.requires.kind_bound.1, c.gate.ensures.1, c.gate-in-Const.ensures.1)

pub put_two-requires-in-Input : goal.put_two-requires-in-Input
unfolding group_length group_lengths
put_two-requires-in-Input c = (room c.in-Input.is c.in-Ok.ensures c.requires.kind_bound.1, c.gate-in-Input.ensures.1, c.gate-in-Input-2.ensures.1)

pub put_two-requires-in-Reg : goal.put_two-requires-in-Reg
unfolding group_length group_lengths
put_two-requires-in-Reg c = (room c.in-Reg.is c.in-Ok.ensures c.requires.kind_bound.1, c.gate-in-Reg.ensures.1, c.gate-in-Reg-2.ensures.1)

pub put_two-requires-in-Not : goal.put_two-requires-in-Not
unfolding group_length group_lengths
put_two-requires-in-Not c = (room c.in-Not.is c.in-Ok.ensures c.requires.kind_bound.1, c.gate-in-Not.ensures.1, c.gate-in-Not-2.ensures.1)

pub put_two-requires-in-Xor : goal.put_two-requires-in-Xor
unfolding group_length group_lengths
put_two-requires-in-Xor c = (room c.in-Xor.is c.in-Ok.ensures c.requires.kind_bound.1, c.gate-in-Xor.ensures.1, c.gate-in-Xor-2.ensures.1)

pub put_two-requires-in-Out : goal.put_two-requires-in-Out
unfolding group_length group_lengths
put_two-requires-in-Out c = (room c.in-Out.is c.in-Ok.ensures c.requires.kind_bound.1, c.gate-in-Out.ensures.1, c.gate-in-Out-2.ensures.1)
