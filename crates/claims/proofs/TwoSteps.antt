-- Two steps that are lent states and rows which differ at most in the values of marked bytes.
use mathlib.Core.List.Forall₂
use mathlib.Core.List.{[], ◌∷◌}
use Rattle.checking.proofs.Checked.{check_none}
use Rattle.cycle.specs.Calls.{step_of}
use Rattle.cycle.proofs.Calls.{step_none}
use Rattle.claims.specs.History.{stepped, step, call_result, Finished}
use Rattle.claims.specs.TwoRun.{Matched}
use Rattle.claims.specs.InBytes.{StepsAgree}
use Rattle.claims.proofs.Agreeing.{marks_agree, agree_marks, marks_agree_states, agree_marks_states}
use Rattle.claims.proofs.TwoRun.{demand3}
use Rattle.claims.proofs.Taken.{step_taken}
use Rattle.claims.proofs.OneCall.{same_one}

pub steps_agree : StepsAgree
unfolding call_result
steps_agree s st st' row row' nets nets' v q p l h =
    let r = ((step_none s st row nets).0 (step_taken s st row nets h)).0 in
    let matched = Forall₂.cons (Matched.steps (marks_agree row' r.codes p) l) Forall₂.nil in
    let two = demand3 s ((check_none s).1 r.image) (step row nets ∷ []) (step row' nets' ∷ []) matched in
    let ends : Finished (stepped (step_of s st row nets).answer) = rw h Finished.a_step in
    let o = same_one (two.from_states st st' (marks_agree_states st' r.state.registers.codes q)) ends in
    let e = o.answer in
    record { answer = cc; nets = agree_marks o.buffer; state = agree_marks_states o.state }
