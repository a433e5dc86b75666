-- The line of a refusal has room.
use Rattle.page_turns.proofs.TextParts.{refusal_put}
use Rattle.page_turns.proofs.putting.put_last.Goals as goal

pub returns-in-Err-clause-text_after : goal.returns-in-Err-clause-text_after
returns-in-Err-clause-text_after c =
    rw c.in-Err.is (refusal_put c.args.text.now c.args.at c.in-Err.r c.requires c.refused_line.ensures).0

pub returns-in-Err-clause-value : goal.returns-in-Err-clause-value
returns-in-Err-clause-value c =
    rw c.in-Err.is (refusal_put c.args.text.now c.args.at c.in-Err.r c.requires c.refused_line.ensures).1
