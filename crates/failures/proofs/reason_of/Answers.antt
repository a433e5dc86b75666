-- `failures::reason_of` meets its contract where the text has a number: the reason stands before the first of the bytes that a number follows.
use Rattle.std.proofs.Common.{Some}
use Rattle.failures.proofs.reason_of.Goals as goal

pub returns-in-Some-clause-reason : goal.returns-in-Some-clause-reason
returns-in-Some-clause-reason c utf8 =
    let split = c.in-Some.ensures.cases in
    rw (← c.in-Ok.ensures.cases.0) (Some (split.0, split.1), split.2, split.3)
