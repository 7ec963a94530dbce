use Rattle.sg_engine.proofs.outcome.try_advance.Goals as goal

pub outcome_of-requires-clause-tree : goal.outcome_of-requires-clause-tree
outcome_of-requires-clause-tree g c =
    let q = c.requires.stands.0 in
    let k = c.in_ok-progress.ensures.stands q c.requires.stands.1 c.requires.stands.2 in
    (q.expr, (((k.0).0).2, (k.0).1))

pub outcome_of-requires-clause-once : goal.outcome_of-requires-clause-once
outcome_of-requires-clause-once g c =
    let q = c.requires.stands.0 in
    let k = c.in_ok-progress.ensures.stands q c.requires.stands.1 c.requires.stands.2 in
    ((((k.0).0).3).1).found_once

pub returns-clause-stands : goal.returns-clause-stands
returns-clause-stands g c = λ q ps s.
    let k = c.in_ok-progress.ensures.stands q ps s in
    (k.0, rw c.in_ok-outcome.ensures.progress k.1)
