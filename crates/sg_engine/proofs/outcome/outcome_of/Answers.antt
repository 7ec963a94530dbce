use Rattle.std.proofs.Common.{refl}
use Rattle.sg_engine.proofs.outcome.outcome_of.Goals as goal
use Rattle.sg_engine.proofs.outcome.outcome_of.Goals.{in-Moved, in-Blocked+in_ok-needs-in-Blocked, in-Ready+in_ok-answer_of-in-Ready}

pub returns-clause-outcome : goal.returns-clause-outcome
returns-clause-outcome g c =
    elim c.match-progress.branch [
      | in-Moved w ↦ rw (w.in-Moved.is, w.needs-is, w.answer-is) (c.new-needs.ensures.items, refl)
      | in-Blocked+in_ok-needs-in-Blocked w ↦
          let exact = rw w.deref.ensures.value at w.in_ok-needs-in-Blocked.ensures.exact in
          rw (w.in-Blocked.is, w.needs-is, w.answer-is) (refl, w.in_ok-needs-in-Blocked.ensures.rising, exact)
      | in-Ready+in_ok-answer_of-in-Ready w ↦ rw (w.in-Ready.is, w.needs-is, w.answer-is) (c.new-needs.ensures.items, (_, refl, w.in_ok-answer_of-in-Ready.ensures))
    ]
