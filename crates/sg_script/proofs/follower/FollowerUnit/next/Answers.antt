use Rattle.std.proofs.Common.{◌∙◌, ap, sym, subst, Some, None, length, ◌<◌}
use Rattle.sg_unit.specs.Trace.{with_last}
use Rattle.sg_script.specs.Following.{FollowsPlan, steps_left}
use Rattle.sg_script.specs.Script.{setting_by}
use Rattle.sg_script.proofs.Next.{next_done, next_answer, next_first, next_falls, op_gives, op_owes, call_gives, call_owes}
use Rattle.sg_script.proofs.follower.FollowerUnit.next.Goals as goal

pub step-requires-clause-stands : goal.step-requires-clause-stands
step-requires-clause-stands g c =
    let s = c.args.self.now in
    let r = c.requires in
    (with_last r.0 r.1 c.args.last, next_done (setting_by g.S.Inst.Instance.wants g.S.Inst.Instance.same_datum (g.S.Script.plan s.script)) (g.S.Script.plan s.script) (g.S.Script.reply s.script) s.pending s.stage s.ended r.0 r.1 s.asked c.take.new.self c.args.last (sym c.take.ensures.value ∙ c.in_default.is) c.take.ensures.after r.3 r.2.0)

pub returns-in_default-clause-gives : goal.returns-in_default-clause-gives
returns-in_default-clause-gives g c =
    let s = c.args.self.now in
    call_gives g.S.Script.plan g.S.Script.reply g.S.Script.is_ready g.S.Inst.Instance.wants g.S.Inst.Instance.same_datum s.script c.step.new.self.script (ap g.S.Script.plan c.step.ensures.script) (subst g.S.Script.is_ready (sym c.step.ensures.script) c.requires.2.1)
    s.asked c.step.new.self.asked s.pending c.step.new.self.pending s.stage c.step.new.self.stage s.ended c.step.new.self.ended c.args.last c.step.result
    (λ past given f h. c.step.ensures.goes (with_last past given c.args.last) (next_done (setting_by g.S.Inst.Instance.wants g.S.Inst.Instance.same_datum (g.S.Script.plan s.script)) (g.S.Script.plan s.script) (g.S.Script.reply s.script) s.pending s.stage s.ended past given s.asked c.take.new.self c.args.last (sym c.take.ensures.value ∙ c.in_default.is) c.take.ensures.after h f))

pub returns-in_default-clause-owed : goal.returns-in_default-clause-owed
returns-in_default-clause-owed g c =
    let s = c.args.self.now in
    call_owes g.S.Script.plan g.S.Script.reply g.S.Script.is_ready g.S.Inst.Instance.wants g.S.Inst.Instance.same_datum s.script c.step.new.self.script (ap g.S.Script.plan c.step.ensures.script) (subst g.S.Script.is_ready (sym c.step.ensures.script) c.requires.2.1)
    s.asked c.step.new.self.asked s.pending c.step.new.self.pending s.stage c.step.new.self.stage s.ended c.step.new.self.ended c.args.last c.step.result
    (λ past given f h. c.step.ensures.goes (with_last past given c.args.last) (next_done (setting_by g.S.Inst.Instance.wants g.S.Inst.Instance.same_datum (g.S.Script.plan s.script)) (g.S.Script.plan s.script) (g.S.Script.reply s.script) s.pending s.stage s.ended past given s.asked c.take.new.self c.args.last (sym c.take.ensures.value ∙ c.in_default.is) c.take.ensures.after h f))

pub put-requires-clause-first : goal.put-requires-clause-first
put-requires-clause-first g c =
    let s = c.args.self.now in
    let r = c.requires in
    next_first (setting_by g.S.Inst.Instance.wants g.S.Inst.Instance.same_datum (g.S.Script.plan s.script)) (g.S.Script.plan s.script) (g.S.Script.reply s.script) s.pending s.stage s.ended r.0 r.1 s.asked c.in-Some.query (sym c.take.ensures.value ∙ c.in-Some.is) r.2.0

pub step-requires-in-Ok-clause-stands : goal.step-requires-in-Ok-clause-stands
step-requires-in-Ok-clause-stands g c =
    let s = c.args.self.now in
    let r = c.requires in (
      with_last r.0 r.1 c.args.last,
      subst (λ p. FollowsPlan p (g.S.Script.reply c.put.new.self) c.take.new.self s.pending s.stage s.ended (with_last r.0 r.1 c.args.last) None) (sym c.in-Ok.ensures.ready.1)
          (next_answer (setting_by g.S.Inst.Instance.wants g.S.Inst.Instance.same_datum (g.S.Script.plan s.script)) (g.S.Script.plan s.script) (g.S.Script.reply s.script) s.pending s.stage s.ended r.0 r.1 s.asked c.in-Some.query (sym c.take.ensures.value ∙ c.in-Some.is) r.2.0
          (g.S.Script.reply c.put.new.self) c.take.new.self c.args.last c.in-Some-Answer.answer c.take.ensures.after (c.in-Some-Answer.is ∙ ap (λ y. Some y) c.in-Some-Answer.field-0-is) c.in-Ok.ensures.reply r.3),
    )

pub take_back-requires : goal.take_back-requires
take_back-requires g c = (c.args.self.now.script, c.in-Some.query, c.in-Some-Answer.answer, subst (λ t. g.S.Script.is_put c.args.self.now.script c.in-Some.query c.in-Some-Answer.answer t) (sym c.step-in-Ok.ensures.script) c.in-Ok.ensures.put)

pub returns-in-Ok-step-clause-gives : goal.returns-in-Ok-step-clause-gives
returns-in-Ok-step-clause-gives g c =
    let s = c.args.self.now in
    op_gives g.S.Script.plan g.S.Script.reply g.S.Script.is_ready g.S.Inst.Instance.wants g.S.Inst.Instance.same_datum s.script c.step-in-Ok.new.self.script (ap g.S.Script.plan c.step-in-Ok.ensures.script ∙ c.in-Ok.ensures.ready.1) (subst g.S.Script.is_ready (sym c.step-in-Ok.ensures.script) c.in-Ok.ensures.ready.0)
    s.asked c.step-in-Ok.new.self.asked s.pending c.step-in-Ok.new.self.pending s.stage c.step-in-Ok.new.self.stage s.ended c.step-in-Ok.new.self.ended c.args.last c.in-Ok-step.op
    (λ past given f h.
    c.in-Ok-step.ensures.goes (with_last past given c.args.last)
    (subst (λ p. FollowsPlan p (g.S.Script.reply c.put.new.self) c.take.new.self s.pending s.stage s.ended (with_last past given c.args.last) None) (sym c.in-Ok.ensures.ready.1)
    (next_answer (setting_by g.S.Inst.Instance.wants g.S.Inst.Instance.same_datum (g.S.Script.plan s.script)) (g.S.Script.plan s.script) (g.S.Script.reply s.script) s.pending s.stage s.ended past given s.asked c.in-Some.query (sym c.take.ensures.value ∙ c.in-Some.is) f
    (g.S.Script.reply c.put.new.self) c.take.new.self c.args.last c.in-Some-Answer.answer c.take.ensures.after (c.in-Some-Answer.is ∙ ap (λ y. Some y) c.in-Some-Answer.field-0-is) c.in-Ok.ensures.reply h)))

pub returns-in-Ok-step-clause-owed : goal.returns-in-Ok-step-clause-owed
returns-in-Ok-step-clause-owed g c =
    let s = c.args.self.now in
    op_owes g.S.Script.plan g.S.Script.reply g.S.Script.is_ready g.S.Inst.Instance.wants g.S.Inst.Instance.same_datum s.script c.step-in-Ok.new.self.script (ap g.S.Script.plan c.step-in-Ok.ensures.script ∙ c.in-Ok.ensures.ready.1) (subst g.S.Script.is_ready (sym c.step-in-Ok.ensures.script) c.in-Ok.ensures.ready.0)
    s.asked c.step-in-Ok.new.self.asked s.pending c.step-in-Ok.new.self.pending s.stage c.step-in-Ok.new.self.stage s.ended c.step-in-Ok.new.self.ended c.args.last c.in-Ok-step.op
    (λ past given f h.
    c.in-Ok-step.ensures.goes (with_last past given c.args.last)
    (subst (λ p. FollowsPlan p (g.S.Script.reply c.put.new.self) c.take.new.self s.pending s.stage s.ended (with_last past given c.args.last) None) (sym c.in-Ok.ensures.ready.1)
    (next_answer (setting_by g.S.Inst.Instance.wants g.S.Inst.Instance.same_datum (g.S.Script.plan s.script)) (g.S.Script.plan s.script) (g.S.Script.reply s.script) s.pending s.stage s.ended past given s.asked c.in-Some.query (sym c.take.ensures.value ∙ c.in-Some.is) f
    (g.S.Script.reply c.put.new.self) c.take.new.self c.args.last c.in-Some-Answer.answer c.take.ensures.after (c.in-Some-Answer.is ∙ ap (λ y. Some y) c.in-Some-Answer.field-0-is) c.in-Ok.ensures.reply h)))

pub returns-in-Ok-step-clause-falls : goal.returns-in-Ok-step-clause-falls
returns-in-Ok-step-clause-falls g c =
    let s = c.args.self.now in
    let r = c.requires in
    let fall = c.in-Ok-step.ensures.falls in
    next_falls (setting_by g.S.Inst.Instance.wants g.S.Inst.Instance.same_datum (g.S.Script.plan s.script)) (g.S.Script.plan s.script) (g.S.Script.reply s.script) s.pending s.stage s.ended r.0 r.1 s.asked c.in-Some.query (sym c.take.ensures.value ∙ c.in-Some.is) r.2.0
    (g.S.Script.reply c.put.new.self) c.take.new.self c.in-Some-Answer.answer _ c.take.ensures.after c.in-Ok.ensures.reply
    (subst (λ p. steps_left (g.S.Script.plan c.step-in-Ok.new.self.script) (g.S.Script.reply c.step-in-Ok.new.self.script) c.step-in-Ok.new.self.asked (length c.step-in-Ok.new.self.pending) c.step-in-Ok.new.self.stage c.step-in-Ok.new.self.ended < steps_left p (g.S.Script.reply c.put.new.self) c.take.new.self (length s.pending) s.stage s.ended) c.in-Ok.ensures.ready.1 fall)
