use Rattle.std.proofs.Common.{rules, arith, true, ◌∙◌, ◌≤◌, ◌+◌, length, refl}
use Rattle.sg_script.proofs.Following.{if_ok, moved, step_asks, step_passes, step_writes, step_asks_last, step_ends}
use Rattle.sg_script.proofs.follower.Follower.read_on.Goals.{then-self-count, else-self-count}
use Rattle.sg_script.proofs.follower.Follower.read_on.Goals as goal

pub returns-in-Need-clause-goes : goal.returns-in-Need-clause-goes
returns-in-Need-clause-goes g c = λ past f.
    let s = c.args.self.now in
    let i = c.loop-stage.invariant in
    let b = c.loop-stage-test.true in
    let n = c.stage_count-count.ensures in
    if_ok c.ask.result _ _ c.ask.ensures.ok
    (λ op o.
    moved g.S.Script.plan g.S.Script.reply s.script s.pending s.ended past c.ask.new.self.script c.ask.new.self.asked c.ask.new.self.asked c.ask.new.self.pending c.loop-stage.stage c.ask.new.self.stage c.ask.new.self.ended _
    (c.ask.ensures.rest.0 ∙ (c.read.ensures.same ∙ i.1)) refl (c.ask.ensures.rest.1 ∙ i.3) o.2 (c.ask.ensures.rest.2 ∙ i.4)
    (step_asks g.S.Script.plan g.S.Script.reply s.script s.pending s.ended past c.loop-stage.self.script i.1 s.asked c.requires.idle.0 c.loop-stage.stage (i.7 past f) c.in_ok-query.field-0 c.in-Need.query c.ask.new.self.asked op
    (omega (arith, b, n)) c.in_ok-query.ensures.reads c.in-Need.is o.1 o.0))

pub returns-in-Some-clause-goes : goal.returns-in-Some-clause-goes
returns-in-Some-clause-goes g c = λ past f.
    let s = c.args.self.now in
    let i = c.loop-stage.invariant in
    let b = c.loop-stage-test.true in
    let n = c.stage_count-count.ensures in
    moved g.S.Script.plan g.S.Script.reply s.script c.take_first.new.self s.ended past c.read.new.self s.asked c.loop-stage.self.asked c.take_first.new.self (c.loop-stage.stage + 1) (c.loop-stage.stage + 1) c.loop-stage.self.ended _
    (c.read.ensures.same ∙ i.1) i.2 refl refl i.4
    (step_writes g.S.Script.plan g.S.Script.reply s.script s.pending s.ended past c.loop-stage.self.script i.1 s.asked c.requires.idle.0 c.loop-stage.stage (i.7 past f) c.in_ok-query.field-0 c.in-Is.writes c.take_first.new.self c.in-Some.write c.op_of.result
    (omega (arith, b, n)) c.in_ok-query.ensures.reads c.in-Is.is c.in-Some.ensures c.op_of.ensures)

pub loop-stage-preserved : goal.loop-stage-preserved
loop-stage-preserved g c =
    let s = c.args.self.now in
    let i = c.loop-stage.invariant in
    let b = c.loop-stage-test.true in
    let n = c.stage_count-count.ensures in (
      search rules,
      c.read.ensures.same ∙ i.1,
      i.2,
      i.3,
      i.4,
      search rules,
      i.6,
      λ past f.
          step_passes g.S.Script.plan g.S.Script.reply s.script s.pending s.ended past c.loop-stage.self.script i.1 s.asked c.requires.idle.0 c.loop-stage.stage (i.7 past f) c.in_ok-query.field-0 c.in-Is.writes
          (omega (arith, b, n)) c.in_ok-query.ensures.reads c.in-Is.is c.in_default.ensures.0,
    )

pub returns-in-Need-2-clause-goes : goal.returns-in-Need-2-clause-goes
returns-in-Need-2-clause-goes g c = λ past f.
    let s = c.args.self.now in
    let i = c.loop-stage.invariant in
    let b = c.loop-stage-test.false in
    let n = c.stage_count-count.ensures in
    let far : length (g.S.Script.plan s.script).stages ≤ c.if-self-count.stage =
    elim c.if-self-count.branch [ then-self-count w ↦ (let k = w.stage-is in omega (arith, k, n)) | else-self-count w ↦ (let k = w.stage-is in let h = w.if-self-count in omega (arith, k, h, n)) ] in
    if_ok c.ask-in-Need-2.result _ _ c.ask-in-Need-2.ensures.ok
    (λ op o.
    moved g.S.Script.plan g.S.Script.reply s.script s.pending s.ended past c.ask-in-Need-2.new.self.script c.ask-in-Need-2.new.self.asked c.ask-in-Need-2.new.self.asked c.ask-in-Need-2.new.self.pending c.if-self-count.stage c.ask-in-Need-2.new.self.stage c.ask-in-Need-2.new.self.ended _
    (c.ask-in-Need-2.ensures.rest.0 ∙ (c.finish.ensures.same ∙ i.1)) refl (c.ask-in-Need-2.ensures.rest.1 ∙ i.3) o.2 (c.ask-in-Need-2.ensures.rest.2 ∙ i.4)
    (step_asks_last g.S.Script.plan g.S.Script.reply s.script s.pending s.ended past c.loop-stage.self.script i.1 s.asked c.requires.idle.0 c.loop-stage.stage (i.7 past f) c.if-self-count.stage (omega (arith, b, n)) far c.in_ok-query-2.field-0 c.in-Need-2.query c.ask-in-Need-2.new.self.asked op
    c.in_ok-query-2.ensures.reads c.in-Need-2.is o.1 o.0))

pub returns-in-Is-2-clause-goes : goal.returns-in-Is-2-clause-goes
returns-in-Is-2-clause-goes g c = λ past f.
    let s = c.args.self.now in
    let i = c.loop-stage.invariant in
    let b = c.loop-stage-test.false in
    let n = c.stage_count-count.ensures in
    let far : length (g.S.Script.plan s.script).stages ≤ c.if-self-count.stage =
    elim c.if-self-count.branch [ then-self-count w ↦ (let k = w.stage-is in omega (arith, k, n)) | else-self-count w ↦ (let k = w.stage-is in let h = w.if-self-count in omega (arith, k, h, n)) ] in
    moved g.S.Script.plan g.S.Script.reply s.script s.pending true past c.finish.new.self s.asked c.loop-stage.self.asked c.loop-stage.self.pending c.if-self-count.stage c.if-self-count.stage true _
    (c.finish.ensures.same ∙ i.1) i.2 i.3 refl refl
    (step_ends g.S.Script.plan g.S.Script.reply s.script s.pending s.ended past c.loop-stage.self.script i.1 s.asked c.requires.idle.0 c.loop-stage.stage (i.7 past f) c.if-self-count.stage (omega (arith, b, n)) far c.in_ok-query-2.field-0 c.in-Is-2.outcome
    c.in_ok-query-2.ensures.reads c.in-Is-2.is)
