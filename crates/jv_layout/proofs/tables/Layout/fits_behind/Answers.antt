use Rattle.std.proofs.Common.{◌<◌, sym, ◌∙◌, ap, length, arith}
use Rattle.jv_layout.proofs.Fitting.{last_astray, last_fitting, may_be, end_last, front_kept, front_long, front_fits}
use Rattle.jv_layout.specs.Scopes.{place_of}
use Rattle.jv_layout.proofs.tables.Layout.fits_behind.Goals as goal

pub returns-then-not-may_step : goal.returns-then-not-may_step
returns-then-not-may_step c =
    let i = c.loop-at.invariant in
    let e = c.in-Some.ensures in
    let m = may_be c.args.self.now c.in-Some.before c.in-Some.step c.end-last.result c.place-from.result c.loop-at.to c.number.result c.end-last.ensures c.place-from.ensures.value (i.ends ∙ ap (place_of c.args.self.now) (end_last c.loop-at.at.start c.loop-at.at.steps c.in-Some.before.steps c.in-Some.step e.1)) c.number.ensures.value in
    sym (i.same ∙ last_astray c.args.self.now c.loop-at.at c.in-Some.before c.in-Some.step e.0 e.1 (sym m ∙ (sym c.may_step.ensures ∙ c.if-not-may_step.true)))

pub loop-at-preserved-in-Some : goal.loop-at-preserved-in-Some
loop-at-preserved-in-Some c =
    let i = c.loop-at.invariant in
    let e = c.in-Some.ensures in
    let m = may_be c.args.self.now c.in-Some.before c.in-Some.step c.end-last.result c.place-from.result c.loop-at.to c.number.result c.end-last.ensures c.place-from.ensures.value (i.ends ∙ ap (place_of c.args.self.now) (end_last c.loop-at.at.start c.loop-at.at.steps c.in-Some.before.steps c.in-Some.step e.1)) c.number.ensures.value in
    let longer : c.args.known < length c.loop-at.at.steps = omega (arith, c.loop-at-test.true, c.len.ensures) in
    record {
      start = e.0 ∙ i.start;
      same = i.same ∙ last_fitting c.args.self.now c.loop-at.at c.in-Some.before c.in-Some.step e.0 e.1 (sym m ∙ (sym c.may_step.ensures ∙ c.if-not-may_step.false));
      ends = c.place-from.ensures.value ∙ ap (place_of c.args.self.now) c.end-last.ensures;
      within = front_long c.args.known c.loop-at.at.steps c.in-Some.before.steps c.in-Some.step e.1 longer;
      front = front_kept c.args.known c.loop-at.at.steps c.in-Some.before.steps c.in-Some.step e.1 longer ∙ i.front;
    }

pub loop-at-preserved : goal.loop-at-preserved
loop-at-preserved c = absurd (omega (arith, ap length c.in_default.ensures, c.loop-at-test.true, c.len.ensures))

pub returns : goal.returns
returns c =
    let i = c.loop-at.invariant in
    sym (i.same ∙ front_fits c.args.self.now c.args.p.now c.loop-at.at c.args.known i.start i.front (omega (arith, c.loop-at-test.false, c.len.ensures)) c.requires.front)
