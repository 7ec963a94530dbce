use Rattle.std.proofs.Common.{◌≡◌, sym, ◌∙◌, ap, subst, Option}
use Rattle.sg_query.specs.declared.answer.Answer.{Answer}
use Rattle.sg_query.specs.declared.query.Query.{Query}
use Rattle.sg_query.specs.Answer.{IsAnswer}
use Rattle.sg_query.specs.Query.{asked}
use Rattle.sg_query.specs.State.{IsSettled}
use Rattle.sg_engine.specs.declared.progress.Progress.{Progress}
use Rattle.sg_engine.specs.declared.progress.Progress.TheVariants.{Ready}
use Rattle.sg_engine.specs.Search.{IsProgress}
use Rattle.sg_state.specs.Held.{state_of}
use Rattle.sg_core.proofs.Answering.{the_some}
use Rattle.sg_core.proofs.ahead.search_ahead.Goals as goal

pub returns-in-Ready : goal.returns-in-Ready
returns-in-Ready g c =
    let wants = g.I.Instance.wants in
    let same = g.I.Instance.same_datum in
    let h = c.args.h.now in
    let s = c.loop-n.search in
    let t = c.advance.new.self in
    let p = c.in_ok-advance.ensures.progress in
    let w : IsProgress (state_of h) (asked wants same c.args.t.now s.query) s t Ready = subst (λ (x : Progress). IsProgress (state_of h) (asked wants same c.args.t.now s.query) s t x) c.in-Ready.is p in
    let same_answer : w.3.0 ≡ c.into_answer.result = ap (λ (o : Option (Answer g.row.I-Datum.Denot)). the_some w.3.0 o) (sym w.3.1 ∙ c.into_answer.ensures) in (
      subst (λ (q : Query g.row.I-Pred.Denot). IsSettled (state_of h) (asked wants same c.args.t.now q)) c.loop-n.invariant.0 w.2,
      subst (λ (q : Query g.row.I-Pred.Denot). IsAnswer h.graph (asked wants same c.args.t.now q) c.into_answer.result) c.loop-n.invariant.0
          (subst (λ (a : Answer g.row.I-Datum.Denot). IsAnswer h.graph (asked wants same c.args.t.now s.query) a) same_answer w.3.2),
    )
