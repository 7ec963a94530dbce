use Rattle.std.proofs.Common.{◌∙◌, ◌+◌, refl, sym, ap, subst, arith}
use Rattle.sg_expr.specs.Tree.{expr_of}
use Rattle.sg_query.specs.Query.{KindOf, asked}
use Rattle.sg_state.specs.Held.{state_of}
use Rattle.sg_engine.specs.Front.{Front, Stands}
use Rattle.sg_engine.specs.Keyed.{PassesOver, wanting_by}
use Rattle.sg_engine.specs.Search.{SearchOf}
use Rattle.sg_engine.specs.Tree.{paths_of, front_of}
use Rattle.sg_engine.proofs.Advancing.{search_here, own_tree, back_front, back_tree, back_view, advanced, fewer}
use Rattle.sg_engine.proofs.search.Search.advance.Goals as goal
use Rattle.sg_engine.proofs.search.Search.advance.Goals.{in-Some-1, in-None-2}

pub try_advance-requires-clause-stands : goal.try_advance-requires-clause-stands
try_advance-requires-clause-stands g c =
    let table = rw (← c.self.view_is) at c.requires.table in
    let stands = rw (← c.self.view_is) at c.requires.stands in
    let from = paths_of c.self.inside.tree.nodes.items in
    let k0 = wanting_by g.I.Instance.wants g.I.Instance.datum_key g.I.Instance.pred_key c.self.inside.query.pred in
    let q = asked g.I.Instance.wants g.I.Instance.same_datum c.args.t.now c.self.inside.query in
    (q, from, search_here c.args.h.now k0 from q (expr_of c.self.inside.expr.value) c.self.inside.tree refl c.self.invariant table.expr stands (λ y. y))

pub invariant_of-self : goal.invariant_of-self
invariant_of-self g c =
    let table = rw (← c.self.view_is) at c.requires.table in
    let stands = rw (← c.self.view_is) at c.requires.stands in
    let from = paths_of c.self.inside.tree.nodes.items in
    let k0 = wanting_by g.I.Instance.wants g.I.Instance.datum_key g.I.Instance.pred_key c.self.inside.query.pred in
    let q = asked g.I.Instance.wants g.I.Instance.same_datum c.args.t.now c.self.inside.query in
    let h = state_of c.args.h.now in
    let e = expr_of c.self.inside.expr.value in
    let s = c.in-Ok.ensures.stands q from (search_here c.args.h.now k0 from q e c.self.inside.tree refl c.self.invariant table.expr stands (λ y. y)) in
    own_tree c.args.h.now k0 from q e c.try_advance.new.tree table.expr s.0

pub invariant_of-self-in-Ok-2 : goal.invariant_of-self-in-Ok-2
invariant_of-self-in-Ok-2 g c =
    let table = rw (← c.self.view_is) at c.requires.table in
    let stands = rw (← c.self.view_is) at c.requires.stands in
    let from = paths_of c.self.inside.tree.nodes.items in
    let k0 = wanting_by g.I.Instance.wants g.I.Instance.datum_key g.I.Instance.pred_key c.self.inside.query.pred in
    let q = asked g.I.Instance.wants g.I.Instance.same_datum c.args.t.now c.self.inside.query in
    let h = state_of c.args.h.now in
    let e = expr_of c.self.inside.expr.value in
    let s = c.in-Ok.ensures.stands q from (search_here c.args.h.now k0 from q e c.self.inside.tree refl c.self.invariant table.expr stands (λ y. y)) in
    own_tree c.args.h.now k0 from q e c.try_advance.new.tree table.expr s.0

pub invariant_of-self-in-Err : goal.invariant_of-self-in-Err
invariant_of-self-in-Err g c =
    let k = c.go_back.ensures c.self.inside.tree c.mark-mark.ensures c.in-Err.ensures.back in
    (back_tree c.self.inside.tree c.go_back.new.self k (expr_of c.self.inside.expr.value) c.self.invariant.0, c.self.invariant.1 ∙ sym k.start)

pub returns-in-Ok : goal.returns-in-Ok
returns-in-Ok g c =
    let table = rw (← c.self.view_is) at c.requires.table in
    let stands = rw (← c.self.view_is) at c.requires.stands in
    let from = paths_of c.self.inside.tree.nodes.items in
    let k0 = wanting_by g.I.Instance.wants g.I.Instance.datum_key g.I.Instance.pred_key c.self.inside.query.pred in
    let start_in = rw (← c.self.view_is) at c.requires.start in
    let q = asked g.I.Instance.wants g.I.Instance.same_datum c.args.t.now c.self.inside.query in
    let h = state_of c.args.h.now in
    let t = c.self.inside.tree in
    let u = c.try_advance.new.tree in
    let e = expr_of c.self.inside.expr.value in
    let s = c.in-Ok.ensures.stands q from (search_here c.args.h.now k0 from q e t refl c.self.invariant table.expr stands (λ y. y)) in
    let old : SearchOf g.row.I-Pred.Denot g.row.I-Datum.Denot = record { query = c.self.inside.query; expr = e; front = front_of t; needs = c.self.inside.needs.items; answer = c.self.inside.answer } in
    let outcome = rw (ap (λ (k : KindOf). k.order) c.kind-kind.ensures.kind) at c.in-Ok.ensures.outcome in
    elim c.match-spent.branch [
      | in-Some-1 w ↦ rw (w.self-is, ← c.self.view_is) (record {
        query = refl;
        table = record { kind = table.kind; expr = table.expr };
        stands = ((s.0).0).3;
        progress = advanced c.args.h.now k0 from q c.self.inside.query e old u c.in-Ok.outcome.needs.items c.in-Ok.outcome.answer c.in-Ok.outcome.progress c.datum_holder-holder.ensures.sound.graph start_in s.0 s.1 outcome;
        keyed = (s.0).0.4;
        fewer = λ none e. fewer c.args.h.now k0 from q (t.explored + 64) u c.in-Ok.outcome.progress s.0 s.1 e none;
        more = c.in-Ok.ensures.more;
        err = tt;
      })
      | in-None-2 w ↦ rw (w.self-is, ← c.self.view_is) (record {
        query = refl;
        table = record { kind = table.kind; expr = table.expr };
        stands = ((s.0).0).3;
        progress = advanced c.args.h.now k0 from q c.self.inside.query e old u c.in-Ok.outcome.needs.items c.in-Ok.outcome.answer c.in-Ok.outcome.progress c.datum_holder-holder.ensures.sound.graph start_in s.0 s.1 outcome;
        keyed = (s.0).0.4;
        fewer = λ none e. fewer c.args.h.now k0 from q (t.explored + 64) u c.in-Ok.outcome.progress s.0 s.1 e none;
        more = c.in-Ok.ensures.more;
        err = tt;
      })
    ]

pub returns-in-Err : goal.returns-in-Err
returns-in-Err g c =
    let table = rw (← c.self.view_is) at c.requires.table in
    let stands = rw (← c.self.view_is) at c.requires.stands in
    let from = paths_of c.self.inside.tree.nodes.items in
    let k0 = wanting_by g.I.Instance.wants g.I.Instance.datum_key g.I.Instance.pred_key c.self.inside.query.pred in
    let q = asked g.I.Instance.wants g.I.Instance.same_datum c.args.t.now c.self.inside.query in
    let h = state_of c.args.h.now in
    let t = c.self.inside.tree in
    let u = c.go_back.new.self in
    let k = c.go_back.ensures t c.mark-mark.ensures c.in-Err.ensures.back in
    rw (← c.self.view_is) (record {
      query = refl;
      table = record { kind = table.kind; expr = table.expr };
      stands = subst (λ (f : Front g.row.I-Datum.Denot). Stands h q f) (sym (back_front t u k)) stands;
      progress = tt;
      keyed = λ none. subst (λ (f : Front g.row.I-Datum.Denot). PassesOver c.args.h.now k0 q f.paths) (sym (back_front t u k)) none;
      fewer = λ none. tt;
      more = omega (arith, ap (λ (f : Front g.row.I-Datum.Denot). f.explored) (back_front t u k));
      err = back_view t u k c.self.inside.query (expr_of c.self.inside.expr.value) c.self.inside.needs.items c.self.inside.answer;
    })
