use Rattle.std.proofs.Common.{◌≡◌, ◌++◌, ◌+◌, refl, sym, ◌∙◌, ap, subst, drop}
use Rattle.sg_base.specs.declared.scope.Scope.{Scope}
use Rattle.sg_base.specs.declared.step.Step.{Step}
use Rattle.sg_base.specs.Graph.{row_of}
use Rattle.sg_base.specs.Path.{end_of}
use Rattle.sg_base.specs.PathTree.{path_at}
use Rattle.sg_base.specs.State.{IsOpen}
use Rattle.sg_state.specs.Held.{state_of}
use Rattle.sg_engine.specs.declared.work.Work.TheVariants.{Next}
use Rattle.sg_engine.specs.Keyed.{wanting_by}
use Rattle.sg_engine.specs.Tree.{paths_of, front_of, front_on}
use Rattle.sg_engine.proofs.Keying.{passes_more}
use Rattle.sg_engine.proofs.Stepping.{step_next, tree_took}
use Rattle.sg_engine.proofs.Taking.{aside_tree, aside_stands}
use Rattle.sg_engine.proofs.Growing.{place_kept}
use Rattle.sg_engine.proofs.explore.take_row.Goals as goal

pub push_row-requires-clause-tree : goal.push_row-requires-clause-tree
push_row-requires-clause-tree g c =
    let t = c.args.tree.now in
    let e = c.requires.tree.0 in
    let tree = c.requires.tree.1 in
    (e, (tree_took e t.start t.nodes.items t.blocked.items (drop t.next t.queue.items) (Next c.args.place c.args.l) t.found.items t.found.items t.explored t.going (tree.0).found_in tree.0, tree.1))

pub push_row-requires-clause-row : goal.push_row-requires-clause-row
push_row-requires-clause-row g c =
    let h = state_of c.args.h.now in
    let t = c.args.tree.now in
    let tree = c.requires.tree.1 in
    let at : end_of t.start (path_at (paths_of t.nodes.items) c.args.place) ≡ c.at.result.now.step.to = ((tree.0).node c.args.place c.at.ensures.0 c.requires.there c.at.ensures.1).ends ∙ ap (λ (x : Step). x.to) (sym c.at.ensures.3) in
    c.in-Some.ensures.closed.1 ∙ ap (λ (x : Scope). row_of h.graph x c.args.l) (sym at)

pub returns-in_ok-push_row-in-Some-clause-stands : goal.returns-in_ok-push_row-in-Some-clause-stands
returns-in_ok-push_row-in-Some-clause-stands g c = λ q start wants tree s.
    let h = state_of c.args.h.now in
    let t = c.args.tree.now in
    let k = c.args.place in
    let l = c.args.l in
    let work = drop t.next t.queue.items in
    let path = path_at (paths_of t.nodes.items) k in
    let at : end_of t.start (path_at (paths_of t.nodes.items) k) ≡ c.at.result.now.step.to = ((tree.0).node k c.at.ensures.0 c.requires.there c.at.ensures.1).ends ∙ ap (λ (x : Step). x.to) (sym c.at.ensures.3) in
    let p = c.in_ok-push_row-in-Some.ensures.tree q.expr (tree_took q.expr t.start t.nodes.items t.blocked.items work (Next k l) t.found.items t.found.items t.explored t.going (tree.0).found_in tree.0, tree.1) in
    let targets = (p.1).2 q refl start wants in (
      p.0,
      step_next h q t.nodes.items t.blocked.items work t.found.items t.explored t.going t.start start k l (p.1).0 targets.enough (front_of c.push_row.new.tree) s
          (λ b. c.in-Some.ensures.closed.0 (subst (λ (x : Scope). IsOpen h x l) at b)) (p.1).1,
      passes_more c.args.h.now (wanting_by g.I.Instance.wants g.I.Instance.datum_key g.I.Instance.pred_key c.args.pred.now) q (paths_of t.nodes.items) (paths_of c.push_row.new.tree.nodes.items) t.start path l (p.1).0 ((p.1).1).paths targets.kept,
    )

pub returns-in_ok-push_row-in-Some-clause-taken : goal.returns-in_ok-push_row-in-Some-clause-taken
returns-in_ok-push_row-in-Some-clause-taken g c =
    let t = c.args.tree.now in
    let e = c.requires.tree.0 in
    let tree = c.requires.tree.1 in
    let p = c.in_ok-push_row-in-Some.ensures.tree e (tree_took e t.start t.nodes.items t.blocked.items (drop t.next t.queue.items) (Next c.args.place c.args.l) t.found.items t.found.items t.explored t.going (tree.0).found_in tree.0, tree.1) in (
      c.push_row.ensures.explored,
      c.push_row.ensures.blocked,
      (λ k at. (place_kept e (front_on t.start t.nodes.items (t.blocked.items ++ drop t.next t.queue.items) t.found.items (t.explored + 1) t.going) (front_of c.push_row.new.tree) _ t.nodes.items c.push_row.new.tree.nodes.items k refl refl (p.1).1 at).1),
    )

pub returns-in_ok-push-in-None-clause-stands : goal.returns-in_ok-push-in-None-clause-stands
returns-in_ok-push-in-None-clause-stands g c = λ q start wants tree s.
    let t = c.args.tree.now in
    let w = Next c.args.place c.args.l in
    (aside_tree t w _ c.in_ok-push-in-None.ensures.items q.expr tree, aside_stands t w _ c.in_ok-push-in-None.ensures.items (state_of c.args.h.now) q s, (λ none. none))

pub returns-in_ok-push-in-None-clause-taken : goal.returns-in_ok-push-in-None-clause-taken
returns-in_ok-push-in-None-clause-taken g c =
    let h = state_of c.args.h.now in
    let t = c.args.tree.now in
    let tree = c.requires.tree.1 in
    let at : end_of t.start (path_at (paths_of t.nodes.items) c.args.place) ≡ c.at.result.now.step.to = ((tree.0).node c.args.place c.at.ensures.0 c.requires.there c.at.ensures.1).ends ∙ ap (λ (x : Step). x.to) (sym c.at.ensures.3) in
    (subst (λ (x : Scope). IsOpen h x c.args.l) (sym at) c.in-None.ensures.open, c.in_ok-push-in-None.ensures.items, refl, refl, refl, refl, refl)
