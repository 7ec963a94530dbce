use Rattle.std.proofs.Common.{◌≡◌, ◌++◌, ◌∷◌, [], refl, sym, ap, subst, ◌∙◌}
use Rattle.sg_base.specs.declared.scope.Scope.{Scope}
use Rattle.sg_base.specs.declared.step.Step.{Step}
use Rattle.sg_base.specs.Path.{end_of, word_of}
use Rattle.sg_base.specs.PathTree.{path_at}
use Rattle.sg_expr.specs.Tree.{ExprOf}
use Rattle.sg_expr.specs.Word.{IsContinuable}
use Rattle.sg_engine.specs.Keyed.{wanting_by}
use Rattle.sg_engine.specs.Tree.{paths_of, front_of}
use Rattle.sg_engine.proofs.Growing.{gains_two, place_kept}
use Rattle.sg_engine.proofs.Keying.{keyed_targets, ends_behind}
use Rattle.sg_engine.proofs.Resting.{after_kept}
use Rattle.sg_engine.proofs.explore.push_keyed.Goals as goal

pub push_targets-requires-2-clause-tree : goal.push_targets-requires-2-clause-tree
push_targets-requires-2-clause-tree g c = (c.requires.tree.0, (c.in_ok-push_targets.ensures.tree c.requires.tree.0 c.requires.tree.1).0)

pub push_targets-requires-2-clause-after : goal.push_targets-requires-2-clause-after
push_targets-requires-2-clause-after g c =
    after_kept c.args.tree.now.nodes c.push_targets.new.self.nodes c.args.place c.args.l c.args.set c.in_ok-push_targets.ensures.lists.nodes c.in_ok-push_targets.ensures.words c.requires.there c.requires.after

pub returns-clause-tree : goal.returns-clause-tree
returns-clause-tree g c = λ e tree.
    let t = c.args.tree.now in
    let m = c.push_targets.new.self in
    let p = c.in_ok-push_targets.ensures.tree e tree in
    let r = c.in_ok-push_targets-2.ensures.tree e p.0 in
    let kept = place_kept e (front_of t) (front_of m) _ t.nodes.items m.nodes.items c.args.place refl refl p.1 c.requires.there in
    let at : end_of t.start (path_at (paths_of t.nodes.items) c.args.place) ≡ c.at.result.now.step.to = ((tree.0).node c.args.place c.at.ensures.0 c.requires.there c.at.ensures.1).ends ∙ ap (λ (x : Step). x.to) (sym c.at.ensures.3) in (
      r.0,
      (
        c.row_keyed.result.now ++ c.row_rest.result.now,
        gains_two e (front_of t) (front_of m) (front_of c.push_targets-2.new.self) t.start m.start (path_at (paths_of t.nodes.items) c.args.place) (path_at (paths_of m.nodes.items) c.args.place) c.args.l c.row_keyed.result.now c.row_rest.result.now c.in_ok-push_targets.ensures.lists.start kept.1 p.1 r.1,
        λ q x words start wants key.
            let here : c.at.result.now.step.to ≡ end_of q.start (path_at (paths_of t.nodes.items) c.args.place) = sym (ap (λ (s : Scope). end_of s (path_at (paths_of t.nodes.items) c.args.place)) start ∙ at) in
            let dead = subst (λ (y : ExprOf). IsContinuable y (word_of (path_at (paths_of t.nodes.items) c.args.place) ++ c.args.l ∷ []) → ⊥) (sym words)
            (ends_behind e t.nodes t.start c.args.place c.args.l c.args.set c.at.ensures.0 (path_at (paths_of t.nodes.items) c.args.place) c.at.ensures.1 ((tree.0).node c.args.place c.at.ensures.0 c.requires.there c.at.ensures.1) c.requires.after c.requires.ends) in
            keyed_targets c.args.h.now c.row_keyed.ensures.sound (wanting_by g.I.Instance.wants g.I.Instance.datum_key g.I.Instance.pred_key x) q wants (path_at (paths_of t.nodes.items) c.args.place) c.args.l c.args.key key
            (λ d w. g.met.I.Instance.keyed x d c.args.key key w) dead c.row_keyed.result.now c.row_rest.result.now
            (rw here at c.row_keyed.ensures.exact) c.row_keyed.ensures.rising (rw here at c.row_rest.ensures.exact) c.row_rest.ensures.rising,
      ),
    )
