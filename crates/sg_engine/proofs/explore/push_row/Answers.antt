use Rattle.std.proofs.Common.{◌≡◌, ◌++◌, ◌∷◌, [], List, ℕ, ◌⊎◌, Some, inl, inr, sym, ap, ◌∙◌, subst}
use Rattle.sg_base.specs.declared.scope.Scope.{Scope}
use Rattle.sg_base.specs.Graph.{row_of}
use Rattle.sg_base.specs.Path.{end_of, word_of}
use Rattle.sg_base.specs.PathTree.{path_at}
use Rattle.sg_expr.specs.Tree.{ExprOf}
use Rattle.sg_expr.specs.Word.{IsContinuable}
use Rattle.sg_engine.specs.Keyed.{wanting_by, AreKeyedTargets}
use Rattle.sg_engine.specs.Tree.{paths_of}
use Rattle.sg_engine.proofs.Keying.{whole_row, goes_behind, on_ok}
use Rattle.sg_engine.proofs.Resting.{there_is}
use Rattle.sg_engine.proofs.explore.push_row.Goals as goal
use Rattle.sg_engine.proofs.explore.push_row.Goals.{then-not-goes_on+in_default, else-not-goes_on}

pub returns-in-Some-clause-tree : goal.returns-in-Some-clause-tree
returns-in-Some-clause-tree g c = λ e tree.
    let key = sym c.key_of_pred.ensures ∙ c.in-Some.is in
    on_ok _ _ c.push_keyed.result (c.push_keyed.ensures.tree e tree) (λ p. (p.0, ((p.1).0, (p.1).1, λ q words start wants. (p.1).2 q c.args.pred.now words start wants key)))

pub returns-clause-tree : goal.returns-clause-tree
returns-clause-tree g c = λ e tree.
    let t = c.args.tree.now in
    let path = path_at (paths_of t.nodes.items) c.args.place in
    let k0 = wanting_by g.I.Instance.wants g.I.Instance.datum_key g.I.Instance.pred_key c.args.pred.now in
    let n = there_is t.nodes.items c.args.place c.requires.there in
    let why : ((w : ℕ) → k0.wanted ≡ Some w → ⊥) ⊎ IsContinuable e (word_of path ++ c.args.l ∷ []) = elim c.if-not-goes_on.branch [
      | then-not-goes_on+in_default w ↦ inl (λ x y. cc (w.key_of_pred.ensures, w.in_default.is, y))
      | else-not-goes_on w ↦ inr (goes_behind e t.nodes t.start c.args.place c.args.l c.set_after-set.result n.0 path n.1 ((tree.0).node c.args.place n.0 c.requires.there n.1) c.set_after-set.ensures
          ((rw c.words.ensures at c.goes_on.ensures).0 w.if-not-goes_on.false))
    ] in
    on_ok _ _ c.push_targets.result (c.push_targets.ensures.tree e tree) (λ p. (
      p.0,
      (
        c.args.row.now,
        p.1,
        λ q words start wants.
            let here : c.args.row.now ≡ row_of c.args.h.now.graph (end_of q.start path) c.args.l = c.requires.row ∙ ap (λ (s : Scope). row_of c.args.h.now.graph (end_of s path) c.args.l) (sym start) in
            subst (λ (ts : List Scope). AreKeyedTargets c.args.h.now k0 q path c.args.l ts) (sym here)
            (whole_row c.args.h.now c.requires.held.graph k0 q path c.args.l (subst (λ (y : ExprOf). ((w : ℕ) → k0.wanted ≡ Some w → ⊥) ⊎ IsContinuable y (word_of path ++ c.args.l ∷ [])) (sym words) why)),
      ),
    ))
