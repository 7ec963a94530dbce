use Rattle.std.proofs.Common.{◌≡◌, [], List, refl, sym, ap, ◌∙◌, subst}
use Rattle.std.specs.List.{Contains}
use Rattle.sg_base.specs.declared.step.Step.{Step}
use Rattle.sg_base.proofs.Finite.{single}
use Rattle.sg_expr.specs.Tree.{ExprOf, expr_of}
use Rattle.sg_query.specs.Query.{KindOf, asked}
use Rattle.sg_query.proofs.Paths.{snoc_not_nil}
use Rattle.sg_engine.specs.Tree.{front_of, IsTree}
use Rattle.sg_engine.proofs.Exploring.{stands_first}
use Rattle.sg_engine.proofs.search.Search.start.Goals as goal

pub invariant_of-result : goal.invariant_of-result
invariant_of-result g c =
    let q = asked g.I.Instance.wants g.I.Instance.same_datum c.args.t.now c.args.q in
    let is : expr_of c.of.result.value ≡ q.expr = ap expr_of c.of.ensures ∙ ap (λ (k : KindOf). k.expr) c.kind-kind.ensures.kind in
    let made = c.in_ok-tree.ensures.tree q.expr c.in_ok-words.ensures in
    (subst (λ (e : ExprOf). IsTree e c.in_ok-tree.tree) (sym is) made.0, sym c.in_ok-tree.ensures.start)

pub returns-clause-stands : goal.returns-clause-stands
returns-clause-stands g c = λ h.
    let q = asked g.I.Instance.wants g.I.Instance.same_datum c.args.t.now c.args.q in
    let made = c.in_ok-tree.ensures.tree q.expr c.in_ok-words.ensures in
    ([], stands_first h q (front_of c.in_ok-tree.tree) made.1)

pub returns-clause-keyed : goal.returns-clause-keyed
returns-clause-keyed g c = λ h ps k over.
    let q = asked g.I.Instance.wants g.I.Instance.same_datum c.args.t.now c.args.q in
    let made = c.in_ok-tree.ensures.tree q.expr c.in_ok-words.ensures in
    let none : ps ≡ [] = single [] ps (subst (λ (t : List (List Step)). Contains t ps) (made.1).paths k) in
    snoc_not_nil over.1 over.2 (sym none ∙ over.3)

pub returns-clause-none : goal.returns-clause-none
returns-clause-none g c =
    let q = asked g.I.Instance.wants g.I.Instance.same_datum c.args.t.now c.args.q in
    let made = c.in_ok-tree.ensures.tree q.expr c.in_ok-words.ensures in
    ((made.1).explored, c.new.ensures.items, refl)
