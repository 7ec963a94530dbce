use Rattle.std.proofs.Common.{Result, Ok, Err, OnOk, sym, subst}
use Rattle.sg_state.specs.Held.{state_of}
use Rattle.sg_engine.specs.declared.work.Work.{Work}
use Rattle.sg_engine.specs.Keyed.{wanting_by, PassesOver}
use Rattle.sg_engine.specs.Nodes.{NodesOf}
use Rattle.sg_engine.specs.Tree.{paths_of, IsTreeWith, StandsWith}
use Rattle.sg_engine.proofs.explore.take.Goals as goal

with_paths : {X E : Type 0} (A B C : Type 0) (r : Result X E) → OnOk r (A × B) → C → OnOk r (A × B × C)
with_paths A B C (Ok x) p c = (p.0, p.1, c)
with_paths A B C (Err e) p c = tt

pub take_row-requires-clause-tree : goal.take_row-requires-clause-tree
take_row-requires-clause-tree g c = (c.requires.tree.0, subst (λ (x : Work). IsTreeWith c.requires.tree.0 x c.args.tree.now) c.in-Next.is c.requires.tree.1)

pub take_datum-requires-clause-tree : goal.take_datum-requires-clause-tree
take_datum-requires-clause-tree g c = (c.requires.tree.0, subst (λ (x : Work). IsTreeWith c.requires.tree.0 x c.args.tree.now) c.in-Whole.is c.requires.tree.1)

pub returns-in-Next-clause-stands : goal.returns-in-Next-clause-stands
returns-in-Next-clause-stands g c = λ q start wants tree s.
    let t = c.args.tree.now in
    c.take_row.ensures.stands q start wants (subst (λ (x : Work). IsTreeWith q.expr x t) c.in-Next.is tree) (subst (λ (x : Work). StandsWith (state_of c.args.h.now) q x t) c.in-Next.is s)

pub returns-in-Whole-clause-stands : goal.returns-in-Whole-clause-stands
returns-in-Whole-clause-stands g c = λ q start wants tree s.
    let t = c.args.tree.now in
    with_paths _ _ _ c.take_datum.result (c.take_datum.ensures.stands q start wants (subst (λ (x : Work). IsTreeWith q.expr x t) c.in-Whole.is tree) (subst (λ (x : Work). StandsWith (state_of c.args.h.now) q x t) c.in-Whole.is s))
    (λ none. subst (λ (ns : NodesOf). PassesOver c.args.h.now (wanting_by g.I.Instance.wants g.I.Instance.datum_key g.I.Instance.pred_key c.args.pred.now) q (paths_of ns.items)) (sym c.take_datum.ensures.nodes) none)

pub returns-in-Next-clause-taken : goal.returns-in-Next-clause-taken
returns-in-Next-clause-taken g c = rw c.in-Next.is c.take_row.ensures.taken

pub returns-in-Whole-clause-taken : goal.returns-in-Whole-clause-taken
returns-in-Whole-clause-taken g c = rw c.in-Whole.is c.take_datum.ensures.taken
