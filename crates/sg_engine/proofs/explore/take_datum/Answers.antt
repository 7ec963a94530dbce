use Rattle.std.proofs.Common.{◌≡◌, ◌++◌, ◌∷◌, [], ◌<◌, length, refl, sym, ◌∙◌, ap, subst, IsTrue, drop, Bool, ◌↔◌}
use Rattle.sg_base.specs.declared.scope.Scope.{Scope}
use Rattle.sg_base.specs.declared.step.Step.{Step}
use Rattle.sg_base.specs.Graph.{HasDatum}
use Rattle.sg_base.specs.Path.{end_of}
use Rattle.sg_base.specs.PathTree.{path_at}
use Rattle.sg_base.specs.State.{IsUnset}
use Rattle.sg_base.proofs.Edges.{one_datum}
use Rattle.sg_query.specs.declared.found_at.FoundAt.{FoundAt}
use Rattle.sg_state.specs.Held.{state_of}
use Rattle.sg_state.proofs.Extending.{unset_from}
use Rattle.sg_engine.specs.declared.work.Work.TheVariants.{Whole}
use Rattle.sg_engine.specs.Tree.{paths_of}
use Rattle.sg_engine.proofs.Listing.{front_same, front_more}
use Rattle.sg_engine.proofs.Stepping.{step_whole, reads_none, reads_one, each_push, tree_took}
use Rattle.sg_engine.proofs.Taking.{aside_tree, aside_stands}
use Rattle.sg_engine.proofs.explore.take_datum.Goals as goal

pub returns-in_ok-push-in-Unset-clause-stands : goal.returns-in_ok-push-in-Unset-clause-stands
returns-in_ok-push-in-Unset-clause-stands g c = λ q start wants tree s.
    let t = c.args.tree.now in
    let w = Whole c.args.place in
    (aside_tree t w _ c.in_ok-push-in-Unset.ensures.items q.expr tree, aside_stands t w _ c.in_ok-push-in-Unset.ensures.items (state_of c.args.h.now) q s)

pub returns-in_ok-push-in-Unset-clause-taken : goal.returns-in_ok-push-in-Unset-clause-taken
returns-in_ok-push-in-Unset-clause-taken g c =
    let h = state_of c.args.h.now in
    let t = c.args.tree.now in
    let tree = c.requires.tree.1 in
    let at : end_of t.start (path_at (paths_of t.nodes.items) c.args.place) ≡ c.at.result.now.step.to = ((tree.0).node c.args.place c.at.ensures.0 c.requires.there c.at.ensures.1).ends ∙ ap (λ (x : Step). x.to) (sym c.at.ensures.3) in
    let unset : IsUnset h c.at.result.now.step.to = rw c.in-Unset.is at c.datum.ensures in
    (subst (λ (x : Scope). IsUnset h x) (sym at) unset, c.in_ok-push-in-Unset.ensures.items, refl, refl, refl, refl, refl)

pub returns-in_ok-push-in-Set-clause-stands : goal.returns-in_ok-push-in-Set-clause-stands
returns-in_ok-push-in-Set-clause-stands g c = λ q start wants tree s.
    let h = state_of c.args.h.now in
    let t = c.args.tree.now in
    let d0 = c.in-Set.d.now in
    let work = drop t.next t.queue.items in
    let at : end_of t.start (path_at (paths_of t.nodes.items) c.args.place) ≡ c.at.result.now.step.to = ((tree.0).node c.args.place c.at.ensures.0 c.requires.there c.at.ensures.1).ends ∙ ap (λ (x : Step). x.to) (sym c.at.ensures.3) in
    let here : HasDatum h.graph c.at.result.now.step.to d0 = rw c.in-Set.is at c.datum.ensures in
    let free : IsUnset h (end_of t.start (path_at (paths_of t.nodes.items) c.args.place)) → ⊥ = λ o. (let k = unset_from c.args.h.now c.at.result.now.step.to (subst (λ (x : Scope). IsUnset h x) at o) in c.requires.held.unset k.0 c.at.result.now.step.to d0 k.1 here) in
    let x : FoundAt g.row.I-Datum.Denot = record { place = c.args.place; datum = d0 } in
    let wanted : IsTrue (q.wants d0) = ap (λ (f : g.row.I-Datum.Denot → Bool). f d0) wants ∙ (sym c.matches.ensures ∙ c.if-matches.true) in
    let only : (d : g.row.I-Datum.Denot) → (HasDatum h.graph c.at.result.now.step.to d) ↔ (d ≡ d0) =
    λ d. ((λ k. one_datum h.graph.given c.requires.held.graph.data_rise c.at.result.now.step.to d d0 k here), (λ e. subst (λ (v : g.row.I-Datum.Denot). HasDatum h.graph c.at.result.now.step.to v) (sym e) here)) in
    let reads = reads_one h q t.nodes.items t.blocked.items work t.found.items t.explored t.going t.start c.args.place x refl (λ d. subst (λ (y : Scope). (HasDatum h.graph y d) ↔ (d ≡ d0)) (sym at) (only d)) wanted in
    rw (c.in_ok-push-in-Set.ensures.items, c.in_ok-datum-in-Set.ensures) (
      (tree_took q.expr t.start t.nodes.items t.blocked.items work (Whole c.args.place) t.found.items (t.found.items ++ x ∷ []) t.explored t.going (each_push (λ (f : FoundAt g.row.I-Datum.Denot). f.place < length t.nodes.items) t.found.items x (tree.0).found_in c.requires.there) tree.0, tree.1),
      step_whole h q t.nodes.items t.blocked.items work t.found.items t.explored t.going t.start start c.args.place (t.found.items ++ x ∷ []) reads s free,
    )

pub returns-else-matches-clause-stands : goal.returns-else-matches-clause-stands
returns-else-matches-clause-stands g c = λ q start wants tree s.
    let h = state_of c.args.h.now in
    let t = c.args.tree.now in
    let d0 = c.in-Set.d.now in
    let work = drop t.next t.queue.items in
    let at : end_of t.start (path_at (paths_of t.nodes.items) c.args.place) ≡ c.at.result.now.step.to = ((tree.0).node c.args.place c.at.ensures.0 c.requires.there c.at.ensures.1).ends ∙ ap (λ (x : Step). x.to) (sym c.at.ensures.3) in
    let here : HasDatum h.graph c.at.result.now.step.to d0 = rw c.in-Set.is at c.datum.ensures in
    let free : IsUnset h (end_of t.start (path_at (paths_of t.nodes.items) c.args.place)) → ⊥ = λ o. (let k = unset_from c.args.h.now c.at.result.now.step.to (subst (λ (x : Scope). IsUnset h x) at o) in c.requires.held.unset k.0 c.at.result.now.step.to d0 k.1 here) in (
      (tree_took q.expr t.start t.nodes.items t.blocked.items work (Whole c.args.place) t.found.items t.found.items t.explored t.going (tree.0).found_in tree.0, tree.1),
      step_whole h q t.nodes.items t.blocked.items work t.found.items t.explored t.going t.start start c.args.place t.found.items
          (reads_none h q t.nodes.items t.blocked.items work t.found.items t.explored t.going t.start c.args.place
          (λ d k m. cc (ap (λ (y : g.row.I-Datum.Denot). q.wants y) (one_datum h.graph.given c.requires.held.graph.data_rise c.at.result.now.step.to d d0 (subst (λ (x : Scope). HasDatum h.graph x d) at k) here), ap (λ (f : g.row.I-Datum.Denot → Bool). f d0) wants, c.matches.ensures, c.if-matches.false, m))) s free,
    )

pub returns-in_ok-push-in-Set-clause-lists : goal.returns-in_ok-push-in-Set-clause-lists
returns-in_ok-push-in-Set-clause-lists g c =
    let t = c.args.tree.now in
    record { start = refl; nodes = front_same t.nodes.items; queue = front_same t.queue.items; blocked = front_same t.blocked.items; found = front_more t.found.items _ _ c.in_ok-push-in-Set.ensures.items }

pub returns-in-Absent-clause-stands : goal.returns-in-Absent-clause-stands
returns-in-Absent-clause-stands g c = λ q start wants tree s.
    let h = state_of c.args.h.now in
    let t = c.args.tree.now in
    let work = drop t.next t.queue.items in
    let at : end_of t.start (path_at (paths_of t.nodes.items) c.args.place) ≡ c.at.result.now.step.to = ((tree.0).node c.args.place c.at.ensures.0 c.requires.there c.at.ensures.1).ends ∙ ap (λ (x : Step). x.to) (sym c.at.ensures.3) in
    let none = rw c.in-Absent.is at c.datum.ensures in (
      (tree_took q.expr t.start t.nodes.items t.blocked.items work (Whole c.args.place) t.found.items t.found.items t.explored t.going (tree.0).found_in tree.0, tree.1),
      step_whole h q t.nodes.items t.blocked.items work t.found.items t.explored t.going t.start start c.args.place t.found.items
          (reads_none h q t.nodes.items t.blocked.items work t.found.items t.explored t.going t.start c.args.place (λ d k m. none.1 d (subst (λ (x : Scope). HasDatum h.graph x d) at k))) s
          (λ o. none.0 (subst (λ (x : Scope). IsUnset h x) at o)),
    )

pub returns-in-Absent-clause-taken : goal.returns-in-Absent-clause-taken
returns-in-Absent-clause-taken g c = (refl, refl, λ k at. refl)
