use Rattle.std.proofs.Common.{◌≡◌, List, [], ◌∷◌, ◌++◌, refl, sym, ap, ◌∙◌, subst, append_assoc}
use Rattle.std.specs.List.{Contains}
use Rattle.std.specs.Vec.Iter.{into_iter_items}
use Rattle.sg_base.specs.declared.scope.Scope.{Scope}
use Rattle.sg_base.specs.declared.step.Step.{Step}
use Rattle.sg_base.proofs.Finite.{Contains-head, Contains-tail}
use Rattle.sg_query.specs.declared.found.Found.{Found}
use Rattle.sg_query.specs.Found.{FoundTreeOf}
use Rattle.sg_query.proofs.Trees.{found_of, tree_from}
use Rattle.sg_query.proofs.laid_out.laid_out.Goals as goal

-- the next path moves over
next_over : {D : Type 0} (start : Scope) (t u : FoundTreeOf D) (f : Found D) (items rest all : List (Found D)) (steps : List Step) → u ≡ tree_from t.start (t.found ++ found_of t.start steps f.datum ∷ []) → t.start ≡ start → f.path.start ≡ start → steps ≡ f.path.steps → items ≡ f ∷ rest → t.found ++ items ≡ all → u.found ++ rest ≡ all
next_over {D} start t u f items rest all steps made from same steps_are next whole =
    let it : found_of t.start steps f.datum ≡ f = ap (λ (s : Scope). found_of s steps f.datum) (from ∙ sym same) ∙ ap (λ (ps : List Step). found_of f.path.start ps f.datum) steps_are in
    ap (λ (v : FoundTreeOf D). v.found ++ rest) made
    ∙ (ap (λ (h : Found D). (t.found ++ h ∷ []) ++ rest) it
    ∙ (append_assoc t.found (f ∷ []) rest
    ∙ (ap (λ (l : List (Found D)). t.found ++ l) (sym next) ∙ whole)))

pub loop-found-init : goal.loop-found-init
loop-found-init g c = record {
  start = ap (λ (t : FoundTreeOf g.row.D.Denot). t.start) c.new-tree.ensures;
  whole = ap (λ (t : FoundTreeOf g.row.D.Denot). t.found ++ into_iter_items c.into_iter-found-iterator.result) c.new-tree.ensures;
  same = λ f k. c.requires f (subst (λ (l : List (Found g.row.D.Denot)). Contains l f) c.into_iter-found-iterator.ensures.into_iter_gives.0 k);
}

pub loop-found-preserved : goal.loop-found-preserved
loop-found-preserved g c =
    let now = c.loop-found.invariant in
    let rest = into_iter_items c.next.new.self in
    let next : into_iter_items c.loop-found.found-iterator ≡ c.in-Some.found ∷ rest = c.in-Some.ensures.steps.0 in
    let same : (f : Found g.row.D.Denot) → Contains (c.in-Some.found ∷ rest) f → f.path.start ≡ c.args.start = λ f k. now.same f (subst (λ (l : List (Found g.row.D.Denot)). Contains l f) (sym next) k) in
    record {
      start = ap (λ (t : FoundTreeOf g.row.D.Denot). t.start) c.in_ok-add.ensures.ok ∙ now.start;
      whole = next_over c.args.start c.loop-found.tree c.add.new.self c.in-Some.found (into_iter_items c.loop-found.found-iterator) rest (into_iter_items c.into_iter-found-iterator.result) c.steps.result.now c.in_ok-add.ensures.ok now.start (same c.in-Some.found (Contains-head c.in-Some.found rest)) c.steps.ensures next now.whole;
      same = λ f k. same f (Contains-tail c.in-Some.found f rest k);
    }
