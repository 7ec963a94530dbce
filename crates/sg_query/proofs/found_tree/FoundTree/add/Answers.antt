use Rattle.std.proofs.Common.{◌≡◌, ◌+◌, ◌<◌, List, [], ◌∷◌, ◌++◌, Result, Ok, Err, OnErr, sym, ap, ◌∙◌, subst, length, map, take, arith, length-append, append_assoc}
use Rattle.std.proofs.lemmas.List.{take_more, take_all}
use Rattle.sg_base.specs.declared.step.Step.{Step}
use Rattle.sg_base.specs.PathTree.{path_at}
use Rattle.sg_base.proofs.Finite.{each_append}
use Rattle.sg_base.proofs.Trees.{path_at-end}
use Rattle.sg_query.specs.declared.found_at.FoundAt.{FoundAt}
use Rattle.sg_query.specs.Found.{FoundTreeOf, found_in, AreThere}
use Rattle.sg_query.proofs.Trees.{found_of, tree_from, there_more, tree_more, tree_added}
use Rattle.sg_query.proofs.found_tree.FoundTree.add.Goals as goal

on_err : {T E P : Type 0} (r : Result T E) → P → OnErr r P
on_err (Ok x) p = tt
on_err (Err e) p = p

pub invariant_of-self : goal.invariant_of-self
invariant_of-self g c =
    let now = c.loop-step.invariant in
    let grown : c.push.new.self.paths ≡ c.self.inside.paths.paths ++ now.grown.0 = c.in_err-place.ensures.err ∙ now.grown.1 in
    subst (λ (fs : List (FoundAt g.row.D.Denot)). AreThere c.push.new.self fs) (sym now.found)
    (there_more c.self.inside.paths c.push.new.self now.grown.0 (c.in_err-place.ensures.start ∙ now.start) grown c.self.inside.found.items c.self.invariant)

pub returns-in_err-place-clause-err : goal.returns-in_err-place-clause-err
returns-in_err-place-clause-err g c =
    let now = c.loop-step.invariant in
    let grown : c.push.new.self.paths ≡ c.self.inside.paths.paths ++ now.grown.0 = c.in_err-place.ensures.err ∙ now.grown.1 in
    on_err c.from_residual.result
    (ap (λ (fs : List (FoundAt g.row.D.Denot)). tree_from c.push.new.self.start (map (found_in c.push.new.self) fs)) now.found
    ∙ (tree_more c.self.inside.paths c.push.new.self now.grown.0 (c.in_err-place.ensures.start ∙ now.start) grown c.self.inside.found.items c.self.invariant
    ∙ c.self.view_is))

pub loop-step-preserved : goal.loop-step-preserved
loop-step-preserved g c =
    let now = c.loop-step.invariant in
    let old : List (List Step) = c.loop-step.self-inside.paths.paths in
    let path : List Step = path_at old c.loop-step.place ++ c.step-item.result ∷ [] in
    let made = c.in_ok-place.ensures in
    let there : path_at c.push.new.self.paths c.in_ok-place.place ≡ path =
    ap (path_at c.push.new.self.paths) made.place ∙ (ap (λ (ps : List (List Step)). path_at ps (length old)) made.ok ∙ path_at-end old path) in
    let longer : take (c.loop-step.step-index + 1) c.args.steps.now ≡ take c.loop-step.step-index c.args.steps.now ++ c.step-item.result ∷ [] =
    take_more c.args.steps.now c.loop-step.step-index c.step-item.result c.loop-step-test.true ∙ ap (λ (p : Step). take c.loop-step.step-index c.args.steps.now ++ p ∷ []) (sym c.step-item.is) in
    record {
      start = made.start ∙ now.start;
      found = now.found;
      grown = (now.grown.0 ++ path ∷ [], made.ok ∙ (ap (λ (ps : List (List Step)). ps ++ path ∷ []) now.grown.1 ∙ append_assoc c.self.inside.paths.paths now.grown.0 (path ∷ [])));
      there = omega (arith, made.place, ap length made.ok, length-append old (path ∷ []));
      path = there ∙ (ap (λ (ps : List Step). ps ++ c.step-item.result ∷ []) now.path ∙ sym longer);
    }

pub invariant_of-self-in_err-push : goal.invariant_of-self-in_err-push
invariant_of-self-in_err-push g c =
    let now = c.loop-step.invariant in
    subst (λ (fs : List (FoundAt g.row.D.Denot)). AreThere c.loop-step.self-inside.paths fs) (sym (c.in_err-push.ensures.items ∙ now.found))
    (there_more c.self.inside.paths c.loop-step.self-inside.paths now.grown.0 now.start now.grown.1 c.self.inside.found.items c.self.invariant)

pub returns-in_err-push-clause-err : goal.returns-in_err-push-clause-err
returns-in_err-push-clause-err g c =
    let now = c.loop-step.invariant in
    let u = c.loop-step.self-inside.paths in
    on_err c.from_residual-in_err-push.result
    (ap (λ (fs : List (FoundAt g.row.D.Denot)). tree_from u.start (map (found_in u) fs)) (c.in_err-push.ensures.items ∙ now.found)
    ∙ (tree_more c.self.inside.paths u now.grown.0 now.start now.grown.1 c.self.inside.found.items c.self.invariant
    ∙ c.self.view_is))

pub invariant_of-self-2 : goal.invariant_of-self-2
invariant_of-self-2 g c =
    let now = c.loop-step.invariant in
    let u = c.loop-step.self-inside.paths in
    let last : FoundAt g.row.D.Denot = record { place = c.loop-step.place; datum = c.args.datum } in
    let items : c.push-2.new.self.items ≡ c.self.inside.found.items ++ last ∷ [] = c.in_ok-push.ensures.items ∙ ap (λ (fs : List (FoundAt g.row.D.Denot)). fs ++ last ∷ []) now.found in
    subst (λ (fs : List (FoundAt g.row.D.Denot)). AreThere u fs) (sym items)
    (each_append (λ (f : FoundAt g.row.D.Denot). f.place < length u.paths) c.self.inside.found.items (last ∷ [])
    (there_more c.self.inside.paths u now.grown.0 now.start now.grown.1 c.self.inside.found.items c.self.invariant) (now.there, tt))

pub returns-clause-ok : goal.returns-clause-ok
returns-clause-ok g c =
    let now = c.loop-step.invariant in
    let u = c.loop-step.self-inside.paths in
    let last : FoundAt g.row.D.Denot = record { place = c.loop-step.place; datum = c.args.datum } in
    let items : c.push-2.new.self.items ≡ c.self.inside.found.items ++ last ∷ [] = c.in_ok-push.ensures.items ∙ ap (λ (fs : List (FoundAt g.row.D.Denot)). fs ++ last ∷ []) now.found in
    let path : path_at u.paths c.loop-step.place ≡ c.args.steps.now = now.path ∙ take_all c.loop-step.step-index c.args.steps.now c.loop-step-test.false in
    ap (λ (fs : List (FoundAt g.row.D.Denot)). tree_from u.start (map (found_in u) fs)) items
    ∙ (tree_added c.self.inside.paths u now.grown.0 now.start now.grown.1 c.self.inside.found.items c.self.invariant c.loop-step.place c.args.steps.now c.args.datum path
    ∙ ap (λ (t : FoundTreeOf g.row.D.Denot). tree_from t.start (t.found ++ found_of t.start c.args.steps.now c.args.datum ∷ [])) c.self.view_is)
