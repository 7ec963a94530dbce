-- Paths that were found, by their places in a tree of their own.
use Rattle.std.proofs.Common.{◌≡◌, ℕ, ◌+◌, ◌<◌, List, [], ◌∷◌, ◌++◌, map, take, length, sym, ap, ◌∙◌, slice_index_or}
use Rattle.std.proofs.lemmas.List.{take_more}
use Rattle.sg_base.specs.declared.scope.Scope.{Scope}
use Rattle.sg_base.specs.declared.step.Step.{Step}
use Rattle.sg_base.specs.PathTree.{PathTreeOf, path_at, path_in}
use Rattle.sg_base.proofs.Scopes.{path_by}
use Rattle.sg_query.specs.declared.found.Found.{Found}
use Rattle.sg_query.specs.declared.found_at.FoundAt.{FoundAt}
use Rattle.sg_query.specs.Found.{found_in, AreThere}
use Rattle.sg_query.proofs.Trees.{found_more}
use Rattle.sg_query.proofs.Walking.{found_by}
use Rattle.sg_engine.specs.Tree.{found_of}
use Rattle.sg_engine.proofs.Offering.{map-push}

-- one more that was found, by the place of its path in the new tree
pub finds_more : {D : Type 0} (start : Scope) (paths : List (List Step)) (all : List (FoundAt D)) (k : ℕ) (f : FoundAt D) → k < length all → f ≡ slice_index_or all k f → (old new : PathTreeOf) → old.start ≡ start → new.start ≡ start → (more : List (List Step)) → new.paths ≡ old.paths ++ more → (found : List (FoundAt D)) → AreThere old found → map (found_in old) found ≡ map (found_of start paths) (take k all) → (x : FoundAt D) → path_at new.paths x.place ≡ path_at paths f.place → x.datum ≡ f.datum → map (found_in new) (found ++ x ∷ []) ≡ map (found_of start paths) (take (k + 1) all)
finds_more {D} start paths all k f l at old new olds news more grown found there was x path datum =
    let here : found_in new x ≡ found_of start paths f = found_by (found_in new x) (found_of start paths f) (path_by (path_in new x.place) (record { start = start; steps = path_at paths f.place }) news path) datum in
    map-push (found_in new) found x
    ∙ (ap (λ (t : List (Found D)). t ++ found_in new x ∷ []) (found_more old new more (news ∙ sym olds) grown found there ∙ was)
    ∙ (ap (λ (y : Found D). map (found_of start paths) (take k all) ++ y ∷ []) here
    ∙ (sym (map-push (found_of start paths) (take k all) f)
    ∙ ap (map (found_of start paths)) (ap (λ (z : FoundAt D). take k all ++ z ∷ []) at ∙ sym (take_more all k f l)))))
