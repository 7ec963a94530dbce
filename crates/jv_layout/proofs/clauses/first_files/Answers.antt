use Rattle.std.proofs.Common.{◌≡◌, ℕ, ◌+◌, List, [], ◌∷◌, ◌++◌, length, map, take, sym, ap, ◌∙◌, subst, append_assoc, length-append, arith}
use Rattle.std.specs.List.{slice_get}
use Rattle.std.proofs.lemmas.List.FromFn.{map-range_with_len_more}
use Rattle.jv_tree.specs.DeclTree.{tree_of}
use Rattle.jv_layout.specs.Paths.{clause_at, path_at}
use Rattle.jv_layout.specs.Skeleton.{below}
use Rattle.jv_layout.proofs.Sorting.{finds_more}
use Rattle.jv_layout.proofs.Stepping.{firsts_more}
use Rattle.jv_layout.proofs.clauses.first_files.Goals as goal

pub loop-len-preserved : goal.loop-len-preserved
loop-len-preserved c =
    let us = map tree_of c.args.files.now in
    let own = clause_at us c.args.file in
    let i = c.loop-len.len in
    let xs = c.loop-len.firsts.items in
    let x = c.in_ok-outer.outer in
    let g = λ (k : ℕ). take (k + 1) own in
    let start = map (path_at us) c.args.packages.now.items in
    let added : c.push.new.self.items ≡ xs ++ x ∷ [] = c.in_ok-push.ensures.items in
    let one : take (length xs + 1) (clause_at us x) ≡ take (length xs + 1) own = subst (λ (n : ℕ). take (n + 1) (clause_at us x) ≡ take (n + 1) own) (sym c.loop-len.invariant.long) c.in_ok-outer.ensures.first in
    record {
      outer = c.in_ok-outer.ensures.first;
      long = omega (arith, ap length added, length-append xs (x ∷ []), c.loop-len.invariant.long);
      firsts = λ k h e. firsts_more us c.args.file xs x c.loop-len.invariant.firsts one k h (sym (ap (λ (z : List ℕ). slice_get z k) added) ∙ e);
      steps = c.in_ok-outer.ensures.steps;
      packages = finds_more (map (path_at us) c.first_naming.new.packages.items) (map (path_at us) c.loop-len.packages.items) (g i ∷ []) (start ++ map g (below i)) (start ++ map g (below (i + 1))) c.in_ok-outer.ensures.packages c.loop-len.invariant.packages
          (ap (λ (z : List (List ℕ)). start ++ z) (map-range_with_len_more g 0 i i (omega arith)) ∙ sym (append_assoc start (map g (below i)) (g i ∷ [])));
    }
