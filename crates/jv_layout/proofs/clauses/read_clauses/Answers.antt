use Rattle.std.proofs.Common.{◌≡◌, ℕ, ◌+◌, ◌<◌, List, [], ◌∷◌, ◌++◌, length, map, take, get_or, sym, ap, ◌∙◌, subst, length-append, arith}
use Rattle.std.specs.List.{flat_map}
use Rattle.std.proofs.lemmas.List.{length-map, map-append}
use Rattle.jv_tree.specs.DeclTree.{UnitTree, tree_of}
use Rattle.jv_layout.specs.Folder.{prefixes, clause_of}
use Rattle.jv_layout.specs.Paths.{clause_at, path_at, no_unit, AreFirstFiles}
use Rattle.jv_layout.proofs.Sorting.{finds_more}
use Rattle.jv_layout.proofs.Stepping.{files_more, flat_next}
use Rattle.jv_layout.proofs.clauses.read_clauses.Goals as goal

pub loop-file-preserved : goal.loop-file-preserved
loop-file-preserved c =
    let us = map tree_of c.args.files.now in
    let i = c.loop-file.file in
    let rows = map (λ v. v.items) c.loop-file.firsts.items in
    let row = c.in_ok-first_files.field-0.items in
    let g = λ (u : UnitTree). prefixes (clause_of u) in
    let many : length us ≡ length c.args.files.now = length-map c.args.files.now tree_of in
    let h : i < length us = omega arith in
    let long : length rows ≡ i = length-map c.loop-file.firsts.items (λ v. v.items) ∙ c.loop-file.invariant.long in
    let added : map (λ v. v.items) c.push.new.self.items ≡ rows ++ row ∷ [] = ap (map (λ v. v.items)) c.in_ok-push.ensures.items ∙ map-append (λ v. v.items) c.loop-file.firsts.items (c.in_ok-first_files.field-0 ∷ []) in
    record {
      long = omega (arith, ap length c.in_ok-push.ensures.items, length-append c.loop-file.firsts.items (c.in_ok-first_files.field-0 ∷ []), c.loop-file.invariant.long);
      firsts = subst (λ (z : List (List ℕ)). AreFirstFiles us z) (sym added) (files_more us rows row c.loop-file.invariant.firsts
          (λ k f e. subst (λ (n : ℕ). take (k + 1) (clause_at us f) ≡ take (k + 1) (clause_at us n)) (sym long) (c.in_ok-first_files.ensures.firsts k f e)));
      steps = c.in_ok-first_files.ensures.steps;
      packages = finds_more (map (path_at us) c.first_files.new.packages.items) (map (path_at us) c.loop-file.packages.items) (g (get_or us i no_unit)) (flat_map g (take i us)) (flat_map g (take (i + 1) us))
          c.in_ok-first_files.ensures.packages c.loop-file.invariant.packages (flat_next g us i no_unit h);
    }
