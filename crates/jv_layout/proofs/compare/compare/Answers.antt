use Rattle.std.proofs.Common.{ℕ, List, map, drop, ap, ◌∙◌}
use Rattle.jv_tree.specs.DeclTree.{tree_of}
use Rattle.jv_layout.specs.Folder.{path_cmp, numbers_of}
use Rattle.jv_layout.specs.Paths.{clause_at, path_at}
use Rattle.jv_layout.proofs.Behind.{cut_same}
use Rattle.jv_layout.proofs.compare.compare.Goals as goal

pub returns : goal.returns
returns c =
    let us = map tree_of c.args.files.now in
    let names = c.args.names.now in
    let n = c.shared-same.result in
    let a = c.args.a in
    let b = c.args.b in
    let left = c.behind.ensures ∙ ap (drop n) c.path.ensures in
    let right = c.behind-2.ensures ∙ ap (drop n) c.path-2.ensures in
    c.path_cmp.ensures ∙ (ap (λ (z : List ℕ). path_cmp names z (numbers_of c.behind-2.result.now)) left ∙ (ap (λ (z : List ℕ). path_cmp names (drop n (path_at us a)) z) right
    ∙ cut_same names (clause_at us a.file) (clause_at us b.file) a.len b.len n c.shared-same.ensures.left c.shared-same.ensures.right (c.shared-same.ensures.same us c.requires)))
