use Rattle.std.proofs.Common.{ℕ, List, map, Ok, Err, sym, ap, ◌∙◌, subst}
use Rattle.sg_base.specs.List.{IsRising}
use Rattle.jv_tree.specs.DeclTree.{tree_of}
use Rattle.jv_layout.specs.declared.packages.Prefix.{Prefix}
use Rattle.jv_layout.specs.Folder.{path_cmp}
use Rattle.jv_layout.specs.Paths.{path_at, IsSearched}
use Rattle.jv_layout.proofs.Paths.{path_total, map_insert, searched_there, searched_at}
use Rattle.jv_layout.proofs.Putting.{Rising-put}
use Rattle.jv_layout.proofs.packages.add.Goals as goal

pub returns-in-Ok-clause-put : goal.returns-in-Ok-clause-put
returns-in-Ok-clause-put c =
    let f = path_at (map tree_of c.args.files.now) in
    let R = path_cmp c.args.names.now in
    let s : IsSearched R (map f c.args.paths.now.items) (f c.args.p) (Ok c.in-Ok.field-0) = subst (λ (z : List Prefix). IsSearched R (map f z) (f c.args.p) (Ok c.in-Ok.field-0)) c.deref.ensures.value c.in-Ok.ensures in
    sym (searched_there R (map f c.args.paths.now.items) (f c.args.p) c.in-Ok.field-0 s)

pub returns-in_ok-insert-in-Err-clause-put : goal.returns-in_ok-insert-in-Err-clause-put
returns-in_ok-insert-in-Err-clause-put c =
    let f = path_at (map tree_of c.args.files.now) in
    let R = path_cmp c.args.names.now in
    let ps = map f c.args.paths.now.items in
    let q : IsSearched R ps (f c.args.p) (Err c.in-Err.at) = subst (λ (z : List Prefix). IsSearched R (map f z) (f c.args.p) (Err c.in-Err.at)) c.deref.ensures.value c.in-Err.ensures in
    ap (map f) c.in_ok-insert-in-Err.ensures.items ∙ (map_insert f c.args.paths.now.items c.in-Err.at c.args.p ∙ sym (searched_at R ps (f c.args.p) c.in-Err.at q))

pub returns-in_ok-insert-in-Err-clause-rising : goal.returns-in_ok-insert-in-Err-clause-rising
returns-in_ok-insert-in-Err-clause-rising c =
    let f = path_at (map tree_of c.args.files.now) in
    let R = path_cmp c.args.names.now in
    let ps = map f c.args.paths.now.items in
    subst (λ (z : List (List ℕ)). IsRising R z) (sym (returns-in_ok-insert-in-Err-clause-put c)) (Rising-put R (path_total c.args.names.now) ps (f c.args.p) c.requires.rising)
