use Rattle.std.proofs.Common.{Some, is_some, sym, ap, ◌∙◌, arith}
use Rattle.jv_tree.specs.DeclTree.{type_decl_tree}
use Rattle.jv_unit.specs.Paths.{decl_along}
use Rattle.jv_unit.proofs.Places.{file_within, place_within, from_top, rest_of}
use Rattle.jv_unit.proofs.decl_paths.find.Goals as goal

pub bounds-files-path : goal.bounds-files-path
bounds-files-path c = file_within c.args.files.now c.args.path.now c.requires.leads

pub index-requires : goal.index-requires
index-requires c =
    let h = place_within c.args.files.now c.args.path.now c.requires.leads c.index-files-path.result (cc) in
    omega (arith, h, c.index-files-path.result.types.ok.0)

pub inner-requires : goal.inner-requires
inner-requires c =
    let whole = from_top c.args.files.now c.args.path.now c.requires.leads c.index-files-path.result (cc) c.index.result.now (sym c.index.ensures) in
    record { leads = ap is_some (ap (decl_along (Some (type_decl_tree c.index.result.now))) (rest_of c.args.path.now 2) ∙ sym whole) ∙ c.requires.leads }

pub returns : goal.returns
returns c =
    let whole = from_top c.args.files.now c.args.path.now c.requires.leads c.index-files-path.result (cc) c.index.result.now (sym c.index.ensures) in
    c.inner.ensures ∙ (ap (decl_along (Some (type_decl_tree c.index.result.now))) (rest_of c.args.path.now 2) ∙ sym whole)
