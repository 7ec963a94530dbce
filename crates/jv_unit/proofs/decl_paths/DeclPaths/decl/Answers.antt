use Rattle.std.proofs.Common.{is_some, map, length, ap, ◌∙◌, arith}
use Rattle.std.specs.Option.{unwrap_or}
use Rattle.std.proofs.lemmas.List.{length-map}
use Rattle.jv_tree.specs.DeclTree.{tree_of}
use Rattle.jv_unit.specs.Trees.{no_decl}
use Rattle.jv_unit.specs.Paths.{decl_by}
use Rattle.jv_unit.proofs.Places.{length_paths, path_leads}
use Rattle.jv_unit.proofs.decl_paths.DeclPaths.decl.Goals as goal

pub index-requires : goal.index-requires
index-requires c =
    omega (arith, c.requires.within, length_paths (map tree_of c.args.files.now), ap length c.requires.paths, ap length c.self.view_is, length-map c.self.inside.paths.items (λ p. p.items), c.self.inside.paths.ok.0)

pub find-requires : goal.find-requires
find-requires c =
    let leads = path_leads (map tree_of c.args.files.now) c.self.inside.paths.items c.args.t c.index.result.now c.requires.within (c.self.view_is ∙ c.requires.paths) c.index.ensures in
    record { leads = ap is_some (ap (decl_by (map tree_of c.args.files.now)) c.deref.ensures.value ∙ leads) }

pub returns : goal.returns
returns c =
    let leads = path_leads (map tree_of c.args.files.now) c.self.inside.paths.items c.args.t c.index.result.now c.requires.within (c.self.view_is ∙ c.requires.paths) c.index.ensures in
    ap (λ o. unwrap_or o no_decl) (c.find.ensures ∙ (ap (decl_by (map tree_of c.args.files.now)) c.deref.ensures.value ∙ leads))
