use Rattle.std.proofs.Common.{◌≡◌, ◌<◌, ◌≤◌, List, [], length, map, get_or, ap, ◌∙◌, subst}
use Rattle.jv_tree.specs.DeclTree.{ImportTree, import_tree}
use Rattle.jv_layout.specs.Folder.{LayoutOf}
use Rattle.jv_layout.proofs.Statics.{kept_at, kept_past}
use Rattle.jv_layout.proofs.tables.Layout.static_imports.Goals as goal

pub returns-in-Some : goal.returns-in-Some
returns-in-Some c =
    let lists = c.self.inside.statics.items in
    let kept : map (λ v. map import_tree v.items) lists ≡ c.args.self.now.statics = ap (λ (l : LayoutOf). l.statics) c.self.view_is in
    let at = subst (λ z. c.in-Some.imports.now ≡ get_or z c.args.file c.in-Some.imports.now) c.deref.ensures.value (c.in-Some.ensures.lookup).1 in
    let below = subst (λ z. c.args.file < length z) c.deref.ensures.value ((c.in-Some.ensures.lookup).3).0 in
    ap (map import_tree) c.as_slice.ensures.value ∙ (kept_at (λ v. v.items) import_tree lists c.args.file c.in-Some.imports.now below at
    ∙ ap (λ (z : List (List ImportTree)). get_or z c.args.file []) kept)

pub returns-in-None : goal.returns-in-None
returns-in-None c =
    let lists = c.self.inside.statics.items in
    let kept : map (λ v. map import_tree v.items) lists ≡ c.args.self.now.statics = ap (λ (l : LayoutOf). l.statics) c.self.view_is in
    let past = subst (λ z. length z ≤ c.args.file) c.deref.ensures.value (c.in-None.ensures.lookup).3 in
    kept_past (λ v. v.items) import_tree lists c.args.file past ∙ ap (λ (z : List (List ImportTree)). get_or z c.args.file []) kept
