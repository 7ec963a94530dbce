use Rattle.std.proofs.Common.{◌≡◌, ◌<◌, List, length, get_or, ap, ◌∙◌, arith}
use Rattle.std.proofs.lemmas.List.{get_or_default}
use Rattle.sg_base.specs.declared.scope.Scope.{Scope}
use Rattle.jv_layout.specs.declared.rows.PackageRow.{PackageRow}
use Rattle.jv_layout.specs.Folder.{LayoutOf}
use Rattle.jv_layout.specs.Declarations.{package_key}
use Rattle.jv_layout.specs.Skeleton.{no_package, parent_scope}
use Rattle.jv_layout.proofs.Declaring.{more_packages}
use Rattle.jv_layout.proofs.tables.Layout.package_keys.Goals as goal

pub loop-p-preserved : goal.loop-p-preserved
loop-p-preserved c =
    let rows = c.args.self.now.packages in
    let p = c.loop-p.p in
    let view = ap (λ (l : LayoutOf). l.packages) c.self.view_is in
    let h : p < length rows = omega (arith, c.loop-p-test.true, ap length view) in
    let row : c.index.result.now ≡ get_or rows p no_package = c.index.ensures ∙ (ap (λ (rs : List PackageRow). get_or rs p c.index.result.now) view ∙ get_or_default rows p c.index.result.now no_package h) in
    let key = c.package_key-key.ensures ∙ (ap (λ (s : Scope). package_key s c.index.result.now.name) c.parent_scope.ensures ∙ ap (λ (r : PackageRow). package_key (parent_scope (get_or rows p no_package).parent) r.name) row) in
    more_packages rows c.loop-p.found.keys c.insert.new.self.keys p c.package_key-key.result h key c.loop-p.invariant c.in_ok-_added.ensures.updates.0
