use Rattle.std.proofs.Common.{◌≡◌, ℕ, ◌+◌, ◌<◌, List, length, map, get_or, sym, ap, ◌∙◌, arith}
use Rattle.std.proofs.lemmas.List.{length-map}
use Rattle.std.specs.declared.cmp.Ordering.TheVariants.{Greater}
use Rattle.jv_tree.specs.DeclTree.{tree_of}
use Rattle.jv_layout.specs.Folder.{path_cmp}
use Rattle.jv_layout.specs.Paths.{path_at}
use Rattle.jv_layout.proofs.Paths.{path_total, map_at, greater_upto}
use Rattle.jv_layout.proofs.packages.is_behind.Goals as goal

pub returns-in-Greater : goal.returns-in-Greater
returns-in-Greater c = λ _.
    let f = path_at (map tree_of c.args.files.now) in
    let ps = map f c.args.paths.now in
    let R = path_cmp c.args.names.now in
    let x = f c.args.p in
    let m = c.in-Some.last in
    let l : length ps ≡ length c.args.paths.now = length-map c.args.paths.now f in
    let long : m + 1 ≡ length c.args.paths.now = omega (arith, c.in-Some.ensures) in
    let h : m < length c.args.paths.now = omega arith in
    let k : m < length ps = omega arith in
    let e : (d : List ℕ) → R x (get_or ps m d) ≡ Greater = λ d. ap (R x) (map_at f c.args.paths.now m c.prefix_at.result h c.prefix_at.ensures d) ∙ sym c.in-Greater.ensures in
    (omega arith, (λ j d a. greater_upto R (path_total c.args.names.now) ps x c.requires.rising m k e j d (omega arith)), (λ j d a b. absurd (omega arith)))
