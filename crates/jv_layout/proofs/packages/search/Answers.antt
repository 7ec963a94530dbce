use Rattle.std.proofs.Common.{◌≡◌, ℕ, ◌+◌, ◌-◌, ◌/◌, ◌<◌, List, [], length, map, get_or, sym, ap, ◌∙◌, arith}
use Rattle.std.proofs.lemmas.List.{length-map}
use Rattle.std.specs.declared.cmp.Ordering.TheVariants.{Less, Equal, Greater}
use Rattle.jv_tree.specs.DeclTree.{tree_of}
use Rattle.jv_layout.specs.Folder.{path_cmp}
use Rattle.jv_layout.specs.Paths.{path_at}
use Rattle.jv_layout.proofs.Paths.{path_total, map_at, less_from, greater_upto}
use Rattle.jv_layout.proofs.Putting.{equal_before}
use Rattle.jv_layout.proofs.packages.search.Goals as goal

pub returns-in-Equal : goal.returns-in-Equal
returns-in-Equal c =
    let f = path_at (map tree_of c.args.files.now) in
    let ps = map f c.args.paths.now in
    let R = path_cmp c.args.names.now in
    let x = f c.args.wanted in
    let m = c.loop-low.low + (c.loop-low.high - c.loop-low.low) / 2 in
    let l : length ps ≡ length c.args.paths.now = length-map c.args.paths.now f in
    let h : m < length c.args.paths.now = omega arith in
    let k : m < length ps = omega arith in
    let at = map_at f c.args.paths.now m c.prefix_at.result h c.prefix_at.ensures in
    let e : (d : List ℕ) → R x (get_or ps m d) ≡ Equal = λ d. ap (R x) (at d) ∙ sym c.in-Equal.ensures in
    (k, e, λ j d a. equal_before R (path_total c.args.names.now) ps x c.requires.rising m k [] (e []) j d a)

pub loop-low-preserved-in-Less : goal.loop-low-preserved-in-Less
loop-low-preserved-in-Less c =
    let f = path_at (map tree_of c.args.files.now) in
    let ps = map f c.args.paths.now in
    let R = path_cmp c.args.names.now in
    let x = f c.args.wanted in
    let m = c.loop-low.low + (c.loop-low.high - c.loop-low.low) / 2 in
    let l : length ps ≡ length c.args.paths.now = length-map c.args.paths.now f in
    let h : m < length c.args.paths.now = omega arith in
    let k : m < length ps = omega arith in
    let at = map_at f c.args.paths.now m c.prefix_at.result h c.prefix_at.ensures in
    let e : (d : List ℕ) → R x (get_or ps m d) ≡ Less = λ d. ap (R x) (at d) ∙ sym c.in-Less.ensures in
    record { ordered = omega arith; within = omega arith; before = c.loop-low.invariant.before; behind = less_from R (path_total c.args.names.now) ps x c.requires.rising m e }

pub loop-low-preserved : goal.loop-low-preserved
loop-low-preserved c =
    let f = path_at (map tree_of c.args.files.now) in
    let ps = map f c.args.paths.now in
    let R = path_cmp c.args.names.now in
    let x = f c.args.wanted in
    let m = c.loop-low.low + (c.loop-low.high - c.loop-low.low) / 2 in
    let l : length ps ≡ length c.args.paths.now = length-map c.args.paths.now f in
    let h : m < length c.args.paths.now = omega arith in
    let k : m < length ps = omega arith in
    let at = map_at f c.args.paths.now m c.prefix_at.result h c.prefix_at.ensures in
    let e : (d : List ℕ) → R x (get_or ps m d) ≡ Greater = λ d. ap (R x) (at d) ∙ sym c.in-Greater.ensures in
    record { ordered = omega arith; within = omega arith; before = greater_upto R (path_total c.args.names.now) ps x c.requires.rising m k e; behind = c.loop-low.invariant.behind }
