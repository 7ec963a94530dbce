use Rattle.std.proofs.Common.{◌≡◌, ◌<◌, ◌++◌, ◌∷◌, [], ℕ, length, refl, sym, subst, arith}
use Rattle.sg_base.specs.PathTree.{path_at}
use Rattle.sg_engine.specs.Laying.{IsClimb}
use Rattle.sg_engine.specs.Tree.{paths_of}
use Rattle.sg_engine.proofs.Growing.{paths_of-length}
use Rattle.sg_engine.proofs.Laid.{climb_top, climb_push}
use Rattle.sg_engine.proofs.laying.climb.Goals as goal

above : (k : ℕ) → (k ≡ 0 → ⊥) → 0 < k
above k n = omega (arith, n)

pub loop-top-init : goal.loop-top-init
loop-top-init g c =
    let nodes = c.args.tree.now.nodes.items in
    subst (IsClimb (paths_of nodes) c.args.place c.args.place) (sym c.new-climbed.ensures.items) (refl, omega (arith, c.requires.there, paths_of-length nodes))

pub place_at-requires : goal.place_at-requires
place_at-requires g c =
    let nodes = c.args.tree.now.nodes.items in
    omega (arith, climb_top (paths_of nodes) c.loop-top.climbed.items c.args.place c.loop-top.top c.loop-top.invariant, c.requires.long, paths_of-length nodes)

pub at-node-requires : goal.at-node-requires
at-node-requires g c =
    let nodes = c.args.tree.now.nodes.items in
    omega (arith, climb_top (paths_of nodes) c.loop-top.climbed.items c.args.place c.loop-top.top c.loop-top.invariant, paths_of-length nodes)

pub loop-top-smaller : goal.loop-top-smaller
loop-top-smaller g c =
    let nodes = c.args.tree.now.nodes.items in
    let near : c.loop-top.top < length nodes = omega (arith, climb_top (paths_of nodes) c.loop-top.climbed.items c.args.place c.loop-top.top c.loop-top.invariant, paths_of-length nodes) in
    let up = ((c.requires.tree.1).0).grown c.loop-top.top c.at-node.ensures.0 (above c.loop-top.top c.loop-top-test.true) near c.at-node.ensures.1 in
    omega (arith, up.0, c.at-node.ensures.2)

pub loop-top-preserved : goal.loop-top-preserved
loop-top-preserved g c =
    let nodes = c.args.tree.now.nodes.items in
    let near : c.loop-top.top < length nodes = omega (arith, climb_top (paths_of nodes) c.loop-top.climbed.items c.args.place c.loop-top.top c.loop-top.invariant, paths_of-length nodes) in
    let up = ((c.requires.tree.1).0).grown c.loop-top.top c.at-node.ensures.0 (above c.loop-top.top c.loop-top-test.true) near c.at-node.ensures.1 in
    let here : path_at (paths_of nodes) c.loop-top.top ≡ path_at (paths_of nodes) c.at-node.result.now.parent ++ c.at-node.result.now.step ∷ [] = rw (c.at-node.ensures.2, c.at-node.ensures.3) up.1 in
    subst (IsClimb (paths_of nodes) c.args.place c.at-node.result.now.parent) (sym c.in_ok-push.ensures.items)
    (climb_push (paths_of nodes) c.loop-top.climbed.items c.args.place c.loop-top.top c.at-node.result.now.parent c.at-node.result.now.step c.loop-top.invariant here (omega (arith, up.0, near, c.at-node.ensures.2, paths_of-length nodes)))
