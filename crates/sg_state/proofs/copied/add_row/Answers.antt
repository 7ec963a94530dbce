use Rattle.std.proofs.Common.{◌+◌, [], ◌∷◌, map, drop, get_or, arith}
use Rattle.std.proofs.lemmas.List.{drop_more, drop_all}
use Rattle.sg_base.specs.declared.scope.Scope.{Scope}
use Rattle.sg_base.proofs.Finite.{Contains-map, Contains-head}
use Rattle.sg_state.proofs.Gaining.{edges_start, edges_next, edges_end, edge_gained}
use Rattle.sg_state.proofs.Views.{an_edge}
use Rattle.sg_state.proofs.copied.add_row.Goals as goal

pub loop-t-init : goal.loop-t-init
loop-t-init g c =
    let mk = an_edge c.args.s c.args.label in
    edges_start c.args.graph.now (map mk c.args.targets.now) (λ e m. (let h = Contains-map mk c.args.targets.now e m in rw h.2 (c.requires.there h.0 h.1)))

pub add_edge-requires-clause-source : goal.add_edge-requires-clause-source
add_edge-requires-clause-source g c =
    let mk = an_edge c.args.s c.args.label in
    let t : Scope = get_or c.args.targets.now c.loop-t.t-index (record { unit = 0; serial = 0 }) in
    let rest = map mk (drop (c.loop-t.t-index + 1) c.args.targets.now) in
    let left = rw (drop_more c.args.targets.now c.loop-t.t-index (record { unit = 0; serial = 0 }) c.loop-t-test.true) at c.loop-t.invariant in
    (left.there (mk t) (Contains-head (mk t) rest)).0

pub add_edge-requires-clause-target : goal.add_edge-requires-clause-target
add_edge-requires-clause-target g c =
    let mk = an_edge c.args.s c.args.label in
    let t : Scope = get_or c.args.targets.now c.loop-t.t-index (record { unit = 0; serial = 0 }) in
    let rest = map mk (drop (c.loop-t.t-index + 1) c.args.targets.now) in
    let left = rw (drop_more c.args.targets.now c.loop-t.t-index (record { unit = 0; serial = 0 }) c.loop-t-test.true) at c.loop-t.invariant in
    (left.there (mk t) (Contains-head (mk t) rest)).1

pub loop-t-preserved : goal.loop-t-preserved
loop-t-preserved g c =
    let mk = an_edge c.args.s c.args.label in
    let t : Scope = get_or c.args.targets.now c.loop-t.t-index (record { unit = 0; serial = 0 }) in
    let rest = map mk (drop (c.loop-t.t-index + 1) c.args.targets.now) in
    let left = rw (drop_more c.args.targets.now c.loop-t.t-index (record { unit = 0; serial = 0 }) c.loop-t-test.true) at c.loop-t.invariant in
    edges_next c.args.graph.now c.loop-t.graph c.add_edge.new.self (mk t ∷ []) rest (map mk c.args.targets.now) left
    (edge_gained c.loop-t.graph c.add_edge.new.self (mk t) (rw c.new.ensures at c.in_ok-add_edge.ensures.ok))

pub returns : goal.returns
returns g c =
    let mk = an_edge c.args.s c.args.label in
    record { ok = edges_end c.args.graph.now c.loop-t.graph (map mk c.args.targets.now) (rw (drop_all c.loop-t.t-index c.args.targets.now (omega (arith, c.loop-t-test.false))) at c.loop-t.invariant) }
