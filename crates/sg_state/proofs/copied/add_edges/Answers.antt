use Rattle.std.proofs.Common.{◌+◌, drop, get_or, arith}
use Rattle.std.proofs.lemmas.List.{drop_more, drop_all}
use Rattle.std.proofs.lemmas.List.Elements.{Contains-get_or}
use Rattle.std.specs.List.{flat_map}
use Rattle.sg_base.proofs.Finite.{each_at}
use Rattle.sg_state.specs.Place.{IsPlace}
use Rattle.sg_state.specs.View.{edges_at}
use Rattle.sg_state.proofs.Gaining.{edges_start, edges_some, edges_next, edges_end}
use Rattle.sg_state.proofs.copied.add_edges.Goals as goal

pub loop-s-init : goal.loop-s-init
loop-s-init g c = edges_start c.args.graph.now (flat_map edges_at c.args.places.now) c.requires.there

pub add_rows-requires-clause-place : goal.add_rows-requires-clause-place
add_rows-requires-clause-place g c =
    let places = c.args.places.now in
    let r = c.loop-s-item.result in
    rw c.loop-s-item.is (each_at (λ p. IsPlace p.1) places c.requires.places (get_or places c.loop-s.s-index r) (Contains-get_or places c.loop-s.s-index r c.loop-s-test.true))

pub add_rows-requires-clause-there : goal.add_rows-requires-clause-there
add_rows-requires-clause-there g c =
    let places = c.args.places.now in
    let r = c.loop-s-item.result in
    let rest = flat_map edges_at (drop (c.loop-s.s-index + 1) places) in
    let left = rw (drop_more places c.loop-s.s-index r c.loop-s-test.true, ← c.loop-s-item.is) at c.loop-s.invariant in
    λ e m. edges_some c.args.graph.now c.loop-s.graph (edges_at r) rest (flat_map edges_at places) left e m

pub loop-s-preserved : goal.loop-s-preserved
loop-s-preserved g c =
    let places = c.args.places.now in
    let r = c.loop-s-item.result in
    let rest = flat_map edges_at (drop (c.loop-s.s-index + 1) places) in
    let left = rw (drop_more places c.loop-s.s-index r c.loop-s-test.true, ← c.loop-s-item.is) at c.loop-s.invariant in
    edges_next c.args.graph.now c.loop-s.graph c.add_rows.new.graph (edges_at r) rest (flat_map edges_at places) left c.in_ok-add_rows.ensures.ok

pub returns : goal.returns
returns g c = record { ok = edges_end c.args.graph.now c.loop-s.graph (flat_map edges_at c.args.places.now) (rw (drop_all c.loop-s.s-index c.args.places.now (omega (arith, c.loop-s-test.false))) at c.loop-s.invariant) }
