use Rattle.std.proofs.Common.{◌+◌, map, drop, arith}
use Rattle.std.proofs.lemmas.List.{drop_more, drop_all}
use Rattle.std.specs.List.{flat_map}
use Rattle.sg_base.proofs.Finite.{Contains-head}
use Rattle.sg_state.specs.View.{given_of}
use Rattle.sg_state.proofs.Gaining.{data_start, data_next, data_end}
use Rattle.sg_state.proofs.Views.{given_key}
use Rattle.sg_state.proofs.copied.add_data.Goals as goal

pub loop-s-init : goal.loop-s-init
loop-s-init g c = data_start c.args.graph.now (flat_map (λ p. given_of p.0 (p.1).slot) c.args.places.now) (map (λ p. p.0) c.args.places.now) c.requires.none c.requires.there c.requires.distinct

pub add_datum-requires-clause-none : goal.add_datum-requires-clause-none
add_datum-requires-clause-none g c =
    let places = c.args.places.now in
    let r = c.loop-s-item.result in
    let left = rw (drop_more places c.loop-s.s-index r c.loop-s-test.true, ← c.loop-s-item.is) at c.loop-s.invariant in
    left.none r.0 (Contains-head r.0 (map (λ p. p.0) (drop (c.loop-s.s-index + 1) places)))

pub add_datum-requires-clause-there : goal.add_datum-requires-clause-there
add_datum-requires-clause-there g c =
    let places = c.args.places.now in
    let r = c.loop-s-item.result in
    let left = rw (drop_more places c.loop-s.s-index r c.loop-s-test.true, ← c.loop-s-item.is) at c.loop-s.invariant in
    left.there r.0 (Contains-head r.0 (map (λ p. p.0) (drop (c.loop-s.s-index + 1) places)))

pub loop-s-preserved : goal.loop-s-preserved
loop-s-preserved g c =
    let places = c.args.places.now in
    let r = c.loop-s-item.result in
    let rest = drop (c.loop-s.s-index + 1) places in
    let left = rw (drop_more places c.loop-s.s-index r c.loop-s-test.true, ← c.loop-s-item.is) at c.loop-s.invariant in
    data_next c.args.graph.now c.loop-s.graph c.add_datum.new.graph r.0 (given_of r.0 (r.1).slot) (flat_map (λ p. given_of p.0 (p.1).slot) rest) (flat_map (λ p. given_of p.0 (p.1).slot) places) (map (λ p. p.0) rest) left
    (given_key places r.0 (r.1).slot) (rw c.slot.ensures at c.in_ok-add_datum.ensures.ok)

pub returns : goal.returns
returns g c = record { ok = data_end c.args.graph.now c.loop-s.graph (flat_map (λ p. given_of p.0 (p.1).slot) c.args.places.now) (rw (drop_all c.loop-s.s-index c.args.places.now (omega (arith, c.loop-s-test.false))) at c.loop-s.invariant) }
