use Rattle.std.proofs.Common.{ℕ, ◌+◌, ◌<◌, List, map, drop, get_or, refl, arith}
use Rattle.std.proofs.lemmas.List.{drop_more, drop_all}
use Rattle.std.proofs.lemmas.List.Elements.{Contains-get_or}
use Rattle.std.specs.List.{flat_map}
use Rattle.sg_base.specs.Graph.{Edge}
use Rattle.sg_base.proofs.Finite.{map-Contains, each_at}
use Rattle.sg_state.specs.declared.row.Row.{Row}
use Rattle.sg_state.specs.View.{edges_at}
use Rattle.sg_state.proofs.Gaining.{edges_start, edges_some, edges_next, edges_end}
use Rattle.sg_state.proofs.Views.{an_edge}
use Rattle.sg_state.proofs.copied.add_rows.Goals as goal

pub loop-label-init : goal.loop-label-init
loop-label-init g c = rw c.rows-label-items.ensures (edges_start c.args.graph.now (edges_at (c.args.s, c.args.place.now)) c.requires.there, refl)

pub add_row-requires-clause-labelled : goal.add_row-requires-clause-labelled
add_row-requires-clause-labelled g c =
    let rows = c.rows-label-items.result.now in
    let r = c.loop-label-item.result in
    rw c.loop-label-item.is (each_at (λ (q : ℕ × Row). q.0 < 16) rows (rw (← c.loop-label.invariant.1) at (c.requires.place).labelled) (get_or rows c.loop-label.label-index r) (Contains-get_or rows c.loop-label.label-index r c.loop-label-test.true))

pub add_row-requires-clause-there : goal.add_row-requires-clause-there
add_row-requires-clause-there g c =
    let at : ℕ × Row → List Edge = λ r. map (an_edge c.args.s r.0) (r.1).targets in
    let rows = c.rows-label-items.result.now in
    let r = c.loop-label-item.result in
    let rest = flat_map at (drop (c.loop-label.label-index + 1) rows) in
    let left = rw (drop_more rows c.loop-label.label-index r c.loop-label-test.true, ← c.loop-label-item.is) at c.loop-label.invariant.0 in
    λ t m. edges_some c.args.graph.now c.loop-label.graph (at r) rest (edges_at (c.args.s, c.args.place.now)) left
    (an_edge c.args.s r.0 t) (map-Contains (an_edge c.args.s r.0) (r.1).targets t (rw c.as_slice.ensures.all at m))

pub loop-label-preserved : goal.loop-label-preserved
loop-label-preserved g c =
    let at : ℕ × Row → List Edge = λ r. map (an_edge c.args.s r.0) (r.1).targets in
    let rows = c.rows-label-items.result.now in
    let r = c.loop-label-item.result in
    let rest = flat_map at (drop (c.loop-label.label-index + 1) rows) in
    let left = rw (drop_more rows c.loop-label.label-index r c.loop-label-test.true, ← c.loop-label-item.is) at c.loop-label.invariant.0 in (
      edges_next c.args.graph.now c.loop-label.graph c.add_row.new.graph (at r) rest (edges_at (c.args.s, c.args.place.now)) left (rw c.as_slice.ensures.all at c.in_ok-add_row.ensures.ok),
      c.loop-label.invariant.1,
    )

pub returns : goal.returns
returns g c = record { ok = edges_end c.args.graph.now c.loop-label.graph (edges_at (c.args.s, c.args.place.now)) (rw (drop_all c.loop-label.label-index c.rows-label-items.result.now (omega (arith, c.loop-label-test.false))) at c.loop-label.invariant.0) }
