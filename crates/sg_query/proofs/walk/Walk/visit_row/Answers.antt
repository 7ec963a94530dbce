use Rattle.std.proofs.Common.{◌<◌, ◌+◌, length, take, drop, arith, ◌∙◌}
use Rattle.std.proofs.lemmas.List.{take_all}
use Rattle.std.specs.List.{flat_map}
use Rattle.sg_query.specs.Walk.{into_scope, into_row}
use Rattle.sg_query.proofs.Extending.{flat_more, flat_rest, row_is}
use Rattle.sg_query.proofs.Gathering.{Visits-same, Visits-append, Visits-full}
use Rattle.sg_query.proofs.walk.Walk.visit_row.Goals as goal

pub returns-then-len-room : goal.returns-then-len-room
returns-then-len-room g c =
    let over : c.args.room < length c.visit_scope.new.seen.going.items = omega (arith, c.if-len-room.true, c.len.ensures, c.visit_scope.new.seen.going.ok.0) in
    let row = row_is c.args.self.now.graph.now c.args.self.now.start c.args.steps.now c.args.label c.end.result c.edges_of-to-items.result.now c.end.ensures c.edges_of-to-items.ensures.row in
    Visits-full (into_row c.args.self.now.graph.now c.args.self.now.start c.args.steps.now c.args.label) (flat_map (into_scope c.args.self.now.start c.args.steps.now c.args.label) (drop (c.loop-to.to-index + 1) c.edges_of-to-items.result.now))
    (row ∙ flat_rest (into_scope c.args.self.now.start c.args.steps.now c.args.label) c.edges_of-to-items.result.now c.loop-to.to-index (record { unit = 0; serial = 0 }) c.loop-to-test.true) c.loop-to.invariant.visited c.in_ok-visit_scope.ensures over

pub loop-to-preserved : goal.loop-to-preserved
loop-to-preserved g c =
    record {
      visited = Visits-same (flat_map (into_scope c.args.self.now.start c.args.steps.now c.args.label) (take (c.loop-to.to-index + 1) c.edges_of-to-items.result.now)) (flat_more (into_scope c.args.self.now.start c.args.steps.now c.args.label) c.edges_of-to-items.result.now c.loop-to.to-index (record { unit = 0; serial = 0 }) c.loop-to-test.true) (Visits-append c.loop-to.invariant.visited c.in_ok-visit_scope.ensures);
      fits = omega (arith, c.if-len-room.false, c.len.ensures, c.visit_scope.new.seen.going.ok.0);
    }

pub returns : goal.returns
returns g c =
    let row = row_is c.args.self.now.graph.now c.args.self.now.start c.args.steps.now c.args.label c.end.result c.edges_of-to-items.result.now c.end.ensures c.edges_of-to-items.ensures.row in
    let whole = take_all c.loop-to.to-index c.edges_of-to-items.result.now c.loop-to-test.false in
    let visited = rw whole at c.loop-to.invariant.visited in
    (Visits-same (into_row c.args.self.now.graph.now c.args.self.now.start c.args.steps.now c.args.label) row visited, c.loop-to.invariant.fits)
