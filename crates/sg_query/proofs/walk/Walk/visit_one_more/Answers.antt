use Rattle.std.proofs.Common.{◌+◌}
use Rattle.std.specs.List.{flat_map}
use Rattle.sg_query.specs.Walk.{into_row, one_more, labels_below}
use Rattle.sg_query.proofs.Extending.{row_more, row_rest}
use Rattle.sg_query.proofs.Gathering.{Visits-same, Visits-append, Visits-stop}
use Rattle.sg_query.proofs.walk.Walk.visit_one_more.Goals as goal

pub returns-then-not-branch : goal.returns-then-not-branch
returns-then-not-branch g c =
    let h = rw (c.if-not-branch.true, c.new.ensures) at c.in_ok-visit_row.ensures in
    let rest = row_rest c.args.self.now.graph.now c.args.self.now.start c.args.steps.now c.loop-number.number c.loop-number-test.true in
    Visits-stop (one_more c.args.self.now.graph.now c.args.self.now.start c.args.steps.now) rest.0 rest.1 c.loop-number.invariant.visited h.0 h.1 h.2 h.3 h.4

pub loop-number-preserved : goal.loop-number-preserved
loop-number-preserved g c =
    let h = rw (c.if-not-branch.false, c.new.ensures) at c.in_ok-visit_row.ensures in
    record {
      visited = Visits-same (flat_map (into_row c.args.self.now.graph.now c.args.self.now.start c.args.steps.now) (labels_below (c.loop-number.number + 1))) (row_more c.args.self.now.graph.now c.args.self.now.start c.args.steps.now c.loop-number.number) (Visits-append c.loop-number.invariant.visited h.0);
      fits = h.1;
    }
