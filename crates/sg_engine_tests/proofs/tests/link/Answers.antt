use Rattle.std.proofs.Common.{[], ◌∷◌}
use Rattle.sg_state.specs.Write.{add_edge}
use Rattle.sg_engine_tests.proofs.tests.link.Goals as goal

pub returns-in_ok-add_edge-in-Some-clause-follows : goal.returns-in_ok-add_edge-in-Some-clause-follows
returns-in_ok-add_edge-in-Some-clause-follows g c =
    rw c.in_ok-add_edge-in-Some.ensures.ok (c.writes_extend.ensures c.args.held.now (add_edge c.in-Some.unit c.args.from c.args.l c.args.to ∷ []) c.requires.held ((c.in-Some.ensures, c.has_scope.ensures.0 c.if-has_scope.true), tt))
