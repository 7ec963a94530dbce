use Rattle.std.specs.List.{list_any}
use Rattle.sg_base.specs.Scope.{is_scope}
use Rattle.sg_engine.proofs.Passing.{still_passed}
use Rattle.sg_engine.proofs.nodes.pass_one.Goals as goal

pub returns-in_ok-insert-clause-stay : goal.returns-in_ok-insert-clause-stay
returns-in_ok-insert-clause-stay c = λ t was.
    still_passed (is_scope c.args.from t) (list_any (is_scope t) c.args.passed.now.keys) (list_any (is_scope t) c.insert.new.self.keys) (c.in_ok-insert.ensures.updates.0 t) was
