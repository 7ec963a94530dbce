use Rattle.std.proofs.Common.{◌≡◌, ◌+◌, [], ◌∷◌, ◌++◌, List, take, sym, ◌∙◌, ap, subst}
use Rattle.std.proofs.lemmas.List.{take_more, take_all}
use Rattle.std.specs.List.{list_any}
use Rattle.sg_base.specs.declared.scope.Scope.{Scope}
use Rattle.sg_base.specs.Scope.{is_scope}
use Rattle.sg_engine.specs.declared.nodes.Node.{Node}
use Rattle.sg_engine.specs.Nodes.{StayPassed, EndsPass}
use Rattle.sg_engine.proofs.Passing.{still_passed, now_passed, ends_more, ends_push}
use Rattle.sg_engine.proofs.nodes.pass_all.Goals as goal

pub loop-node-preserved : goal.loop-node-preserved
loop-node-preserved c =
    let was = c.loop-node.passed.keys in
    let now = c.insert.new.self.keys in
    let ns = c.args.nodes.now in
    let k = c.loop-node.node-index in
    let x = c.node-item.result in
    let up : StayPassed was now = λ t h. still_passed (is_scope x.step.to t) (list_any (is_scope t) was) (list_any (is_scope t) now) (c.in_ok-insert.ensures.updates.0 t) h in
    let longer : take (k + 1) ns ≡ take k ns ++ x ∷ [] = take_more ns k x c.loop-node-test.true ∙ ap (λ (y : Node). take k ns ++ y ∷ []) (sym c.node-item.is) in (
      (λ t h. up t (c.loop-node.invariant.0 t h)),
      subst (λ (ms : List Node). EndsPass now ms) (sym longer) (ends_push now (take k ns) x (ends_more was now (take k ns) up c.loop-node.invariant.1) (now_passed x.step.to (list_any (is_scope x.step.to) was) (list_any (is_scope x.step.to) now) (c.in_ok-insert.ensures.updates.0 x.step.to))),
    )

pub returns-clause-stay : goal.returns-clause-stay
returns-clause-stay c = λ t h.
    still_passed (is_scope c.args.from t) (list_any (is_scope t) c.loop-node.passed.keys) (list_any (is_scope t) c.insert-2.new.self.keys) (c.in_ok-insert-2.ensures.updates.0 t) (c.loop-node.invariant.0 t h)

pub returns-clause-ends : goal.returns-clause-ends
returns-clause-ends c =
    let was = c.loop-node.passed.keys in
    let now = c.insert-2.new.self.keys in
    let ns = c.args.nodes.now in
    let whole : take c.loop-node.node-index ns ≡ ns = take_all c.loop-node.node-index ns c.loop-node-test.false in
    ends_more was now ns (λ t h. still_passed (is_scope c.args.from t) (list_any (is_scope t) was) (list_any (is_scope t) now) (c.in_ok-insert-2.ensures.updates.0 t) h) (subst (λ (ms : List Node). EndsPass was ms) whole c.loop-node.invariant.1)
