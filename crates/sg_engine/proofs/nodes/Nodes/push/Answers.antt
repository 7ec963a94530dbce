use Rattle.std.proofs.Common.{◌<◌, ◌⊎◌, List, length, map, inl, inr, sym, subst, arith}
use Rattle.std.specs.Arc.{arc_value}
use Rattle.sg_engine.specs.declared.nodes.Node.{Node}
use Rattle.sg_engine.specs.Nodes.{NodeOf, node_by, AreFew, IsPassed, HasPassed, ArePassed}
use Rattle.sg_engine.proofs.Passing.{still_few, few_or_push}
use Rattle.sg_engine.proofs.Resting.{map_push, node_at, many}
use Rattle.sg_engine.proofs.nodes.Nodes.push.Goals as goal

pub invariant_of-self : goal.invariant_of-self
invariant_of-self c =
    let ws = arc_value c.self.inside.words in
    let ns = c.self.inside.nodes.items in
    let now = c.pass.new.passed.keys in
    let last = c.pass.new.last in
    let here : AreFew ns ⊎ IsPassed now last = subst (λ (ms : List Node). AreFew ms ⊎ IsPassed now last) c.as_slice-nodes.ensures.value c.pass.ensures.last in
    still_few c.self.inside.passed.keys now c.self.inside.last last (map (node_by ws) ns) c.pass.ensures.stay (elim here [
      | inl few ↦ inl (omega (arith, many ws ns, few))
      | inr at ↦ inr at
    ]) c.self.invariant

pub invariant_of-self-2 : goal.invariant_of-self-2
invariant_of-self-2 c =
    let ws = arc_value c.self.inside.words in
    let ns = c.self.inside.nodes.items in
    let over = c.index.result.now in
    let was = c.self.inside.passed.keys in
    let now = c.pass.new.passed.keys in
    let last = c.pass.new.last in
    let there : c.args.parent < length ns = omega (arith, many ws ns, rw (← c.self.view_is) at c.requires) in
    let m : Node = record { parent = c.args.parent; step = c.args.step; set = c.args.set } in
    let has : HasPassed now last over.step.to (map (node_by ws) ns) = subst (λ (ms : List Node). HasPassed now last over.step.to (map (node_by ws) ms)) c.as_slice-nodes.ensures.value (c.in_ok-pass.ensures.ok ws) in
    rw c.in_ok-push.ensures.items (subst (λ (t : List NodeOf). ArePassed now last t) (sym (map_push ws ns m))
    (few_or_push was now c.self.inside.last last (map (node_by ws) ns) (node_by ws m) (node_by ws over) (omega (arith, many ws ns, there)) (node_at ws ns c.args.parent over there c.index.ensures) c.pass.ensures.stay has c.self.invariant))
