use Rattle.std.proofs.Common.{◌≡◌, sym, ap, ◌∙◌}
use Rattle.jv_tree.specs.declared.spine.Step.{Step}
use Rattle.jv_tree.specs.declared.spine.StepKind.TheVariants as k
use Rattle.jv_tree.specs.ExprTree.{ExprTree, on, expr, call, expr_tree, kind_tree, expr_trees}
use Rattle.jv_tree.specs.Spine.{stepped, step_tree}
use Rattle.jv_tree.proofs.CallKinds.{call_on}
use Rattle.jv_tree.proofs.Spines.{further_in, turned}
use Rattle.jv_tree.proofs.expression.Expr.spine.Goals as goal

pub loop-head-preserved-in-On-1 : goal.loop-head-preserved-in-On-1
loop-head-preserved-in-On-1 c =
    let w = c.in-Call in
    let s : Step = record { at = c.loop-head.head.now.at; kind = k.Call w.name c.deref.result } in
    let inner : ExprTree = expr_tree c.deref-head-in-On.result.now in
    let is_call : kind_tree c.loop-head.head.now.kind ≡ call (on (expr_tree c.in-On.object.value)) w.name (expr_trees w.arguments.items) =
    call_on c.loop-head.head.now.kind w.target c.in-On.object w.name w.arguments w.is c.in-On.is in
    let made : stepped inner (step_tree s).at (step_tree s).kind ≡ expr_tree c.loop-head.head.now =
    ap (λ x. expr c.loop-head.head.now.at (call (on (expr_tree x)) w.name (expr_trees c.deref.result.now))) c.deref-head-in-On.ensures
    ∙ ap (λ xs. expr c.loop-head.head.now.at (call (on (expr_tree c.in-On.object.value)) w.name (expr_trees xs))) c.deref.ensures.value
    ∙ ap (expr c.loop-head.head.now.at) (sym is_call) in
    further_in (expr_tree c.loop-head.head.now) inner (expr_tree c.args.self.now) s c.loop-head.steps.items c.push-in-On.new.self.items
    c.in_ok-push-in-On.ensures.items made c.loop-head.invariant

pub returns-clause-whole : goal.returns-clause-whole
returns-clause-whole c = turned (expr_tree c.loop-head.head.now) (expr_tree c.args.self.now) c.loop-head.steps.items c.reverse.new.self.items c.reverse.ensures.items c.loop-head.invariant
