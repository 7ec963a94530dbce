use Rattle.std.proofs.Common.{drop, sym, ◌∙◌}
use Rattle.jv_names.specs.Instances.{instances_from}
use Rattle.jv_names.proofs.InstanceSteps.{instances_end}
use Rattle.jv_names.proofs.instances.instances_from.Goals as goal

pub returns-then-is_static : goal.returns-then-is_static
returns-then-is_static c =
    let l = c.args.l.now in
    let bodies = c.args.bodies.now in
    instances_end l c.loop-body.found (instances_from l c.args.ty bodies) c.loop-body.inner (drop c.loop-body.body-index bodies) (sym c.is_static.ensures ∙ c.if-is_static.true) c.loop-body.invariant
