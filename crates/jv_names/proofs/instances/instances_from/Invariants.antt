use Rattle.std.proofs.Common.{◌≡◌, ◌++◌, drop}
use Rattle.jv_names.specs.Instances.{instances_from}
use Rattle.jv_names.proofs.instances.instances_from.Given as goal

abbrev pub invariant-loop-body : goal.invariant-loop-body
invariant-loop-body l = l.found ++ instances_from l.l l.inner (drop l.body-index l.bodies) ≡ instances_from l.l l.fn.ty l.fn.bodies
