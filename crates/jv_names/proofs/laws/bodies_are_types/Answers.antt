use Rattle.jv_names.proofs.Bounds.{bodies_are_types}
use Rattle.jv_names.proofs.ReadBounds.{instance_bodies_are_types}
use Rattle.jv_names.proofs.laws.bodies_are_types.Goals as goal

pub returns-clause-bodies : goal.returns-clause-bodies
returns-clause-bodies c = bodies_are_types

pub returns-clause-instances : goal.returns-clause-instances
returns-clause-instances c = instance_bodies_are_types
