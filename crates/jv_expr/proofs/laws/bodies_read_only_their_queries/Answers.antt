use Rattle.sg_reading.proofs.Readings.{reads_only}
use Rattle.jv_names.specs.Law.{InGraph}
use Rattle.jv_expr.specs.Bodies.{ctor_rule, field_rule, method_rule}
use Rattle.jv_expr.proofs.laws.bodies_read_only_their_queries.Goals as goal

pub returns : goal.returns
returns c = (
  λ l names ty extends m x g h. reads_only (InGraph g) (InGraph h) (field_rule l names ty extends m x),
  λ l names ty extends m d g h. reads_only (InGraph g) (InGraph h) (method_rule l names ty extends m d),
  λ l names ty extends blanks m d g h. reads_only (InGraph g) (InGraph h) (ctor_rule l names ty extends blanks m d),
)
