-- What the steps along an expression's spine come to: fields, calls and indexes, one behind another (JLS 15.10.3, 15.11, 15.12).
use Rattle.std.specs.Prelude.{ℕ, false, List, [], ◌∷◌}
use Rattle.sg_reading.specs.Reading.{done, and_then}
use Rattle.jv_diag.specs.Plain.{DiagOf}
use Rattle.jv_tree.specs.Spine.{StepTree, StepKindTree, field, call, index}
use Rattle.jv_expr.specs.declared.front.Front.TheVariants.{Value as ValueFront}
use Rattle.jv_expr.specs.declared.local.Local.{Local}
use Rattle.jv_expr.specs.declared.value.Value.{Value}
use Rattle.jv_expr.specs.Behind.{front_called, index_behind}
use Rattle.jv_expr.specs.Checking.{Checking}
use Rattle.jv_expr.specs.Fields.{field_on}
use Rattle.jv_expr.specs.Site.{SiteOf}

module _ (site : SiteOf) (vs : List Local) where
  -- a step behind the value of another step, which is neither `this` nor a name
  abbrev pub step_typed : Value → ℕ → StepKindTree → List DiagOf → Checking Value
  step_typed v at (field i) ds = field_on site false v.ty i ds
  step_typed v at (call i xs) ds = front_called site vs (ValueFront v) i xs ds
  step_typed v at (index y) ds = index_behind site vs at v.ty y ds

  -- such steps one behind another, the innermost first
  abbrev pub steps_typed : Value → List StepTree → List DiagOf → Checking Value
  steps_typed v [] ds = done (v, ds)
  steps_typed v (s ∷ ss) ds = and_then (step_typed v s.at s.kind ds) (λ w. steps_typed w.0 ss w.1)
