-- The spine of an expression: what stands innermost, and the fields, calls and indexes that go on from it (JLS 15.10.3, 15.11, 15.12).
use Rattle.std.specs.Prelude.{◌≡◌, ℕ, List, [], ◌∷◌}
use Rattle.jv_tree.specs.declared.name.Ident.{Ident}
use Rattle.jv_tree.specs.declared.spine.Step.{Step}
use Rattle.jv_tree.specs.declared.spine.StepKind.{StepKind}
use Rattle.jv_tree.specs.declared.spine.StepKind.TheVariants.{Field, Call, Index}
use Rattle.jv_tree.specs.ExprTree as e
use Rattle.jv_tree.specs.ExprTree.{ExprTree, ExprTrees, expr_tree, expr_trees}

-- what goes on from an expression: a field, a call with its arguments, or an index
pub data StepKindTree : Type 0 where
  field : Ident → StepKindTree
  call : Ident → ExprTrees → StepKindTree
  index : ExprTree → StepKindTree

-- with the place where the whole starts
pub record StepTree : Type 0 where
  pub at : ℕ
  pub kind : StepKindTree

-- the expression that a step makes of the one before it
abbrev pub stepped : ExprTree → ℕ → StepKindTree → ExprTree
stepped x at (field i) = e.expr at (e.field x i)
stepped x at (call i xs) = e.expr at (e.call (e.on x) i xs)
stepped x at (index y) = e.expr at (e.index x y)

-- the expression that steps make of a head, the innermost step first
abbrev pub outward : ExprTree → List StepTree → ExprTree
outward x [] = x
outward x (s ∷ ss) = outward (stepped x s.at s.kind) ss

-- an expression that goes on from no other
abbrev pub IsHead : ExprTree → Type 0
IsHead (e.expr at (e.field x i)) = ⊥
IsHead (e.expr at (e.call (e.on x) i xs)) = ⊥
IsHead (e.expr at (e.index x y)) = ⊥
IsHead (e.expr at k) = Unit {0}

-- the pure tree of a step
abbrev pub step_kind_tree : StepKind → StepKindTree
step_kind_tree (Field i) = field i
step_kind_tree (Call i xs) = call i (expr_trees xs.now)
step_kind_tree (Index x) = index (expr_tree x.now)

-- the pure tree of a step, with the place where the whole starts
abbrev pub step_tree : Step → StepTree
step_tree s = record { at = s.at; kind = step_kind_tree s.kind }

-- an expression has one spine
abbrev pub SpinesAreOne : Type 0
SpinesAreOne = (x y : ExprTree) (ss ts : List StepTree) → IsHead x → IsHead y → outward x ss ≡ outward y ts → (x ≡ y) × (ss ≡ ts)
