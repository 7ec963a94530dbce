-- The diagnostics of statements, and the local variables that they declare (JLS 14).
use Rattle.std.specs.Prelude.{ℕ, ◌&&◌, Bool, true, false, List, [], ◌∷◌, ◌++◌, length, take, Option, None, Some, is_some}
use Rattle.sg_reading.specs.Reading.{done, and_then}
use Rattle.jv_diag.specs.declared.codes.TheConstants.{DUPLICATE_VARIABLE, NO_LOOP, WRONG_RETURN}
use Rattle.jv_diag.specs.Plain.{DiagOf}
use Rattle.jv_instance.specs.declared.ty.Ty.{Ty}
use Rattle.jv_tree.specs.declared.name.Ident.{Ident}
use Rattle.jv_tree.specs.TypeTree.{TypeTree}
use Rattle.jv_tree.specs.ExprTree.{ExprTree, ExprTrees, no_exprs, exprs, InitTree}
use Rattle.jv_tree.specs.StmtTree.{VarTree, StmtTree, stmt, block, empty, local, effect, if_else, while_loop, do_loop, for_loop, return, break, continue, StmtTrees, no_stmts, stmts, BranchTrees, no_branches, branches, ElseTree, no_else, otherwise}
use Rattle.jv_names.specs.Replies.{Rule}
use Rattle.jv_expr.specs.declared.local.Local.{Local}
use Rattle.jv_expr.specs.Operators.{assigned_to, with_condition}
use Rattle.jv_expr.specs.Site.{SiteOf, with_fault, with_fault_if, with_named_if}
use Rattle.jv_expr.specs.Typed.{init_typed, start, typed, written_at}
use Rattle.jv_expr.specs.Variables.{latest}

-- the local variables in scope, and the diagnostics so far
abbrev pub Scoped : Type 0
Scoped = List Local × List DiagOf

-- ---- expressions in statements

-- an expression whose value is left alone
abbrev pub effect_checked : SiteOf → List Local → ExprTree → List DiagOf → Rule (List DiagOf)
effect_checked site vs x ds = and_then (typed site vs x ds) (λ v. done v.1)

-- expressions whose values are left alone, one after another
abbrev pub effects_checked : SiteOf → List Local → ExprTrees → List DiagOf → Rule (List DiagOf)
effects_checked site vs no_exprs ds = done ds
effects_checked site vs (exprs x xs) ds = and_then (effect_checked site vs x ds) (λ ds. effects_checked site vs xs ds)

-- a condition (JLS 14.9, 14.12, 14.13, 14.14)
abbrev pub condition_checked : SiteOf → List Local → ExprTree → List DiagOf → Rule (List DiagOf)
condition_checked site vs x ds = and_then (typed site vs x ds) (λ v. done (with_condition site (start x) v.0.ty v.1))

-- a condition that may be left out
abbrev pub optional_condition : SiteOf → List Local → Option ExprTree → List DiagOf → Rule (List DiagOf)
optional_condition site vs None ds = done ds
optional_condition site vs (Some x) ds = condition_checked site vs x ds

-- a value that is returned at an offset (JLS 14.17)
abbrev pub value_returned : SiteOf → ℕ → Option Ty → ℕ → Ty → List DiagOf → Rule (List DiagOf)
value_returned site at None place t ds = done (with_fault site at WRONG_RETURN [] ds)
value_returned site at (Some r) place t ds = assigned_to site place t r ds

-- a `return` at an offset, with a value or without one; without one, none may be needed there (JLS 14.17)
abbrev pub returned : SiteOf → ℕ → List Local → Option ExprTree → List DiagOf → Rule (List DiagOf)
returned site at vs None ds = done (with_fault_if (is_some site.result) site at WRONG_RETURN [] ds)
returned site at vs (Some x) ds = and_then (typed site vs x ds) (λ v. value_returned site at site.result (start x) v.0.ty v.1)

-- ---- local variables (JLS 14.4)

-- with a variable of a name and a type more; one of the name that is in scope already is said
abbrev pub declared : SiteOf → Ident → Ty → Bool → List Local → List DiagOf → Scoped
declared site i t sealed vs ds = (vs ++ record { name = i.id; ty = t; sealed = sealed } ∷ [], with_named_if (is_some (latest vs i.id None)) site i DUPLICATE_VARIABLE ds)

-- an initializer of a variable of this type, which may be left out
abbrev pub optional_init : SiteOf → List Local → Ty → Option InitTree → List DiagOf → Rule (List DiagOf)
optional_init site vs t None ds = done ds
optional_init site vs t (Some x) ds = init_typed site vs t x ds

-- a variable of a declaration, whose own initializer is in its scope; a final one that has an initializer cannot be assigned
abbrev pub variable_checked : SiteOf → Bool → Ty → VarTree → List Local → List DiagOf → Rule Scoped
variable_checked site is_final t v vs ds =
    and_then (optional_init site (declared site v.name t (is_final && is_some v.init) vs ds).0 t v.init (declared site v.name t (is_final && is_some v.init) vs ds).1) (λ ds'.
    done ((declared site v.name t (is_final && is_some v.init) vs ds).0, ds'))

-- the variables of a declaration, one after another, each in the scope of those before it
abbrev pub variables_checked : SiteOf → Bool → Ty → List VarTree → List Local → List DiagOf → Rule Scoped
variables_checked site is_final t [] vs ds = done (vs, ds)
variables_checked site is_final t (x ∷ xs) vs ds = and_then (variable_checked site is_final t x vs ds) (λ s. variables_checked site is_final t xs s.0 s.1)

-- a declaration of local variables with its written type
abbrev pub local_checked : SiteOf → Bool → TypeTree → List VarTree → List Local → List DiagOf → Rule Scoped
local_checked site is_final t xs vs ds = and_then (written_at site t ds) (λ w. variables_checked site is_final w.0 xs vs w.1)

-- ---- statements

-- a statement outside a loop that asks for one (JLS 14.15, 14.16)
abbrev pub in_loop : SiteOf → ℕ → Bool → List DiagOf → List DiagOf
in_loop site at true ds = ds
in_loop site at false ds = with_fault site at NO_LOOP [] ds

-- the local variables as they were before
abbrev pub left : List Local → Rule Scoped → Rule Scoped
left vs r = and_then r (λ s. done (take (length vs) s.0, s.1))

-- the diagnostics alone change
abbrev pub keeping : List Local → Rule (List DiagOf) → Rule Scoped
keeping vs r = and_then r (λ ds. done (vs, ds))

abbrev mutual
  -- a statement, within a loop or outside
  pub checked : SiteOf → Bool → StmtTree → List Local → List DiagOf → Rule Scoped
  checked site loop (stmt at (block xs)) vs ds = left vs (all_checked site loop xs vs ds)
  checked site loop (stmt at empty) vs ds = done (vs, ds)
  checked site loop (stmt at (local f t xs)) vs ds = local_checked site f t xs vs ds
  checked site loop (stmt at (effect x)) vs ds = keeping vs (effect_checked site vs x ds)
  checked site loop (stmt at (if_else xs e)) vs ds = and_then (branches_checked site loop xs vs ds) (λ s. else_checked site loop e s.0 s.1)
  checked site loop (stmt at (while_loop x s)) vs ds = and_then (condition_checked site vs x ds) (λ ds. checked site true s vs ds)
  checked site loop (stmt at (do_loop s x)) vs ds = and_then (checked site true s vs ds) (λ t. keeping t.0 (condition_checked site t.0 x t.1))
  checked site loop (stmt at (for_loop xs x ys s)) vs ds =
      left vs (and_then (all_checked site loop xs vs ds) (λ t. and_then (optional_condition site t.0 x t.1) (λ ds. and_then (effects_checked site t.0 ys ds) (λ ds. checked site true s t.0 ds))))
  checked site loop (stmt at (return x)) vs ds = keeping vs (returned site at vs x ds)
  checked site loop (stmt at break) vs ds = done (vs, in_loop site at loop ds)
  checked site loop (stmt at continue) vs ds = done (vs, in_loop site at loop ds)

  -- statements, one after another, each in the scope of the variables that those before it declare
  pub all_checked : SiteOf → Bool → StmtTrees → List Local → List DiagOf → Rule Scoped
  all_checked site loop no_stmts vs ds = done (vs, ds)
  all_checked site loop (stmts x xs) vs ds = and_then (checked site loop x vs ds) (λ s. all_checked site loop xs s.0 s.1)

  -- the conditions of an `if` with what they guard
  pub branches_checked : SiteOf → Bool → BranchTrees → List Local → List DiagOf → Rule Scoped
  branches_checked site loop no_branches vs ds = done (vs, ds)
  branches_checked site loop (branches x s xs) vs ds =
      and_then (condition_checked site vs x ds) (λ ds. and_then (checked site loop s vs ds) (λ t. branches_checked site loop xs t.0 t.1))

  -- what stands behind the `else` of an `if`, where there is one
  pub else_checked : SiteOf → Bool → ElseTree → List Local → List DiagOf → Rule Scoped
  else_checked site loop no_else vs ds = done (vs, ds)
  else_checked site loop (otherwise s) vs ds = checked site loop s vs ds
