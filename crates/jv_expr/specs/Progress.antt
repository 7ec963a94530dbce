-- What is left of a body behind the statements at its top that were checked.
use Rattle.std.specs.Prelude.{◌≡◌, ℕ, zero, suc, false, List, [], ◌∷◌, ◌++◌, Option, None, Some, Result, Ok, Err}
use Rattle.sg_base.specs.declared.scope.Scope.{Scope}
use Rattle.sg_query.specs.declared.answer.Answer.{Answer}
use Rattle.sg_query.specs.declared.query.Query.{Query}
use Rattle.sg_reading.specs.declared.stop.Stop.{Stop}
use Rattle.sg_reading.specs.Progress.{HasResidual}
use Rattle.sg_reading.specs.Reading.{done, and_then}
use Rattle.jv_diag.specs.Plain.{DiagOf}
use Rattle.jv_instance.specs.declared.datum.JavaDatum.{JavaDatum}
use Rattle.jv_instance.specs.declared.pred.JavaPred.{JavaPred}
use Rattle.jv_instance.specs.declared.ty.Ty.{Ty}
use Rattle.jv_layout.specs.Folder.{LayoutOf}
use Rattle.jv_tree.specs.declared.name.Ident.{Ident}
use Rattle.jv_tree.specs.StmtTree.{StmtTree, StmtTrees, no_stmts, stmts}
use Rattle.jv_tree.specs.DeclTree.{ParamTree, MethodTree, CtorTree}
use Rattle.jv_names.specs.Instances.{instance_bodies}
use Rattle.jv_names.specs.Read.{SignatureOf}
use Rattle.jv_names.specs.Replies.{Rule, reply_to}
use Rattle.jv_expr.specs.declared.begun_body.BegunBody.{BegunBody}
use Rattle.jv_expr.specs.declared.body_progress.BodyProgress.{BodyProgress}
use Rattle.jv_expr.specs.Bodies.{body_by, ctor_rule, member_instances, member_site, method_rule, optional_body, statements_checked, statements_rule}
use Rattle.jv_expr.specs.Site.{SiteOf}
use Rattle.jv_expr.specs.Statements.{Scoped, checked}

-- a statement at the top of a body, whose own diagnostics come behind those so far
abbrev pub top_checked : SiteOf → StmtTree → Scoped → Rule Scoped
top_checked site x s = and_then (checked site false x s.0 []) (λ t. done (t.0, s.1 ++ t.1))

-- the statements behind the first so many
abbrev pub behind : ℕ → StmtTrees → StmtTrees
behind zero xs = xs
behind (suc n) no_stmts = no_stmts
behind (suc n) (stmts x xs) = behind n xs

-- what is left of a body with these statements
abbrev pub statements_left : SiteOf → StmtTrees → BegunBody → Rule (List DiagOf)
statements_left site xs b = statements_checked site (behind b.count xs) (b.locals.items, b.diags)

-- what is left of a rule: all of it, where nothing was begun
abbrev pub left_of : Rule (List DiagOf) → (BegunBody → Rule (List DiagOf)) → Option BegunBody → Rule (List DiagOf)
left_of all rest None = all
left_of all rest (Some b) = rest b

-- a body of which no statement was checked: what a `return` gives, and the local variables and the diagnostics
pub record IsBegun (given : Option Ty) (s : Scoped) (b : BegunBody) : Type 0 where
  pub result : b.result ≡ given
  pub count : b.count ≡ 0
  pub scope : ◌≡◌ {A = Scoped} (b.locals.items, b.diags) s

-- what a call gives that begins a body: its local variables and its diagnostics
abbrev pub begun_scope : Result BegunBody (Stop (Query JavaPred)) → Result Scoped (Stop (Query JavaPred))
begun_scope (Ok b) = Ok (b.locals.items, b.diags)
begun_scope (Err e) = Err e

-- what is left of the statements of a method
abbrev pub method_statements_left : LayoutOf → List (List ℕ) → Scope → List (List Ident) → Scope → StmtTrees → BegunBody → Rule (List DiagOf)
method_statements_left l names c extends m xs b = statements_left (member_site l names c extends (member_instances l c m) [] b.result) xs b

-- a body of a method of which no statement was checked, by its parameters and its signature: all of its statements are left, whatever they are
abbrev pub IsMethodBegun : LayoutOf → List (List ℕ) → Scope → List (List Ident) → Scope → List ParamTree → Option SignatureOf → BegunBody → Type 0
IsMethodBegun l names c extends m ps s b = (xs : StmtTrees) → method_statements_left l names c extends m xs b ≡ body_by l names c extends m ps xs s

-- what is left of a method with this body, or without one
abbrev pub optional_left : LayoutOf → List (List ℕ) → Scope → List (List Ident) → Scope → MethodTree → Option StmtTrees → BodyProgress → Rule (List DiagOf)
optional_left l names c extends m d None p = optional_body l names c extends m d None
optional_left l names c extends m d (Some xs) p = left_of (optional_body l names c extends m d (Some xs)) (method_statements_left l names c extends m xs) p.begun

-- what is left of a method
abbrev pub method_left : LayoutOf → List (List ℕ) → Scope → List (List Ident) → Scope → MethodTree → BodyProgress → Rule (List DiagOf)
method_left l names c extends m d p = optional_left l names c extends m d d.body p

-- what is left of the statements of a constructor
abbrev pub ctor_statements_left : LayoutOf → List (List ℕ) → Scope → List (List Ident) → List Scope → CtorTree → BegunBody → Rule (List DiagOf)
ctor_statements_left l names c extends blanks d b = statements_left (member_site l names c extends (c ∷ instance_bodies l c) blanks None) d.body b

-- what is left of a constructor; its super call comes before its statements
abbrev pub ctor_left : LayoutOf → List (List ℕ) → Scope → List (List Ident) → List Scope → Scope → CtorTree → BodyProgress → Rule (List DiagOf)
ctor_left l names c extends blanks m d p = left_of (ctor_rule l names c extends blanks m d) (ctor_statements_left l names c extends blanks d) p.begun

-- over these replies, the rule of what is left behind the one body goes on as what is left behind the other
abbrev pub IsFurther : List (Query JavaPred × Answer JavaDatum) → (BegunBody → Rule (List DiagOf)) → BegunBody → BegunBody → Type 0
IsFurther replies rest b c = HasResidual (reply_to replies) (rest b) (rest c)

-- over these replies, the rule of the statements of a method goes on as what is left of it, where a body was begun
abbrev pub IsBodySoFar : List (Query JavaPred × Answer JavaDatum) → LayoutOf → List (List ℕ) → Scope → List (List Ident) → Scope → List ParamTree → StmtTrees → Option BegunBody → Type 0
IsBodySoFar replies l names c extends m ps xs o =
    HasResidual (reply_to replies) (statements_rule l names c extends m ps xs) (left_of (statements_rule l names c extends m ps xs) (method_statements_left l names c extends m xs) o)

-- and so the rule of a method
abbrev pub IsMethodSoFar : List (Query JavaPred × Answer JavaDatum) → LayoutOf → List (List ℕ) → Scope → List (List Ident) → Scope → MethodTree → BodyProgress → Type 0
IsMethodSoFar replies l names c extends m d p = HasResidual (reply_to replies) (method_rule l names c extends m d) (method_left l names c extends m d p)

-- and that of a constructor, where a body was begun
abbrev pub IsCtorSoFar : List (Query JavaPred × Answer JavaDatum) → LayoutOf → List (List ℕ) → Scope → List (List Ident) → List Scope → Scope → CtorTree → Option BegunBody → Type 0
IsCtorSoFar replies l names c extends blanks m d o =
    HasResidual (reply_to replies) (ctor_rule l names c extends blanks m d) (left_of (ctor_rule l names c extends blanks m d) (ctor_statements_left l names c extends blanks d) o)
