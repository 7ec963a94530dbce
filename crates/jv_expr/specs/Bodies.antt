-- The diagnostics of the bodies of methods and constructors, and of the initializers of fields (JLS 8.3.2, 8.4.7, 8.8.7).
use Rattle.std.specs.Prelude.{ℕ, ◌||◌, Bool, true, false, cond, List, [], ◌∷◌, ◌++◌, Option, None, Some}
use Rattle.sg_base.specs.declared.scope.Scope.{Scope}
use Rattle.sg_reading.specs.Reading.{done, and_then}
use Rattle.jv_diag.specs.Plain.{DiagOf}
use Rattle.jv_instance.specs.declared.ty.Ty.{Ty}
use Rattle.jv_layout.specs.Folder.{LayoutOf}
use Rattle.jv_layout.specs.Readers.{file_of, is_static_of}
use Rattle.jv_tree.specs.declared.name.Ident.{Ident}
use Rattle.jv_tree.specs.ExprTree.{ExprTrees, InitTree}
use Rattle.jv_tree.specs.StmtTree.{StmtTrees, no_stmts, stmts}
use Rattle.jv_tree.specs.DeclTree.{ParamTree, MethodTree, CtorTree}
use Rattle.jv_types.specs.Operators.{bad_type, is_void}
use Rattle.jv_names.specs.Bodies.{member_bodies}
use Rattle.jv_names.specs.Instances.{instance_bodies}
use Rattle.jv_names.specs.Read.{SignatureOf, signature_of}
use Rattle.jv_names.specs.Replies.{Rule}
use Rattle.jv_expr.specs.declared.local.Local.{Local}
use Rattle.jv_expr.specs.Calls.{super_called}
use Rattle.jv_expr.specs.Fields.{result_of}
use Rattle.jv_expr.specs.Returns.{some_return}
use Rattle.jv_expr.specs.Site.{SiteOf}
use Rattle.jv_expr.specs.Statements.{Scoped, checked, declared}
use Rattle.jv_expr.specs.Typed.{arguments_typed, init_typed}

-- ---- where members stand

-- the bodies of which a member has an instance: its own, unless it is static, and those outside
abbrev pub member_instances : LayoutOf → Scope → Scope → List Scope
member_instances l c m = cond (is_static_of l m) (instance_bodies l c) (c ∷ instance_bodies l c)

-- a member of a type that extends these names; the blank fields that it may assign, and the result that it gives
abbrev pub member_site : LayoutOf → List (List ℕ) → Scope → List (List Ident) → List Scope → List Scope → Option Ty → SiteOf
member_site l names c extends instances blanks result = record {
  layout = l;
  names = names;
  file = file_of l c;
  class = c;
  bodies = member_bodies l c;
  instances = instances;
  extends = extends;
  blanks = blanks;
  result = result;
}

-- ---- what a body needs of its member

-- there are parameters
abbrev pub has_params : List ParamTree → Bool
has_params [] = false
has_params (p ∷ ps) = true

-- the body of a method needs the types of its parameters, and the result where a `return` stands in it
abbrev pub needs_types : List ParamTree → StmtTrees → Bool
needs_types ps xs = has_params ps || some_return xs

-- the signature of a member whose body needs its types; another one is not read
unfoldable pub needed_signature : LayoutOf → Scope → Bool → Rule (Option SignatureOf)
needed_signature l m needed = cond needed (signature_of l m) (done None)

-- ---- parameters (JLS 8.4.1)

-- the types of a signature's parameters; where there is none, none is known
abbrev pub param_types : Option SignatureOf → List Ty
param_types None = []
param_types (Some s) = s.params

-- the parameters of a body, by the types of its signature; one without a type has a bad one
abbrev pub params_declared : SiteOf → List ParamTree → List Ty → List Local → List DiagOf → Scoped
params_declared site [] ts vs ds = (vs, ds)
params_declared site (p ∷ ps) [] vs ds =
    params_declared site ps [] (declared site p.name bad_type p.is_final vs ds).0 (declared site p.name bad_type p.is_final vs ds).1
params_declared site (p ∷ ps) (t ∷ ts) vs ds =
    params_declared site ps ts (declared site p.name t p.is_final vs ds).0 (declared site p.name t p.is_final vs ds).1

-- ---- bodies

-- the diagnostics of the statements at the top of a body: each statement's own, behind those before
abbrev pub statements_checked : SiteOf → StmtTrees → Scoped → Rule (List DiagOf)
statements_checked site no_stmts s = done s.1
statements_checked site (stmts x xs) s = and_then (checked site false x s.0 []) (λ t. statements_checked site xs (t.0, s.1 ++ t.1))

-- what a `return` gives in a method: nothing where its result is void
abbrev pub given_result : Option SignatureOf → Option Ty
given_result s = cond (is_void (result_of s)) None (Some (result_of s))

-- a body whose signature is known, or not needed
abbrev pub body_by : LayoutOf → List (List ℕ) → Scope → List (List Ident) → Scope → List ParamTree → StmtTrees → Option SignatureOf → Rule (List DiagOf)
body_by l names c extends m ps xs s =
    statements_checked (member_site l names c extends (member_instances l c m) [] (given_result s)) xs (params_declared (member_site l names c extends (member_instances l c m) [] (given_result s)) ps (param_types s) [] [])

-- the statements of a method
abbrev pub statements_rule : LayoutOf → List (List ℕ) → Scope → List (List Ident) → Scope → List ParamTree → StmtTrees → Rule (List DiagOf)
statements_rule l names c extends m ps xs = and_then (needed_signature l m (needs_types ps xs)) (λ s. body_by l names c extends m ps xs s)

-- the body of a method; a method without one has nothing to check
abbrev pub optional_body : LayoutOf → List (List ℕ) → Scope → List (List Ident) → Scope → MethodTree → Option StmtTrees → Rule (List DiagOf)
optional_body l names c extends m d None = done []
optional_body l names c extends m d (Some xs) = statements_rule l names c extends m d.params xs

-- ---- constructors

-- the arguments of a super call have no instance of the class itself (JLS 8.8.7.1)
abbrev pub call_site : LayoutOf → List (List ℕ) → Scope → List (List Ident) → SiteOf
call_site l names c extends = member_site l names c extends (instance_bodies l c) [] None

-- the super call of a constructor with parameters, where it has one
abbrev pub super_checked : SiteOf → Option (ℕ × ExprTrees) → Scoped → Rule Scoped
super_checked site None s = done s
super_checked site (Some x) s = and_then (arguments_typed site s.0 x.1 [] s.1) (λ as'. and_then (super_called site x.0 as'.0 as'.1) (λ ds. done (s.0, ds)))

-- the parameters and the super call of a constructor
abbrev pub ctor_call : LayoutOf → List (List ℕ) → Scope → List (List Ident) → CtorTree → Option SignatureOf → Rule Scoped
ctor_call l names c extends d s = super_checked (call_site l names c extends) d.call (params_declared (call_site l names c extends) d.params (param_types s) [] [])

-- a constructor: its parameters, its super call, and its statements, which may assign the blank fields of its class
abbrev pub ctor_body : LayoutOf → List (List ℕ) → Scope → List (List Ident) → List Scope → CtorTree → Option SignatureOf → Rule (List DiagOf)
ctor_body l names c extends blanks d s =
    and_then (ctor_call l names c extends d s) (λ t. statements_checked (member_site l names c extends (c ∷ instance_bodies l c) blanks None) d.body t)

-- ---- members

-- the initializer of a field whose signature is known
abbrev pub init_by : LayoutOf → List (List ℕ) → Scope → List (List Ident) → Scope → InitTree → Option SignatureOf → Rule (List DiagOf)
init_by l names c extends m x s = init_typed (member_site l names c extends (member_instances l c m) [] None) [] (result_of s) x []

-- the initializer of a field, where it has one
abbrev pub field_rule : LayoutOf → List (List ℕ) → Scope → List (List Ident) → Scope → Option InitTree → Rule (List DiagOf)
field_rule l names c extends m None = done []
field_rule l names c extends m (Some x) = and_then (signature_of l m) (λ s. init_by l names c extends m x s)

-- the body of a method; one without a body has nothing to check
abbrev pub method_rule : LayoutOf → List (List ℕ) → Scope → List (List Ident) → Scope → MethodTree → Rule (List DiagOf)
method_rule l names c extends m d = optional_body l names c extends m d d.body

-- a constructor, which may assign these blank fields
abbrev pub ctor_rule : LayoutOf → List (List ℕ) → Scope → List (List Ident) → List Scope → Scope → CtorTree → Rule (List DiagOf)
ctor_rule l names c extends blanks m d = and_then (needed_signature l m (has_params d.params)) (λ s. ctor_body l names c extends blanks d s)
