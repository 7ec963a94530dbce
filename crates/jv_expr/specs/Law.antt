-- What the rules of conversions and of bodies look at in a graph: the answers to their own queries, and nothing else.
use Rattle.std.specs.Prelude.{◌≡◌, ℕ, true, List, Option}
use Rattle.sg_base.specs.declared.scope.Scope.{Scope}
use Rattle.jv_instance.specs.declared.ty.Ty.{Ty}
use Rattle.jv_instance.specs.declared.type_base.TypeBase.TheVariants.{Class}
use Rattle.jv_layout.specs.Folder.{LayoutOf}
use Rattle.jv_layout.specs.Readers.{object_scope}
use Rattle.jv_tree.specs.declared.name.Ident.{Ident}
use Rattle.jv_tree.specs.ExprTree.{InitTree}
use Rattle.jv_tree.specs.DeclTree.{MethodTree, CtorTree}
use Rattle.jv_names.specs.Law.{ReadsOnlyItsQueries}
use Rattle.jv_names.specs.Read.{with_object}
use Rattle.jv_types.specs.Conversion.{is_assignable}
use Rattle.jv_expr.specs.Bodies.{ctor_rule, field_rule, method_rule}
use Rattle.jv_expr.specs.Conversions.{fits, is_below_object, known_supers, sides}

-- the rule of whether a type fits another one looks at a graph by its own queries alone
abbrev pub ConversionsReadOnlyTheirQueries : Type 0
ConversionsReadOnlyTheirQueries = (l : LayoutOf) (s t : Ty) → ReadsOnlyItsQueries (fits l s t)

-- the rule of what decides whether one of two types may be cast to the other looks at a graph by its own queries alone
abbrev pub ComparisonsReadOnlyTheirQueries : Type 0
ComparisonsReadOnlyTheirQueries = (l : LayoutOf) (s t : Ty) → ReadsOnlyItsQueries (sides l s t)

-- whatever supertypes are read of an interface that is compared with `Object`, they decide no more than what is known of it without a query
abbrev pub InterfacesAreKnown : Type 0
InterfacesAreKnown =
    (l : LayoutOf) (s t : Ty) (c : Scope) (up : List Scope) → s.base ≡ Class c → is_below_object l s.base t.base ≡ true
    → is_assignable (with_object l c up) (object_scope l) s t ≡ is_assignable (known_supers l s.base) (object_scope l) s t

-- the initializer of a field, the body of a method, and a constructor
abbrev pub FieldReadsOnlyItsQueries : Type 0
FieldReadsOnlyItsQueries =
    (l : LayoutOf) (names : List (List ℕ)) (c : Scope) (extends : List (List Ident)) (m : Scope) (x : Option InitTree) → ReadsOnlyItsQueries (field_rule l names c extends m x)

-- the rule of the body of a method looks at a graph by its own queries alone
abbrev pub MethodReadsOnlyItsQueries : Type 0
MethodReadsOnlyItsQueries =
    (l : LayoutOf) (names : List (List ℕ)) (c : Scope) (extends : List (List Ident)) (m : Scope) (d : MethodTree) → ReadsOnlyItsQueries (method_rule l names c extends m d)

-- the rule of a constructor looks at a graph by its own queries alone
abbrev pub ConstructorReadsOnlyItsQueries : Type 0
ConstructorReadsOnlyItsQueries =
    (l : LayoutOf) (names : List (List ℕ)) (c : Scope) (extends : List (List Ident)) (blanks : List Scope) (m : Scope) (d : CtorTree) → ReadsOnlyItsQueries (ctor_rule l names c extends blanks m d)

-- the rules of fields, methods and constructors look at a graph by their own queries alone
abbrev pub BodiesReadOnlyTheirQueries : Type 0
BodiesReadOnlyTheirQueries = FieldReadsOnlyItsQueries × MethodReadsOnlyItsQueries × ConstructorReadsOnlyItsQueries
