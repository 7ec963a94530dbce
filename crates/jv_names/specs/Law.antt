-- What a rule of names looks at in a graph: the answers to its own queries, and nothing else.
use Rattle.std.specs.Prelude.{ℕ, List, Bool, Option}
use Rattle.sg_base.specs.declared.scope.Scope.{Scope}
use Rattle.sg_base.specs.Graph.{GraphOf}
use Rattle.sg_query.specs.declared.answer.Answer.{Answer}
use Rattle.sg_query.specs.declared.query.Query.{Query}
use Rattle.sg_query.specs.Answer.{IsAnswer}
use Rattle.sg_reading.specs.Reading.{Gives, AnswersAlike}
use Rattle.jv_instance.specs.declared.datum.JavaDatum.{JavaDatum}
use Rattle.jv_instance.specs.declared.pred.JavaPred.{JavaPred}
use Rattle.jv_layout.specs.Folder.{LayoutOf}
use Rattle.jv_tree.specs.declared.name.Ident.{Ident}
use Rattle.jv_tree.specs.declared.names.NameId.{NameId}
use Rattle.jv_tree.specs.TypeTree.{TypeTree}
use Rattle.jv_instance.specs.declared.ty.Ty.{Ty}
use Rattle.jv_names.specs.declared.counts.Counts.TheVariants.{Methods}
use Rattle.jv_names.specs.declared.kinds.TheConstants.{ABOVE, METHODS}
use Rattle.jv_names.specs.declared.static_kind.StaticKind.{StaticKind}
use Rattle.jv_names.specs.Access.{type_accessible, member_accessible}
use Rattle.jv_names.specs.Instances.{has_enclosing}
use Rattle.jv_names.specs.Kinds.{asked_by}
use Rattle.jv_names.specs.Members.{all_methods, field, find_ends, methods}
use Rattle.jv_names.specs.Names.{import_name}
use Rattle.jv_names.specs.Read.{signature_of, supers_of, result_fits, ctor_of}
use Rattle.jv_names.specs.Replies.{Rule, for_any, for_name}
use Rattle.jv_names.specs.Statics.{static_members}
use Rattle.jv_names.specs.Superclass.{superclass}
use Rattle.jv_names.specs.TypeNames.{type_name}
use Rattle.jv_names.specs.WrittenTypes.{written_type}

-- the query has this answer in the graph
abbrev pub InGraph : GraphOf JavaDatum → Query JavaPred → Answer JavaDatum → Type 0
InGraph g q a = IsAnswer g (asked_by q) a

-- where two graphs answer alike the queries that the rule asks in the first, it has in the second the same value, after the same queries
abbrev pub ReadsOnlyItsQueries : {U : Type 0} → Rule U → Type 0
ReadsOnlyItsQueries {U} r =
    (g h : GraphOf JavaDatum) (v : U) (qs : List (Query JavaPred)) → Gives (InGraph g) r v qs → AnswersAlike (InGraph g) (InGraph h) qs → Gives (InGraph h) r v qs

-- the rule of what the name of a type means looks at a graph by its own queries alone
abbrev pub TypeNamesReadOnlyTheirQueries : Type 0
TypeNamesReadOnlyTheirQueries = (l : LayoutOf) (file : ℕ) (bodies : List Scope) (ids : List Ident) → ReadsOnlyItsQueries (type_name l file bodies ids)

-- the rule of what the name of an import means looks at a graph by its own queries alone
abbrev pub ImportsReadOnlyTheirQueries : Type 0
ImportsReadOnlyTheirQueries = (l : LayoutOf) (all : Bool) (ids : List Ident) → ReadsOnlyItsQueries (import_name l all ids)

-- the rule of the static members of a name that a file's static imports bring looks at a graph by its own queries alone
abbrev pub StaticMembersReadOnlyTheirQueries : Type 0
StaticMembersReadOnlyTheirQueries = (l : LayoutOf) (file : ℕ) (all : Bool) (k : StaticKind) (n : NameId) → ReadsOnlyItsQueries (static_members l file all k n)

-- the rule of whether a type is accessible looks at a graph by its own queries alone
abbrev pub TypeAccessReadsOnlyItsQueries : Type 0
TypeAccessReadsOnlyItsQueries = (l : LayoutOf) (file : ℕ) (bodies : List Scope) (t : Scope) → ReadsOnlyItsQueries (type_accessible l file bodies t)

-- the rule of the field of a name in a type looks at a graph by its own queries alone
abbrev pub FieldsReadOnlyTheirQueries : Type 0
FieldsReadOnlyTheirQueries = (l : LayoutOf) (class : Scope) (n : NameId) → ReadsOnlyItsQueries (field l class n)

-- the rule of the methods of a name that a type declares or inherits looks at a graph by its own queries alone
abbrev pub InheritedMethodsReadOnlyTheirQueries : Type 0
InheritedMethodsReadOnlyTheirQueries = (l : LayoutOf) (class : Scope) (n : NameId) → ReadsOnlyItsQueries (all_methods l class n)

-- the rule of the methods of a name that are members of a type looks at a graph by its own queries alone
abbrev pub MethodsReadOnlyTheirQueries : Type 0
MethodsReadOnlyTheirQueries = (l : LayoutOf) (class : Scope) (n : NameId) → ReadsOnlyItsQueries (methods l class n)

-- the rule of the methods of a name above a type looks at a graph by its own queries alone
abbrev pub MethodsAboveReadOnlyTheirQueries : Type 0
MethodsAboveReadOnlyTheirQueries = (l : LayoutOf) (class : Scope) (n : NameId) → ReadsOnlyItsQueries (find_ends l Methods (for_name ABOVE class n))

-- the rule of all methods of a type looks at a graph by its own queries alone
abbrev pub AllMethodsReadOnlyTheirQueries : Type 0
AllMethodsReadOnlyTheirQueries = (l : LayoutOf) (class : Scope) → ReadsOnlyItsQueries (find_ends l Methods (for_any METHODS class))

-- the rule of whether a member is accessible looks at a graph by its own queries alone
abbrev pub MemberAccessReadsOnlyItsQueries : Type 0
MemberAccessReadsOnlyItsQueries =
    (l : LayoutOf) (file : ℕ) (bodies : List Scope) (m : Scope) (through : Option Scope) → ReadsOnlyItsQueries (member_accessible l file bodies m through)

-- the rule of a type that is written looks at a graph by its own queries alone
abbrev pub WrittenTypesReadOnlyTheirQueries : Type 0
WrittenTypesReadOnlyTheirQueries =
    (l : LayoutOf) (names : List (List ℕ)) (file : ℕ) (bodies : List Scope) (t : TypeTree) → ReadsOnlyItsQueries (written_type l names file bodies t)

-- ---- what is read beside names

-- the rule that reads the signature of a member looks at a graph by its own queries alone
abbrev pub ReadSignaturesReadOnlyTheirQueries : Type 0
ReadSignaturesReadOnlyTheirQueries = (l : LayoutOf) (m : Scope) → ReadsOnlyItsQueries (signature_of l m)

-- the rule of the one constructor of a class looks at a graph by its own queries alone
abbrev pub CtorsReadOnlyTheirQueries : Type 0
CtorsReadOnlyTheirQueries = (l : LayoutOf) (c : Scope) → ReadsOnlyItsQueries (ctor_of l c)

-- the rule of the supertypes of a type looks at a graph by its own queries alone
abbrev pub SupersReadOnlyTheirQueries : Type 0
SupersReadOnlyTheirQueries = (l : LayoutOf) (c : Scope) → ReadsOnlyItsQueries (supers_of l c)

-- the rule of whether a result fits another one looks at a graph by its own queries alone
abbrev pub ResultsReadOnlyTheirQueries : Type 0
ResultsReadOnlyTheirQueries = (l : LayoutOf) (s t : Ty) → ReadsOnlyItsQueries (result_fits l s t)

-- the rule of the superclass of a type, by the names that it extends, looks at a graph by its own queries alone
abbrev pub SuperclassesReadOnlyTheirQueries : Type 0
SuperclassesReadOnlyTheirQueries = (l : LayoutOf) (c : Scope) (ns : List (List Ident)) → ReadsOnlyItsQueries (superclass l c ns)

-- the rule of whether there is an enclosing instance looks at a graph by its own queries alone
abbrev pub InstancesReadOnlyTheirQueries : Type 0
InstancesReadOnlyTheirQueries = (l : LayoutOf) (bodies : List Scope) (s : Scope) (o : Option Scope) → ReadsOnlyItsQueries (has_enclosing l bodies s o)
