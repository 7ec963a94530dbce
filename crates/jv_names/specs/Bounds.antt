-- What rules of names ask and find: queries from places of the layout, and its types and packages.
use Rattle.std.specs.Prelude.{◌≡◌, ℕ, ◌<◌, List, length, Bool, true, false, IsTrue, All, ◌⊎◌, Option, IfSome}
use Rattle.std.specs.List.{Contains}
use Rattle.sg_base.specs.declared.scope.Scope.{Scope}
use Rattle.sg_query.specs.declared.query.Query.{Query}
use Rattle.sg_reading.specs.Reading.{AllAsked, AllEnds}
use Rattle.jv_instance.specs.declared.pred.JavaPred.{JavaPred}
use Rattle.jv_instance.specs.declared.pred.JavaPred.TheVariants.{Named, Any}
use Rattle.jv_instance.specs.declared.labels.TheConstants.{FIELD, METH, CTOR}
use Rattle.jv_instance.specs.declared.ty.Ty.{Ty}
use Rattle.jv_instance.specs.declared.type_base.TypeBase.{TypeBase}
use Rattle.jv_instance.specs.declared.type_base.TypeBase.TheVariants.{Boolean, Char, Int, Long, Class, Null, Void, Bad}
use Rattle.jv_layout.specs.declared.place.Place.{Place}
use Rattle.jv_layout.specs.declared.place.Place.TheVariants.{Outside, Root, Unnamed, Package, File, Ty as TypePlace, Member, Signature}
use Rattle.jv_layout.specs.Fits.{is_package, is_type, is_member_by}
use Rattle.jv_layout.specs.Folder.{LayoutOf}
use Rattle.jv_layout.specs.Linked.{IsLinked}
use Rattle.jv_layout.specs.Readers.{statics_of}
use Rattle.jv_layout.specs.Scopes.{place_of}
use Rattle.jv_layout.specs.Skeleton.{skeleton_of}
use Rattle.jv_tree.specs.declared.name.Ident.{Ident}
use Rattle.jv_tree.specs.declared.names.NameId.{NameId}
use Rattle.jv_tree.specs.DeclTree.{ImportTree}
use Rattle.jv_tree.specs.Numbered.{IsNumberedName, AreNumberedNames, IsNumberedType, IsNumberedImport}
use Rattle.jv_tree.specs.TypeTree.{TypeTree}
use Rattle.jv_names.specs.declared.context.Context.{Context}
use Rattle.jv_names.specs.declared.context.Context.TheVariants.{TypeName, SingleImport, OnDemandImport}
use Rattle.jv_names.specs.declared.ends.Ends.{Ends}
use Rattle.jv_names.specs.declared.ends.Ends.TheVariants.{Scopes, TooMany as TooManyEnds}
use Rattle.jv_names.specs.declared.kinds.TheConstants.{SIG}
use Rattle.jv_names.specs.declared.meaning.Meaning.{Meaning}
use Rattle.jv_names.specs.declared.meaning.Meaning.TheVariants.{One, Nothing, Ambiguous, TooMany}
use Rattle.jv_names.specs.declared.reference.Reference.{Reference}
use Rattle.jv_names.specs.declared.resolved.Resolved.{Resolved}
use Rattle.jv_names.specs.declared.static_kind.StaticKind.{StaticKind}
use Rattle.jv_names.specs.declared.static_kind.StaticKind.TheVariants.{Types, Fields, Methods}
use Rattle.jv_names.specs.declared.written_type.WrittenType.{WrittenType}
use Rattle.jv_names.specs.Access.{type_accessible, member_accessible}
use Rattle.jv_names.specs.Bodies.{header_bodies, member_bodies}
use Rattle.jv_names.specs.Instances.{instance_bodies, has_enclosing}
use Rattle.jv_names.specs.Kinds.{kinds}
use Rattle.jv_names.specs.Members.{all_methods, field, members_among, methods}
use Rattle.jv_names.specs.Names.{import_context, import_name, import_rule, takes_packages}
use Rattle.jv_names.specs.Read.{SignatureOf, signature_of, supers_of, result_fits, ctor_of}
use Rattle.jv_names.specs.Reference.{reference}
use Rattle.jv_names.specs.Replies.{Rule}
use Rattle.jv_names.specs.Statics.{static_members}
use Rattle.jv_names.specs.Superclass.{superclass}
use Rattle.jv_names.specs.TypeNames.{type_name}
use Rattle.jv_names.specs.WrittenTypes.{written_type}

-- ---- queries

-- whether queries of names start there: at the root, a package, a file or a type
abbrev pub is_start : Place → Bool
is_start Root = true
is_start Unnamed = true
is_start (Package p) = true
is_start (File f) = true
is_start (TypePlace t) = true
is_start Outside = false
is_start (Member m) = false
is_start (Signature m) = false

-- a predicate asks for any name, or for one of so many names
abbrev pub IsNamePred : ℕ → JavaPred → Type 0
IsNamePred count Any = Unit {0}
IsNamePred count (Named n) = n.0 < count

-- a query starts at such a place of the layout, is of a kind of the table but that of signatures, and asks for a name of so many
pub record IsNameQuery (l : LayoutOf) (count : ℕ) (q : Query JavaPred) : Type 0 where
  pub start : IsTrue (is_start (place_of l q.start))
  pub kind : q.kind < length kinds
  pub plain : q.kind ≡ SIG → ⊥
  pub pred : IsNamePred count q.pred

-- a query starts at a scope of the layout, is of a kind of the table, and asks for any name, or for one of so many
pub record IsLayoutQuery (l : LayoutOf) (count : ℕ) (q : Query JavaPred) : Type 0 where
  pub start : Contains (skeleton_of l).scopes q.start
  pub kind : q.kind < length kinds
  pub pred : IsNamePred count q.pred

-- ---- what is found

-- a scope is one of the layout
abbrev pub IsListed : LayoutOf → Scope → Type 0
IsListed l s = Contains (skeleton_of l).scopes s

-- a scope is a type of the layout
abbrev pub IsTypeScope : LayoutOf → Scope → Type 0
IsTypeScope l s = IsTrue (is_type (place_of l s))

-- a scope is a package of the layout
abbrev pub IsPackageScope : LayoutOf → Scope → Type 0
IsPackageScope l s = IsTrue (is_package (place_of l s))

-- all of the scopes are types of the layout
abbrev pub AreTypes : LayoutOf → List Scope → Type 0
AreTypes l ts = All (IsTypeScope l) ts

-- where a meaning is one scope, that is of this kind
abbrev pub MeansOnly : (Scope → Type 0) → Meaning → Type 0
MeansOnly P (One s) = P s
MeansOnly P Nothing = Unit {0}
MeansOnly P Ambiguous = Unit {0}
MeansOnly P TooMany = Unit {0}

-- a scope is what a name may mean: a type, and in an import on demand a package too
abbrev pub IsMeant : LayoutOf → Context → Scope → Type 0
IsMeant l TypeName s = IsTypeScope l s
IsMeant l SingleImport s = IsTypeScope l s
IsMeant l OnDemandImport s = IsTypeScope l s ⊎ IsPackageScope l s

-- where there are not too many ends, they are of this kind
abbrev pub EndsOnly : (Scope → Type 0) → Ends → Type 0
EndsOnly P (Scopes ss) = All P ss
EndsOnly P TooManyEnds = Unit {0}

-- a scope is a member of the layout whose edge has this label
abbrev pub IsMemberScope : LayoutOf → ℕ → Scope → Type 0
IsMemberScope l label s = IsTrue (is_member_by l label (place_of l s))

-- a name means what it may mean, and its parts mean types
pub record IsResolvedIn (l : LayoutOf) (context : Context) (r : Resolved) : Type 0 where
  pub meaning : MeansOnly (IsMeant l context) r.meaning
  pub types : AreTypes l r.types

-- a reference means what it may mean, and types alone are refused
pub record IsReferenceIn (l : LayoutOf) (context : Context) (r : Reference) : Type 0 where
  pub meaning : MeansOnly (IsMeant l context) r.meaning
  pub refused : AreTypes l r.refused

-- where a base is a class or an interface, that is a type of the layout
abbrev pub IsBaseIn : LayoutOf → TypeBase → Type 0
IsBaseIn l (Class s) = IsTypeScope l s
IsBaseIn l Boolean = Unit {0}
IsBaseIn l Char = Unit {0}
IsBaseIn l Int = Unit {0}
IsBaseIn l Long = Unit {0}
IsBaseIn l Null = Unit {0}
IsBaseIn l Void = Unit {0}
IsBaseIn l Bad = Unit {0}

-- where a type is one of classes or interfaces, those are types of the layout
abbrev pub IsTyIn : LayoutOf → Ty → Type 0
IsTyIn l t = IsBaseIn l t.base

-- the result of a signature that is read is such a type, and so are those of its parameters
abbrev pub IsReadIn : LayoutOf → SignatureOf → Type 0
IsReadIn l s = IsTyIn l s.result × All (IsTyIn l) s.params

-- a type that is written has such a base
abbrev pub IsWrittenIn : LayoutOf → WrittenType → Type 0
IsWrittenIn l w = IsBaseIn l w.ty.base

-- what is brought of a kind: a type, a field or a method of the layout
abbrev pub IsBroughtOf : LayoutOf → StaticKind → Scope → Type 0
IsBroughtOf l Types s = IsTypeScope l s
IsBroughtOf l Fields s = IsMemberScope l FIELD s
IsBroughtOf l Methods s = IsMemberScope l METH s

-- ---- layouts

-- the rows of a layout name one another, and the names of its static imports are numbered
pub record IsNamedIn (l : LayoutOf) (count : ℕ) : Type 0 where
  pub linked : IsLinked l
  pub statics : (file : ℕ) → All (IsNumberedImport count) (statics_of l file)

-- ---- rules

-- whatever the answers, a rule asks queries of names alone, and ends with values of this kind
pub record StaysIn {U : Type 0} (l : LayoutOf) (count : ℕ) (E : U → Type 0) (r : Rule U) : Type 0 where
  pub asks : AllAsked (IsNameQuery l count) r
  pub ends : AllEnds E r

-- whatever the answers, a rule asks queries of the layout, and ends with values of this kind
pub record AsksIn {U : Type 0} (l : LayoutOf) (count : ℕ) (E : U → Type 0) (r : Rule U) : Type 0 where
  pub asks : AllAsked (IsLayoutQuery l count) r
  pub ends : AllEnds E r

-- the names of types
abbrev pub TypeNamesStayIn : Type 0
TypeNamesStayIn =
    (l : LayoutOf) (count file : ℕ) (bodies : List Scope) (ids : List Ident) → IsNamedIn l count → file < length l.files → AreTypes l bodies
    → IsNumberedName count ids → StaysIn l count (IsResolvedIn l TypeName) (type_name l file bodies ids)

-- the names of imports
abbrev pub ImportsStayIn : Type 0
ImportsStayIn =
    (l : LayoutOf) (count : ℕ) (all : Bool) (ids : List Ident) → IsNumberedName count ids → StaysIn l count (IsResolvedIn l (import_context all)) (import_name l all ids)

-- what imports mean
abbrev pub ImportRulesStayIn : Type 0
ImportRulesStayIn =
    (l : LayoutOf) (count : ℕ) (i : ImportTree) → IsNumberedImport count i → StaysIn l count (IsResolvedIn l (import_context (takes_packages i))) (import_rule l i)

-- the static members of a name that the static imports of a file bring
abbrev pub StaticsStayIn : Type 0
StaticsStayIn =
    (l : LayoutOf) (count file : ℕ) (all : Bool) (k : StaticKind) (n : NameId) → IsNamedIn l count → n.0 < count
    → StaysIn l count (EndsOnly (IsBroughtOf l k)) (static_members l file all k n)

-- whether a type is accessible
abbrev pub TypeAccessStaysIn : Type 0
TypeAccessStaysIn =
    (l : LayoutOf) (count file : ℕ) (bodies : List Scope) (t : Scope) → AreTypes l bodies → StaysIn l count (λ (b : Bool). Unit {0}) (type_accessible l file bodies t)

-- references to types
abbrev pub ReferencesStayIn : Type 0
ReferencesStayIn =
    (l : LayoutOf) (count file : ℕ) (bodies : List Scope) (ids : List Ident) → IsNamedIn l count → file < length l.files → AreTypes l bodies
    → IsNumberedName count ids → StaysIn l count (IsReferenceIn l TypeName) (reference l file bodies ids)

-- types that are written
abbrev pub WrittenTypesStayIn : Type 0
WrittenTypesStayIn =
    (l : LayoutOf) (count : ℕ) (names : List (List ℕ)) (file : ℕ) (bodies : List Scope) (t : TypeTree) → IsNamedIn l count → file < length l.files → AreTypes l bodies
    → IsNumberedType count t → StaysIn l count (IsWrittenIn l) (written_type l names file bodies t)

-- the fields and the methods of a name in a type
abbrev pub FieldsStayIn : Type 0
FieldsStayIn = (l : LayoutOf) (count : ℕ) (class : Scope) (n : NameId) → IsTypeScope l class → n.0 < count → StaysIn l count (MeansOnly (IsMemberScope l FIELD)) (field l class n)

-- whatever the answers, the rule of the methods of a name that a type declares or inherits asks queries of names alone, and finds methods alone
abbrev pub AllMethodsStayIn : Type 0
AllMethodsStayIn =
    (l : LayoutOf) (count : ℕ) (class : Scope) (n : NameId) → IsTypeScope l class → n.0 < count → StaysIn l count (EndsOnly (IsMemberScope l METH)) (all_methods l class n)

-- so do, where rows name one another, the rule of those that are members
abbrev pub MethodsStayIn : Type 0
MethodsStayIn =
    (l : LayoutOf) (count : ℕ) (class : Scope) (n : NameId) → IsLinked l → IsTypeScope l class → n.0 < count → StaysIn l count (EndsOnly (IsMemberScope l METH)) (methods l class n)

-- and the rule of the members among methods
abbrev pub MembersAmongStayIn : Type 0
MembersAmongStayIn =
    (l : LayoutOf) (count : ℕ) (ms : List Scope) → IsLinked l → All (IsMemberScope l METH) ms → StaysIn l count (All (IsMemberScope l METH)) (members_among l ms)

-- whether a member is accessible
abbrev pub MemberAccessStaysIn : Type 0
MemberAccessStaysIn =
    (l : LayoutOf) (count file : ℕ) (bodies : List Scope) (m : Scope) (through : Option Scope) → AreTypes l bodies → IfSome through (IsTypeScope l)
    → StaysIn l count (λ (b : Bool). Unit {0}) (member_accessible l file bodies m through)

-- ---- what is read beside names

-- the signature of a member of the layout
abbrev pub SignaturesAskIn : Type 0
SignaturesAskIn = (l : LayoutOf) (count : ℕ) (m : Scope) → IsListed l m → AsksIn l count (λ (o : Option SignatureOf). IfSome o (IsReadIn l)) (signature_of l m)

-- the constructor and the supertypes of a type
abbrev pub CtorsAskIn : Type 0
CtorsAskIn = (l : LayoutOf) (count : ℕ) (c : Scope) → IsTypeScope l c → AsksIn l count (λ (o : Option Scope). IfSome o (IsMemberScope l CTOR)) (ctor_of l c)

-- whatever the answers, the rule of the supertypes of a type asks queries of the layout, and gives types of it
abbrev pub SupersAskIn : Type 0
SupersAskIn = (l : LayoutOf) (count : ℕ) (c : Scope) → IsTypeScope l c → AsksIn l count (AreTypes l) (supers_of l c)

-- whether a result fits another one
abbrev pub ResultsAskIn : Type 0
ResultsAskIn = (l : LayoutOf) (count : ℕ) (s t : Ty) → IsTyIn l s → AsksIn l count (λ (b : Bool). Unit {0}) (result_fits l s t)

-- the superclass of a type by the names that it extends
abbrev pub SuperclassesAskIn : Type 0
SuperclassesAskIn =
    (l : LayoutOf) (count : ℕ) (c : Scope) (ns : List (List Ident)) → IsNamedIn l count → IsTypeScope l c → AreNumberedNames count ns
    → AsksIn l count (IsTypeScope l) (superclass l c ns)

-- whether there is an enclosing instance
abbrev pub InstancesAskIn : Type 0
InstancesAskIn =
    (l : LayoutOf) (count : ℕ) (bodies : List Scope) (s : Scope) (o : Option Scope) → AreTypes l bodies → AsksIn l count (λ (b : Bool). Unit {0}) (has_enclosing l bodies s o)

-- ---- bodies

-- the bodies around a type's header are types, and so are those around what stands in its body
abbrev pub BodiesAreTypes : Type 0
BodiesAreTypes = (l : LayoutOf) (c : Scope) → IsLinked l → IsTypeScope l c → AreTypes l (header_bodies l c) × AreTypes l (member_bodies l c)

-- and so are those with an instance
abbrev pub InstanceBodiesAreTypes : Type 0
InstanceBodiesAreTypes = (l : LayoutOf) (c : Scope) → IsLinked l → IsTypeScope l c → AreTypes l (instance_bodies l c)
