-- Calls of methods and constructors by the types of their arguments (JLS 8.8.7.1, 15.9, 15.12).
use Rattle.std.specs.Prelude.{ℕ, ◌==◌, ◌&&◌, ◌||◌, not, nat_lt, Bool, true, false, cond, List, [], ◌∷◌, length, Option, None, Some, is_some, codes}
use Rattle.sg_base.specs.declared.scope.Scope.{Scope}
use Rattle.sg_reading.specs.Reading.{done, and_then, each}
use Rattle.jv_diag.specs.declared.codes.TheConstants.{ABSTRACT, AMBIGUOUS_NAME, INACCESSIBLE_MEMBER, NO_ENCLOSING_INSTANCE, NO_INSTANCE, NUMBER_OF_ARGUMENTS, STATIC_OF_INTERFACE, TOO_MANY_PATHS, UNKNOWN_METHOD}
use Rattle.jv_diag.specs.Plain.{DiagOf}
use Rattle.jv_instance.specs.declared.ty.Ty.{Ty}
use Rattle.jv_instance.specs.declared.type_base.TypeBase.{TypeBase}
use Rattle.jv_instance.specs.declared.type_base.TypeBase.TheVariants.{Boolean, Char, Int, Long, Class, Null, Void, Bad}
use Rattle.jv_instance.specs.Types.{is_bad}
use Rattle.jv_layout.specs.Folder.{LayoutOf, text_of}
use Rattle.jv_layout.specs.Readers.{is_abstract_of, is_interface_method_of, is_interface_of, is_static_of, object_scope, owner_scope}
use Rattle.jv_layout.specs.Duplicates.{simple_name}
use Rattle.jv_tree.specs.declared.name.Ident.{Ident}
use Rattle.jv_tree.specs.declared.names.NameId.{NameId}
use Rattle.jv_types.specs.Operators.{bad_type, plain}
use Rattle.jv_names.specs.declared.ends.Ends.{Ends}
use Rattle.jv_names.specs.declared.ends.Ends.TheVariants.{Scopes, TooMany}
use Rattle.jv_names.specs.declared.meaning.Meaning.{Meaning}
use Rattle.jv_names.specs.declared.meaning.Meaning.TheVariants.{One, Nothing, Ambiguous, TooMany as TooManyTypes}
use Rattle.jv_names.specs.declared.static_kind.StaticKind.TheVariants.{Methods}
use Rattle.jv_names.specs.Access.{member_accessible}
use Rattle.jv_names.specs.Chosen.{first_concrete, first_fitting}
use Rattle.jv_names.specs.Instances.{has_enclosing, instance_bodies}
use Rattle.jv_names.specs.Members.{methods}
use Rattle.jv_names.specs.Read.{SignatureOf, ctor_of, signature_of}
use Rattle.jv_names.specs.Replies.{Rule}
use Rattle.jv_names.specs.Statics.{static_members}
use Rattle.jv_names.specs.Superclass.{superclass}
use Rattle.jv_expr.specs.declared.argument.Argument.{Argument}
use Rattle.jv_expr.specs.declared.front.Front.{Front}
use Rattle.jv_expr.specs.declared.front.Front.TheVariants.{Value as ValueFront, TypeName as TypeFront}
use Rattle.jv_expr.specs.declared.value.Value.{Value}
use Rattle.jv_expr.specs.Checking.{Checking}
use Rattle.jv_expr.specs.Fields.{class_field, lacks_instance, result_of}
use Rattle.jv_expr.specs.Operators.{assigned_to, bad_value, unless_faulty}
use Rattle.jv_expr.specs.Site.{SiteOf, has_instance, has_this, title, with_fault, with_fault_if, with_named, with_named_if}

-- ---- arguments (JLS 15.12.2)

-- each argument fits its parameter
abbrev pub arguments_fit : SiteOf → List Ty → List Argument → List DiagOf → Rule (List DiagOf)
arguments_fit site [] as' ds = done ds
arguments_fit site (p ∷ ps) [] ds = done ds
arguments_fit site (p ∷ ps) (a ∷ as') ds = and_then (assigned_to site a.at a.ty p ds) (λ ds. arguments_fit site ps as' ds)

-- a signature is called with arguments, by a text at an offset: its result, where it takes so many
abbrev pub applied_to : SiteOf → ℕ → List ℕ → List Argument → SignatureOf → List DiagOf → Checking (Option Ty)
applied_to site at text as' s ds =
    cond (length s.params == length as') (and_then (arguments_fit site s.params as' ds) (λ ds. done (Some s.result, ds))) (done (None, with_fault site at NUMBER_OF_ARGUMENTS (text ∷ []) ds))

-- what has no signature gives a bad result, and asks for no arguments
abbrev pub applied_by : SiteOf → ℕ → List ℕ → List Argument → Option SignatureOf → List DiagOf → Checking (Option Ty)
applied_by site at text as' None ds = done (Some bad_type, ds)
applied_by site at text as' (Some s) ds = applied_to site at text as' s ds

-- what has this signature, or none, is called with arguments, by a text at an offset
unfoldable pub applied : SiteOf → ℕ → List ℕ → List Argument → Option SignatureOf → List DiagOf → Checking (Option Ty)
applied site at text as' s ds = applied_by site at text as' s ds

-- ---- which of several methods is called (JLS 15.12.2.5)

-- the types of methods by their signatures
abbrev pub result_type : LayoutOf → Scope → Rule Ty
result_type l m = and_then (signature_of l m) (λ s. done (result_of s))

-- the one that is not abstract, where one was found; else the least whose result fits those of all, and else the least
abbrev pub chosen_abstract : LayoutOf → Scope → List Scope → Option Scope → Rule Scope
chosen_abstract l m ms (Some k) = done k
chosen_abstract l m ms None = and_then (each (result_type l) (m ∷ ms)) (λ ts. first_fitting l ts m (m ∷ ms) ts)

-- of several methods the least that is not abstract, else the least whose result fits all others, else the least
abbrev pub chosen_of : LayoutOf → Scope → List Scope → Rule Scope
chosen_of l m [] = done m
chosen_of l m (k ∷ ks) = chosen_abstract l m (k ∷ ks) (first_concrete l (m ∷ k ∷ ks))

-- which one is called of a method and the further ones behind it
unfoldable pub chosen : LayoutOf → Scope → List Scope → Rule Scope
chosen l m ms = chosen_of l m ms

-- ---- calls of methods (JLS 15.12)

-- how a method is called: through a receiver of a type or without one, whether an instance method may stand there, whether an abstract one may not, and
-- whether a value stands in front of the dot
pub record Manner : Type 0 where
  pub through : Option Scope
  pub free : Bool
  pub concrete : Bool
  pub on_value : Bool

-- an abstract method that is called through `super`
abbrev pub is_missing : SiteOf → Manner → Scope → Bool
is_missing site how m = how.concrete && is_abstract_of site.layout m

-- a static method of an interface that is called on a value
abbrev pub is_misplaced : SiteOf → Manner → Scope → Bool
is_misplaced site how m = how.on_value && (is_interface_method_of site.layout m && is_static_of site.layout m)

-- what is wrong with a method that is called at an identifier
abbrev pub with_call : SiteOf → Manner → Ident → Scope → Bool → List DiagOf → List DiagOf
with_call site how i m ok ds =
    with_named_if (is_misplaced site how m) site i STATIC_OF_INTERFACE (with_named_if (is_missing site how m) site i ABSTRACT
    (with_named_if (lacks_instance site how.free m) site i NO_INSTANCE (with_named_if (not ok) site i INACCESSIBLE_MEMBER ds)))

-- something is wrong with it: it is not accessible, lacks an instance, is abstract and called through `super`, or is a static one of an interface and
-- called on a value
abbrev pub is_faulty_call : SiteOf → Manner → Scope → Bool → Bool
is_faulty_call site how m ok = not ok || (lacks_instance site how.free m || (is_missing site how m || is_misplaced site how m))

-- the type of a call, unless something was wrong
abbrev pub call_type : Bool → Option Ty → Ty
call_type faulty None = bad_type
call_type faulty (Some t) = unless_faulty faulty t

-- a method is called
unfoldable pub method_called : SiteOf → Manner → Ident → List Argument → Scope → List DiagOf → Checking Ty
method_called site how i as' m ds =
    and_then (member_accessible site.layout site.file site.bodies m how.through) (λ ok. and_then (signature_of site.layout m) (λ s.
    and_then (applied site i.at (text_of site.names i.id.0) as' s (with_call site how i m ok ds)) (λ r. done (call_type (is_faulty_call site how m ok) r.0, r.1))))

-- a method that is not found
abbrev pub bad_call : SiteOf → Ident → ℕ → List DiagOf → Checking Ty
bad_call site i code ds = done (bad_type, with_named site i code ds)

-- of the methods of a name
abbrev pub called_of : SiteOf → Manner → Ident → List Argument → List Scope → List DiagOf → Checking Ty
called_of site how i as' [] ds = bad_call site i UNKNOWN_METHOD ds
called_of site how i as' (m ∷ ms) ds = and_then (chosen site.layout m ms) (λ k. method_called site how i as' k ds)

-- of the methods of a name that were found; that there are too many paths is said
abbrev pub called_among : SiteOf → Manner → Ident → List Argument → Ends → List DiagOf → Checking Ty
called_among site how i as' TooMany ds = bad_call site i TOO_MANY_PATHS ds
called_among site how i as' (Scopes ms) ds = called_of site how i as' ms ds

-- for an interface without such a method, those of `Object` (JLS 9.2)
abbrev pub or_objects : LayoutOf → Scope → NameId → Ends → Rule Ends
or_objects l c n TooMany = done TooMany
or_objects l c n (Scopes []) = cond (is_interface_of l c) (methods l (object_scope l) n) (done (Scopes []))
or_objects l c n (Scopes (m ∷ ms)) = done (Scopes (m ∷ ms))

-- the methods of a name that may be called in a class or an interface
unfoldable pub class_methods : LayoutOf → Scope → NameId → Rule Ends
class_methods l c n = and_then (methods l c n) (or_objects l c n)

-- a method of a class or an interface is called
unfoldable pub class_call : SiteOf → Manner → Scope → Ident → List Argument → List DiagOf → Checking Ty
class_call site how c i as' ds = and_then (class_methods site.layout c i.id) (λ e. called_among site how i as' e ds)

-- on a value of this type
abbrev pub through : Scope → Manner
through c = record { through = Some c; free = true; concrete = false; on_value = true }

-- a method is called on a value of this base: of a class or an interface; others have none, and of a bad one nothing is said
abbrev pub base_call : SiteOf → TypeBase → Ident → List Argument → List DiagOf → Checking Ty
base_call site (Class c) i as' ds = class_call site (through c) c i as' ds
base_call site Boolean i as' ds = bad_call site i UNKNOWN_METHOD ds
base_call site Char i as' ds = bad_call site i UNKNOWN_METHOD ds
base_call site Int i as' ds = bad_call site i UNKNOWN_METHOD ds
base_call site Long i as' ds = bad_call site i UNKNOWN_METHOD ds
base_call site Null i as' ds = bad_call site i UNKNOWN_METHOD ds
base_call site Void i as' ds = bad_call site i UNKNOWN_METHOD ds
base_call site Bad i as' ds = done (bad_type, ds)

-- a method is called on a value of this type; on an array those of `Object` are
abbrev pub value_call : SiteOf → Ty → Ident → List Argument → List DiagOf → Checking Ty
value_call site t i as' ds =
    cond (nat_lt 0 t.dims && not (is_bad t)) (class_call site (through (object_scope site.layout)) (object_scope site.layout) i as' ds) (base_call site t.base i as' ds)

-- what stands in front of the dot: a value, or a type, whose method is static
abbrev pub front_call_of : SiteOf → Front → Ident → List Argument → List DiagOf → Checking Ty
front_call_of site (ValueFront v) i as' ds = value_call site v.ty i as' ds
front_call_of site (TypeFront t) i as' ds = class_call site (record { through = Some t; free = false; concrete = false; on_value = false }) t i as' ds

-- a method is called on what stands in front of the dot
unfoldable pub front_call : SiteOf → Front → Ident → List Argument → List DiagOf → Checking Ty
front_call site f i as' ds = front_call_of site f i as' ds

-- the manner of a call of an imported method
abbrev pub imported : Manner
imported = record { through = None; free = true; concrete = false; on_value = false }

-- of the static methods of a name that imports bring: one, several, or none and further
abbrev pub imported_among : SiteOf → Ident → List Argument → List DiagOf → Checking Ty → Ends → Checking Ty
imported_among site i as' ds next TooMany = bad_call site i TOO_MANY_PATHS ds
imported_among site i as' ds next (Scopes []) = next
imported_among site i as' ds next (Scopes (m ∷ [])) = method_called site imported i as' m ds
imported_among site i as' ds next (Scopes (m ∷ k ∷ ms)) = bad_call site i AMBIGUOUS_NAME ds

-- a static method that single static imports bring is called, and else one that those on demand bring
unfoldable pub imported_call : SiteOf → Ident → List Argument → List DiagOf → Checking Ty
imported_call site i as' ds =
    and_then (static_members site.layout site.file false Methods i.id) (imported_among site i as' ds
    (and_then (static_members site.layout site.file true Methods i.id) (imported_among site i as' ds (bad_call site i UNKNOWN_METHOD ds))))

-- the methods of a name in the bodies outward: of the first that has some; where no body is left, those that imports bring
abbrev pub bare_among : SiteOf → Scope → Ident → List Argument → List DiagOf → Checking Ty → Ends → Checking Ty
bare_among site b i as' ds next TooMany = bad_call site i TOO_MANY_PATHS ds
bare_among site b i as' ds next (Scopes []) = next
bare_among site b i as' ds next (Scopes (m ∷ ms)) =
    called_of site (record { through = None; free = has_instance site b; concrete = false; on_value = false }) i as' (m ∷ ms) ds

-- a bare call: of the innermost body that has a method of the name, and else of a static method that imports of the file bring
abbrev pub bare_in : SiteOf → List Scope → Ident → List Argument → List DiagOf → Checking Ty
bare_in site [] i as' ds = imported_call site i as' ds
bare_in site (b ∷ bs) i as' ds = and_then (methods site.layout b i.id) (bare_among site b i as' ds (bare_in site bs i as' ds))

-- a method is called by its name alone: of the bodies around the place, or an imported one
unfoldable pub bare_call : SiteOf → Ident → List Argument → List DiagOf → Checking Ty
bare_call site i as' ds = bare_in site site.bodies i as' ds

-- ---- `super` (JLS 15.11.2, 15.12.1)

-- `super` without an instance of a class's body, at an offset
abbrev pub bad_super : SiteOf → ℕ → List DiagOf → List DiagOf
bad_super site at ds = with_fault site at NO_INSTANCE (codes "super" ∷ []) ds

-- where there is no instance of the class, that is said of `super`
abbrev pub with_super : SiteOf → ℕ → List DiagOf → List DiagOf
with_super site at ds = cond (has_this site) ds (bad_super site at ds)

-- a method of the superclass is called, which may not be abstract
unfoldable pub above_call : SiteOf → Ident → List Argument → List DiagOf → Checking Ty
above_call site i as' ds =
    and_then (superclass site.layout site.class site.extends) (λ s. class_call site (record { through = None; free = true; concrete = true; on_value = false }) s i as' ds)

-- a call through `super`: in an interface nothing is looked up, and without an instance the method is looked for all the same
unfoldable pub super_call : SiteOf → ℕ → Ident → List Argument → List DiagOf → Checking Ty
super_call site at i as' ds =
    cond (is_interface_of site.layout site.class) (done (bad_type, bad_super site at ds))
    (and_then (above_call site i as' (with_super site at ds)) (λ r. done (cond (has_this site) r.0 bad_type, r.1)))

-- a field of the superclass
unfoldable pub above_field : SiteOf → Ident → List DiagOf → Checking Value
above_field site i ds = and_then (superclass site.layout site.class site.extends) (λ s. class_field site None false s i ds)

-- a field through `super`, in the same way
unfoldable pub super_field : SiteOf → ℕ → Ident → List DiagOf → Checking Value
super_field site at i ds =
    cond (is_interface_of site.layout site.class) (done (bad_value, bad_super site at ds))
    (and_then (above_field site i (with_super site at ds)) (λ v. done (cond (has_this site) v.0 bad_value, v.1)))

-- ---- constructors (JLS 15.9)

-- the text of a name; where there is no name, an empty one
abbrev pub text_or_none : SiteOf → Option NameId → List ℕ
text_or_none site None = []
text_or_none site (Some n) = text_of site.names n.0

-- the simple name of a class
abbrev pub class_text : SiteOf → Scope → List ℕ
class_text site c = text_or_none site (simple_name site.layout c)

-- the constructor of a class is called at an offset: whether nothing was wrong
abbrev pub ctor_called : SiteOf → Option Scope → Scope → ℕ → List Argument → Option Scope → List DiagOf → Checking Bool
ctor_called site through c at as' None ds = done (true, ds)
ctor_called site through c at as' (Some k) ds =
    and_then (member_accessible site.layout site.file site.bodies k through) (λ ok. and_then (signature_of site.layout k) (λ s.
    and_then (applied site at (class_text site c) as' s (with_fault_if (not ok) site at INACCESSIBLE_MEMBER (class_text site c ∷ []) ds)) (λ r. done (ok && is_some r.0, r.1))))

-- the constructor of a class is looked up, and called at an offset: whether nothing was wrong
unfoldable pub ctor_call : SiteOf → Option Scope → Scope → ℕ → List Argument → List DiagOf → Checking Bool
ctor_call site through c at as' ds = and_then (ctor_of site.layout c) (λ k. ctor_called site through c at as' k ds)

-- the enclosing instance that a class needs is missing, at an offset
abbrev pub with_enclosing : Bool → SiteOf → ℕ → Scope → List DiagOf → List DiagOf
with_enclosing ok site at c ds = with_fault_if (not ok) site at NO_ENCLOSING_INSTANCE (title site c ∷ []) ds

-- an interface and an abstract class have no instances of their own
abbrev pub is_abstract_class : SiteOf → Scope → Bool
is_abstract_class site c = is_interface_of site.layout c || is_abstract_of site.layout c

-- the type of a class
abbrev pub class_type : Scope → Ty
class_type c = plain (Class c)

-- a class is instantiated, whose name starts at an offset
unfoldable pub new_class : SiteOf → Scope → ℕ → List Argument → List DiagOf → Checking Ty
new_class site c at as' ds =
    and_then (ctor_call site (Some c) c at as' (with_fault_if (is_abstract_class site c) site at ABSTRACT (class_text site c ∷ []) ds)) (λ called. and_then (has_enclosing site.layout site.instances c (owner_scope site.layout c)) (λ enclosed.
    done (unless_faulty (is_abstract_class site c || not (called.0 && enclosed)) (class_type c), with_enclosing enclosed site at c called.1)))

-- by what the name means
abbrev pub new_meant : SiteOf → Meaning → ℕ → List Argument → List DiagOf → Checking Ty
new_meant site (One c) at as' ds = new_class site c at as' ds
new_meant site Nothing at as' ds = done (bad_type, ds)
new_meant site Ambiguous at as' ds = done (bad_type, ds)
new_meant site TooManyTypes at as' ds = done (bad_type, ds)

-- a constructor calls that of a superclass at an offset, and has the enclosing instance that this one needs from the bodies outside
unfoldable pub super_ctor : SiteOf → Scope → ℕ → List Argument → List DiagOf → Rule (List DiagOf)
super_ctor site s at as' ds =
    and_then (ctor_call site None s at as' ds) (λ called. and_then (has_enclosing site.layout (instance_bodies site.layout site.class) s (owner_scope site.layout s)) (λ enclosed.
    done (with_enclosing enclosed site at s called.1)))

-- `super(..)` at an offset; where the class extends an interface nothing more is said
unfoldable pub super_called : SiteOf → ℕ → List Argument → List DiagOf → Rule (List DiagOf)
super_called site at as' ds =
    and_then (superclass site.layout site.class site.extends) (λ s. cond (is_interface_of site.layout s) (done ds) (super_ctor site s at as' ds))
