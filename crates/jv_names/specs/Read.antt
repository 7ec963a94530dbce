-- What is read from answers beside names: signatures, supertypes, and the one constructor of a class.
use Rattle.std.specs.Prelude.{List, [], ◌∷◌, ◌++◌, Bool, true, false, cond, ◌==◌, ◌&&◌, ◌||◌, not, map, Option, None, Some}
use Rattle.std.specs.List.{filter, list_any}
use Rattle.sg_base.specs.declared.scope.Scope.{Scope}
use Rattle.sg_base.specs.Scope.{is_scope}
use Rattle.sg_query.specs.declared.answer.Answer.{Answer}
use Rattle.sg_query.specs.declared.answer.Answer.TheVariants.{Paths, TooMany}
use Rattle.sg_query.specs.declared.found.Found.{Found}
use Rattle.sg_reading.specs.Reading.{done, ask, and_then}
use Rattle.jv_instance.specs.declared.datum.JavaDatum.{JavaDatum}
use Rattle.jv_instance.specs.declared.datum.JavaDatum.TheVariants.{Package, TypeName, Member, Signature}
use Rattle.jv_instance.specs.declared.ty.Ty.{Ty}
use Rattle.jv_instance.specs.declared.type_base.TypeBase.{TypeBase}
use Rattle.jv_instance.specs.declared.type_base.TypeBase.TheVariants.{Boolean, Char, Int, Long, Class, Null, Void, Bad}
use Rattle.jv_instance.specs.Types.{is_bad}
use Rattle.jv_layout.specs.Fits.{fits, is_type}
use Rattle.jv_layout.specs.Folder.{LayoutOf}
use Rattle.jv_layout.specs.Readers.{is_interface_of, object_scope}
use Rattle.jv_layout.specs.Scopes.{place_of}
use Rattle.jv_types.specs.Conversion.{is_type as same_type, is_reference, is_subtype}
use Rattle.jv_names.specs.declared.counts.Counts.TheVariants.{Constructors, Supertypes}
use Rattle.jv_names.specs.declared.kinds.TheConstants.{CTORS, SIG, SUPERS}
use Rattle.jv_names.specs.Ends.{counted_ends}
use Rattle.jv_names.specs.Replies.{Rule, for_any}

-- ---- signatures

-- a signature as it is read: a result and the types of parameters
pub record SignatureOf : Type 0 where
  pub result : Ty
  pub params : List Ty

-- a base with each class that is none of the layout's as a bad one
abbrev pub base_in : LayoutOf → TypeBase → TypeBase
base_in l (Class s) = cond (is_type (place_of l s)) (Class s) Bad
base_in l Boolean = Boolean
base_in l Char = Char
base_in l Int = Int
base_in l Long = Long
base_in l Null = Null
base_in l Void = Void
base_in l Bad = Bad

-- a type with such a base, and with its brackets
abbrev pub ty_in : LayoutOf → Ty → Ty
ty_in l t = record { base = base_in l t.base; dims = t.dims }

-- the signature that a datum is
abbrev pub signature_in : LayoutOf → JavaDatum → Option SignatureOf
signature_in l (Signature n r ps) = Some (record { result = ty_in l r; params = map (ty_in l) ps })
signature_in l (Package n) = None
signature_in l (TypeName n) = None
signature_in l (Member n) = None

-- the signature by one path
abbrev pub one_signature : LayoutOf → List (Found JavaDatum) → Option SignatureOf
one_signature l [] = None
one_signature l (f ∷ []) = signature_in l f.datum
one_signature l (f ∷ g ∷ fs) = None

-- the signature by an answer, in which paths that do not fit the layout are left out
abbrev pub answer_signature : LayoutOf → Answer JavaDatum → Option SignatureOf
answer_signature l (Paths fs) = one_signature l (filter (λ f. fits l f.path) fs)
answer_signature l TooMany = None

-- the signature of a member; where the answer is not one signature, there is none
unfoldable pub signature_of : LayoutOf → Scope → Rule (Option SignatureOf)
signature_of l m = ask (for_any SIG m) (λ a. done (answer_signature l a))

-- no type of a signature is bad
abbrev pub is_whole : SignatureOf → Bool
is_whole s = not (is_bad s.result || list_any is_bad s.params)

-- the same parameters
abbrev pub same_types : List Ty → List Ty → Bool
same_types [] [] = true
same_types [] (t ∷ ts) = false
same_types (s ∷ ss) [] = false
same_types (s ∷ ss) (t ∷ ts) = same_type s t && same_types ss ts

-- some type stands in a list
abbrev pub has_some : List Ty → Bool
has_some [] = false
has_some (t ∷ ts) = true

-- ---- supertypes

-- the supertypes of a class with itself by an answer; where there are too many paths, none
abbrev pub answer_supers : LayoutOf → Answer JavaDatum → List Scope
answer_supers l (Paths fs) = counted_ends l Supertypes fs
answer_supers l TooMany = []

-- and `Object` for an interface, which has it not among its supertypes (JLS 4.10.2)
abbrev pub with_object : LayoutOf → Scope → List Scope → List Scope
with_object l a up = cond (is_interface_of l a) (up ++ object_scope l ∷ []) up

-- the supertypes of a class or an interface with itself, and `Object` for an interface
unfoldable pub supers_of : LayoutOf → Scope → Rule (List Scope)
supers_of l c = ask (for_any SUPERS c) (λ a. done (with_object l c (answer_supers l a)))

-- ---- results

-- an interface is compared with `Object`, which is above it whatever its supertypes are (JLS 4.10.2)
abbrev pub is_under_object : LayoutOf → Scope → Scope → Bool
is_under_object l a b = is_interface_of l a && is_scope b (object_scope l)

-- whether a result of one base is a reference subtype of one of another with the same brackets: of two classes by the supertypes, which are read
-- where they decide
abbrev pub base_fits : LayoutOf → Ty → Ty → TypeBase → TypeBase → Rule Bool
base_fits l s t (Class a) (Class b) = cond (is_under_object l a b) (done true) (and_then (supers_of l a) (λ up. done (is_subtype up (object_scope l) s t)))
base_fits l s t a b = done false

-- whether a result fits another one: an equal type, or a reference type below a reference type (JLS 8.4.5)
unfoldable pub result_fits : LayoutOf → Ty → Ty → Rule Bool
result_fits l s t =
    cond (same_type s t) (done true)
    (cond (is_reference s && is_reference t) (cond (s.dims == t.dims) (base_fits l s t s.base t.base) (done (is_subtype [] (object_scope l) s t))) (done false))

-- ---- constructors

-- the constructor of a class by an answer, where that is one
abbrev pub one_ctor : LayoutOf → List Scope → Option Scope
one_ctor l [] = None
one_ctor l (k ∷ []) = Some k
one_ctor l (k ∷ m ∷ ks) = None

-- the constructor of a class by an answer; where there are too many paths, none
abbrev pub answer_ctor : LayoutOf → Answer JavaDatum → Option Scope
answer_ctor l (Paths fs) = one_ctor l (counted_ends l Constructors fs)
answer_ctor l TooMany = None

-- the constructor of a class; where the answer is not one constructor, there is none
unfoldable pub ctor_of : LayoutOf → Scope → Rule (Option Scope)
ctor_of l c = ask (for_any CTORS c) (λ a. done (answer_ctor l a))
