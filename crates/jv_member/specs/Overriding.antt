-- What overrides what, and which methods meet (JLS 8.4.8, 9.4.1, 8.1.1.1, 8.4.8.4, 9.4.1.3).
use Rattle.std.specs.Prelude.{ℕ, ◌==◌, ◌&&◌, ◌||◌, not, nat_lt, Bool, true, false, cond, List, [], ◌∷◌, ◌++◌, length, fold, map, Option, None, Some}
use Rattle.std.specs.List.{filter, list_any, list_all}
use Rattle.std.specs.Map.{lookup}
use Rattle.indexmap.specs.IndexMap.{insert_entry}
use Rattle.sg_base.specs.declared.scope.Scope.{Scope}
use Rattle.sg_base.specs.Scope.{is_scope, scope_cmp}
use Rattle.sg_reading.specs.Reading.{done, and_then, each}
use Rattle.sg_state.specs.Held.{put}
use Rattle.jv_diag.specs.declared.codes.TheConstants.{DEFAULTS_MEET, OTHER_RESULT, OVERLOADED, OVERRIDES_FINAL, STATIC_AND_INSTANCE, TOO_MANY_PATHS, UNIMPLEMENTED, WEAKER_ACCESS}
use Rattle.jv_diag.specs.Plain.{DiagOf, diagnostic, fault_if}
use Rattle.jv_instance.specs.declared.access.Access.{Access}
use Rattle.jv_instance.specs.declared.access.Access.TheVariants.{Public, Protected, Package, Private}
use Rattle.jv_instance.specs.declared.ty.Ty.{Ty}
use Rattle.jv_layout.specs.Duplicates.{simple_name}
use Rattle.jv_layout.specs.Folder.{LayoutOf, text_of}
use Rattle.jv_layout.specs.Readers.{access_of, file_of, is_abstract_of, is_default_of, is_final_of, is_interface_method_of, is_interface_of, is_static_of, owner_scope}
use Rattle.jv_tree.specs.declared.name.Ident.{Ident}
use Rattle.jv_tree.specs.declared.names.NameId.{NameId}
use Rattle.jv_names.specs.declared.counts.Counts.TheVariants.{Methods}
use Rattle.jv_names.specs.declared.ends.Ends.{Ends}
use Rattle.jv_names.specs.declared.ends.Ends.TheVariants.{Scopes, TooMany}
use Rattle.jv_names.specs.declared.kinds.TheConstants.{METHODS, ABOVE}
use Rattle.jv_names.specs.Chosen.{fits_all}
use Rattle.jv_names.specs.Members.{find_ends, members_among, object_methods}
use Rattle.jv_names.specs.Read.{SignatureOf, signature_of, is_whole, same_types, result_fits}
use Rattle.jv_names.specs.Replies.{Rule, for_any, for_name}
use Rattle.jv_member.specs.Declaration.{joined}

-- a code at an identifier of a type's file, with the text of a name
abbrev pub named_diag : LayoutOf → List (List ℕ) → Scope → ℕ → Ident → NameId → DiagOf
named_diag l names c code place n = diagnostic (file_of l c) place.at code (text_of names n.0 ∷ [])

-- ---- pairs of methods

-- how far a method is accessible: private, package access, protected, public
abbrev pub access_rank : Access → ℕ
access_rank Private = 0
access_rank Package = 1
access_rank Protected = 2
access_rank Public = 3

-- the first method has weaker access than the second
abbrev pub is_weaker : LayoutOf → Scope → Scope → Bool
is_weaker l m k = nat_lt (access_rank (access_of l m)) (access_rank (access_of l k))

-- one of two methods is static and the other is not
abbrev pub static_differs : LayoutOf → Scope → Scope → Bool
static_differs l m k = cond (is_static_of l m) (not (is_static_of l k)) (is_static_of l k)

-- the first of two methods has weaker access, or a result that does not fit that of the second
abbrev pub weaker_or_other : LayoutOf → Scope → Scope → SignatureOf → SignatureOf → Rule (Option ℕ)
weaker_or_other l m k a b = cond (is_weaker l m k) (done (Some WEAKER_ACCESS)) (and_then (result_fits l a.result b.result) (λ ok. done (cond ok None (Some OTHER_RESULT))))

-- what is wrong where the first method is declared over the second: other parameters, one of the two is static, the second is final, weaker access,
-- another result; the first that holds
abbrev pub overriding_code : LayoutOf → Scope → Scope → SignatureOf → SignatureOf → Rule (Option ℕ)
overriding_code l m k a b =
    cond (not (same_types a.params b.params)) (done (Some OVERLOADED))
    (cond (static_differs l m k) (done (Some STATIC_AND_INSTANCE)) (cond (is_final_of l k) (done (Some OVERRIDES_FINAL)) (weaker_or_other l m k a b)))

-- what is wrong where both are inherited and the first stands for both
abbrev pub meeting_code : LayoutOf → Scope → Scope → SignatureOf → SignatureOf → Rule (Option ℕ)
meeting_code l m k a b = cond (static_differs l m k) (done (Some STATIC_AND_INSTANCE)) (weaker_or_other l m k a b)

-- two signatures without bad types are compared, and others are passed over
abbrev pub on_whole : Option SignatureOf → Option SignatureOf → (SignatureOf → SignatureOf → Rule (Option ℕ)) → Rule (Option ℕ)
on_whole None b f = done None
on_whole (Some a) None f = done None
on_whole (Some a) (Some b) f = cond (is_whole a && is_whole b) (f a b) (done None)

-- a method that is declared over another one
unfoldable pub overriding : LayoutOf → Scope → Scope → Rule (Option ℕ)
overriding l m k = and_then (signature_of l m) (λ a. and_then (signature_of l k) (λ b. on_whole a b (overriding_code l m k)))

-- the diagnostics of codes at a place, all with one name
abbrev pub code_diags : LayoutOf → List (List ℕ) → Scope → Ident → NameId → List (Option ℕ) → List DiagOf
code_diags l names c place n [] = []
code_diags l names c place n (None ∷ cs) = code_diags l names c place n cs
code_diags l names c place n (Some k ∷ cs) = named_diag l names c k place n ∷ code_diags l names c place n cs

-- ---- methods that a type declares

-- what a method of a type is declared over: the methods above the type, and for an interface those of `Object` too (JLS 9.2)
abbrev pub with_objects : LayoutOf → Scope → NameId → List Scope → List Scope
with_objects l c n ks = cond (is_interface_of l c) (fold (put scope_cmp) ks (object_methods l n)) ks

-- the diagnostics of a method against what it is declared over; too many paths stand at the type's name
abbrev pub against : LayoutOf → List (List ℕ) → Scope → Ident → Scope → Ident → Ends → Rule (List DiagOf)
against l names c type m i TooMany = done (named_diag l names c TOO_MANY_PATHS type type.id ∷ [])
against l names c type m i (Scopes ks) = and_then (each (overriding l m) (with_objects l c i.id ks)) (λ codes. done (code_diags l names c i i.id codes))

-- the diagnostics of a method of a type against the methods of its name above the type
unfoldable pub method_rule : LayoutOf → List (List ℕ) → Scope → Ident → Scope → Ident → Rule (List DiagOf)
method_rule l names c type m i = and_then (find_ends l Methods (for_name ABOVE c i.id)) (against l names c type m i)

-- ---- methods that a type inherits

-- the name of a method
abbrev pub name_or_none : Option NameId → NameId
name_or_none None = record { 0 = 0 }
name_or_none (Some n) = n

-- the name of a method by its scope; where the layout has none for it, the name with the number 0
abbrev pub method_name : LayoutOf → Scope → NameId
method_name l m = name_or_none (simple_name l m)

-- methods by name, in the order of the first of each name
abbrev pub Groups : Type 0
Groups = List (NameId × List Scope)

-- two names are the same
abbrev pub same_name : NameId → NameId → Bool
same_name a b = a.0 == b.0

-- the methods of a name so far; where there are none yet, an empty list
abbrev pub or_nothing : Option (List Scope) → List Scope
or_nothing None = []
or_nothing (Some ms) = ms

-- the groups with one method more
abbrev pub with_method : LayoutOf → Groups → Scope → Groups
with_method l gs m = insert_entry same_name gs (method_name l m) (or_nothing (lookup (same_name (method_name l m)) gs) ++ m ∷ [])

-- the groups of some methods
abbrev pub groups_of : LayoutOf → List Scope → Groups
groups_of l ms = fold (with_method l) [] ms

-- a type is the owner of a member
abbrev pub is_owner : Scope → Option Scope → Bool
is_owner c None = false
is_owner c (Some d) = is_scope c d

-- a type declares one of the methods
abbrev pub declares_one : LayoutOf → Scope → List Scope → Bool
declares_one l c ms = list_any (λ m. is_owner c (owner_scope l m)) ms

-- the first method that a class declares and that is not abstract
abbrev pub first_concrete : LayoutOf → List Scope → Option Scope
first_concrete l [] = None
first_concrete l (m ∷ ms) = cond (is_abstract_of l m || is_interface_method_of l m) (first_concrete l ms) (Some m)

-- an abstract method that a class declares
abbrev pub is_abstract_of_class : LayoutOf → Scope → Bool
is_abstract_of_class l m = is_abstract_of l m && not (is_interface_method_of l m)

-- a default method and another one are members, and none of them is an abstract one of a class
abbrev pub meets_default : LayoutOf → List Scope → Bool
meets_default l ms = list_any (is_default_of l) ms && (not (nat_lt (length ms) 2) && not (list_any (is_abstract_of_class l) ms))

-- the code of default methods that meet
abbrev pub default_codes : LayoutOf → List Scope → List (Option ℕ)
default_codes l members = cond (meets_default l members) (Some DEFAULTS_MEET ∷ []) []

-- the methods whose signatures have no bad type
abbrev pub whole_methods : List Scope → List (Option SignatureOf) → List (Scope × SignatureOf)
whole_methods [] ss = []
whole_methods (m ∷ ms) [] = []
whole_methods (m ∷ ms) (None ∷ ss) = whole_methods ms ss
whole_methods (m ∷ ms) (Some s ∷ ss) = cond (is_whole s) ((m, s) ∷ whole_methods ms ss) (whole_methods ms ss)

-- some parameters differ from those of the first
abbrev pub params_differ : List (Scope × SignatureOf) → Bool
params_differ [] = false
params_differ (w ∷ ws) = list_any (λ x. not (same_types w.1.params x.1.params)) ws

-- the signature of a method among those
abbrev pub signature_among : Scope → List (Scope × SignatureOf) → Option SignatureOf
signature_among m [] = None
signature_among m (w ∷ ws) = cond (is_scope m w.0) (Some w.1) (signature_among m ws)

-- another method is compared with the one that stands for both
abbrev pub meets : LayoutOf → Scope → SignatureOf → Scope × SignatureOf → Rule (Option ℕ)
meets l m s w = meeting_code l m w.0 s w.1

-- a method is another one
abbrev pub is_other : Scope → Scope × SignatureOf → Bool
is_other m w = not (is_scope m w.0)

-- a method of a class that is not abstract stands for all others
abbrev pub concrete_codes : LayoutOf → Scope → Option SignatureOf → List (Scope × SignatureOf) → Rule (List (Option ℕ))
concrete_codes l m None ws = done []
concrete_codes l m (Some s) ws = each (meets l m s) (filter (is_other m) ws)

-- the results of methods
abbrev pub results_of : List (Scope × SignatureOf) → List Ty
results_of ws = map (λ w. w.1.result) ws

-- one of the results fits all others
abbrev pub some_fits : LayoutOf → List Ty → List Ty → Rule Bool
some_fits l all [] = done false
some_fits l all (t ∷ ts) = and_then (fits_all l t all) (λ ok. cond ok (done true) (some_fits l all ts))

-- no method of a class stands for all: where no signature has a bad type, the result of one of them has to fit all others; where nothing is wrong with
-- results, default methods may meet
abbrev pub abstract_codes : LayoutOf → List Scope → List Scope → List (Scope × SignatureOf) → Rule (List (Option ℕ))
abstract_codes l ms members ws =
    cond (length ws == length ms) (and_then (some_fits l (results_of ws) (results_of ws)) (λ ok. done (cond ok (default_codes l members) (Some OTHER_RESULT ∷ [])))) (done (default_codes l members))

-- what is wrong with methods that meet, by the first of a class that is not abstract, where there is one
abbrev pub met_codes : LayoutOf → List Scope → List Scope → Option Scope → List (Scope × SignatureOf) → Rule (List (Option ℕ))
met_codes l ms members None ws = abstract_codes l ms members ws
met_codes l ms members (Some m) ws = concrete_codes l m (signature_among m ws) ws

-- what is wrong with several methods of one name that meet in a type which declares none of that name
abbrev pub meeting_codes : LayoutOf → List Scope → List Scope → List (Scope × SignatureOf) → Rule (List (Option ℕ))
meeting_codes l ms members ws = cond (params_differ ws) (done (Some OVERLOADED ∷ [])) (met_codes l ms members (first_concrete l ms) ws)

-- what is wrong with the methods of one name that a type inherits, of which these are its members; nothing where it declares one of them, or where there
-- are fewer than two
unfoldable pub meeting : LayoutOf → Scope → List Scope → List Scope → Rule (List (Option ℕ))
meeting l c ms members =
    cond (declares_one l c ms || nat_lt (length ms) 2) (done []) (and_then (each (signature_of l) ms) (λ ss. meeting_codes l ms members (whole_methods ms ss)))

-- a class that is not abstract implements each method that it has: not all members of a name are abstract, and none is an abstract one of a class
-- (JLS 8.1.1.1, 8.4.8)
abbrev pub is_unimplemented : LayoutOf → Scope → List Scope → Bool
is_unimplemented l c members =
    (not (is_interface_of l c) && not (is_abstract_of l c))
    && (nat_lt 0 (length members) && (list_all (is_abstract_of l) members || list_any (is_abstract_of_class l) members))

-- the diagnostics of the methods of one name, by its members and by what is wrong where they meet, all at the type's name
abbrev pub group_diags : LayoutOf → List (List ℕ) → Scope → Ident → NameId → List Scope → List (Option ℕ) → List DiagOf
group_diags l names c type n members codes = code_diags l names c type n codes ++ fault_if (is_unimplemented l c members) (named_diag l names c UNIMPLEMENTED type n)

-- the diagnostics of the methods of one name, all at the type's name
unfoldable pub group_rule : LayoutOf → List (List ℕ) → Scope → Ident → NameId × List Scope → Rule (List DiagOf)
group_rule l names c type g =
    and_then (members_among l g.1) (λ members. and_then (meeting l c g.1 members) (λ codes. done (group_diags l names c type g.0 members codes)))

-- the diagnostics of all methods that a type has
abbrev pub all_groups : LayoutOf → List (List ℕ) → Scope → Ident → Ends → Rule (List DiagOf)
all_groups l names c type TooMany = done (named_diag l names c TOO_MANY_PATHS type type.id ∷ [])
all_groups l names c type (Scopes ms) = and_then (each (group_rule l names c type) (groups_of l ms)) (λ ds. done (joined ds))

-- the diagnostics of the methods that a type has, its own and those of its supertypes, as they meet in it
unfoldable pub inherited_rule : LayoutOf → List (List ℕ) → Scope → Ident → Rule (List DiagOf)
inherited_rule l names c type = and_then (find_ends l Methods (for_any METHODS c)) (all_groups l names c type)
