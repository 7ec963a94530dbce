-- The fields and methods of a name that a type has (JLS 8.2, 8.4.8, 9.2, 9.4.1).
use Rattle.std.specs.Prelude.{◌&&◌, ◌||◌, Bool, true, false, not, cond, List, [], ◌∷◌, Option, Some, None}
use Rattle.std.specs.List.{filter}
use Rattle.sg_base.specs.declared.scope.Scope.{Scope}
use Rattle.sg_base.specs.Scope.{is_scope, scope_cmp}
use Rattle.sg_query.specs.declared.query.Query.{Query}
use Rattle.sg_reading.specs.Reading.{done, ask, and_then}
use Rattle.sg_state.specs.Held.{put}
use Rattle.jv_instance.specs.declared.labels.TheConstants.{METH}
use Rattle.jv_instance.specs.declared.pred.JavaPred.{JavaPred}
use Rattle.jv_layout.specs.Duplicates.{is_named}
use Rattle.jv_layout.specs.Fits.{is_member_by}
use Rattle.jv_layout.specs.Folder.{LayoutOf}
use Rattle.jv_layout.specs.Readers.{is_abstract_of, is_interface_method_of, is_static_of, members_of, object_scope, owner_scope}
use Rattle.jv_layout.specs.Scopes.{place_of}
use Rattle.jv_tree.specs.declared.names.NameId.{NameId}
use Rattle.jv_names.specs.declared.counts.Counts.{Counts}
use Rattle.jv_names.specs.declared.counts.Counts.TheVariants.{Fields, Methods}
use Rattle.jv_names.specs.declared.ends.Ends.{Ends}
use Rattle.jv_names.specs.declared.ends.Ends.TheVariants.{Scopes, TooMany as TooManyEnds}
use Rattle.jv_names.specs.declared.kinds.TheConstants.{FIELDS, METHODS}
use Rattle.jv_names.specs.declared.meaning.Meaning.{Meaning}
use Rattle.jv_names.specs.Access.{has_super, some_body}
use Rattle.jv_names.specs.Ends.{answer_ends}
use Rattle.jv_names.specs.Names.{look_up}
use Rattle.jv_names.specs.Replies.{Rule, for_name}

-- the distinct ends by one query
unfoldable pub find_ends : LayoutOf → Counts → Query JavaPred → Rule Ends
find_ends l c q = ask q (λ a. done (answer_ends l c a))

-- the field of a name: one, several, or none
abbrev pub field : LayoutOf → Scope → NameId → Rule Meaning
field l class n = look_up l Fields (for_name FIELDS class n)

-- the methods of a name that a type declares or inherits
abbrev pub all_methods : LayoutOf → Scope → NameId → Rule Ends
all_methods l class n = find_ends l Methods (for_name METHODS class n)

-- a method that is not abstract and that a class declares
abbrev pub is_of_class : LayoutOf → Scope → Bool
is_of_class l k = not (is_abstract_of l k) && not (is_interface_method_of l k)

-- another type has an interface among its supertypes
abbrev pub lies_below : LayoutOf → Option Scope → Option Scope → Rule Bool
lies_below l (Some j) (Some d) = cond (is_scope j d) (done false) (has_super l j d)
lies_below l (Some j) None = done false
lies_below l None d = done false

-- the second method takes the place of the first: another one, not static, that is of a class and not abstract, or of a subtype of the first one's interface
unfoldable pub stands_for : LayoutOf → Scope → Scope → Rule Bool
stands_for l m k = cond (is_scope m k || is_static_of l k) (done false) (cond (is_of_class l k) (done true) (lies_below l (owner_scope l m) (owner_scope l k)))

-- a method of an interface for which another one stands; methods of classes stay
abbrev pub is_replaced : LayoutOf → List Scope → Scope → Rule Bool
is_replaced l all m = cond (is_interface_method_of l m) (some_body (stands_for l m) all) (done false)

-- those that stay, behind the ones so far
abbrev pub members_from : LayoutOf → List Scope → List Scope → List Scope → Rule (List Scope)
members_from l all kept [] = done kept
members_from l all kept (m ∷ ms) = and_then (is_replaced l all m) (λ gone. members_from l all (cond gone kept (put scope_cmp kept m)) ms)

-- the members among inherited methods of one name
unfoldable pub members_among : LayoutOf → List Scope → Rule (List Scope)
members_among l ms = members_from l ms [] ms

-- the members among the methods, where there are not too many paths
abbrev pub with_members : LayoutOf → Ends → Rule Ends
with_members l TooManyEnds = done TooManyEnds
with_members l (Scopes ms) = and_then (members_among l ms) (λ ks. done (Scopes ks))

-- the methods of a name that are members of a type
abbrev pub methods : LayoutOf → Scope → NameId → Rule Ends
methods l class n = and_then (all_methods l class n) (with_members l)

-- a member is a method with this name
abbrev pub is_method_named : LayoutOf → NameId → Scope → Bool
is_method_named l n m = is_member_by l METH (place_of l m) && is_named l n m

-- the methods of `Object` with a name, which an interface has too where it declares none like them (JLS 9.2)
abbrev pub object_methods : LayoutOf → NameId → List Scope
object_methods l n = filter (is_method_named l n) (members_of l (object_scope l))
