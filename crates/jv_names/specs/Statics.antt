-- The static members that a file's static imports bring (JLS 7.5.3, 7.5.4).
use Rattle.std.specs.Prelude.{ℕ, List, [], ◌∷◌, Bool, true, false, not, cond, ◌==◌, ◌&&◌, fold}
use Rattle.std.specs.List.{filter}
use Rattle.sg_base.specs.declared.scope.Scope.{Scope}
use Rattle.sg_base.specs.Scope.{scope_cmp}
use Rattle.sg_reading.specs.Reading.{done, and_then}
use Rattle.sg_state.specs.Held.{put}
use Rattle.jv_layout.specs.Folder.{LayoutOf}
use Rattle.jv_layout.specs.Readers.{access_of, is_static_of, package_of, statics_of}
use Rattle.jv_layout.specs.Scopes.{file_scope}
use Rattle.jv_tree.specs.declared.names.NameId.{NameId}
use Rattle.jv_tree.specs.DeclTree.{ImportTree}
use Rattle.jv_names.specs.declared.counts.Counts.TheVariants.{MemberTypes, Fields as CountedFields}
use Rattle.jv_names.specs.declared.ends.Ends.{Ends}
use Rattle.jv_names.specs.declared.ends.Ends.TheVariants.{Scopes, TooMany}
use Rattle.jv_names.specs.declared.kinds.TheConstants.{MEMTYPE, FIELDS}
use Rattle.jv_names.specs.declared.meaning.Meaning.{Meaning}
use Rattle.jv_names.specs.declared.meaning.Meaning.TheVariants.{One, Nothing, Ambiguous, TooMany as TooManyTypes}
use Rattle.jv_names.specs.declared.static_kind.StaticKind.{StaticKind}
use Rattle.jv_names.specs.declared.static_kind.StaticKind.TheVariants.{Types, Fields, Methods}
use Rattle.jv_names.specs.Ends.{opens_to}
use Rattle.jv_names.specs.Members.{find_ends, methods}
use Rattle.jv_names.specs.Names.{import_rule}
use Rattle.jv_names.specs.Replies.{Rule, for_name}
use Rattle.jv_names.specs.Written.{last_name}

-- ---- one type

-- the members of a name in a type
abbrev pub kind_members : LayoutOf → StaticKind → Scope → NameId → Rule Ends
kind_members l Types t n = find_ends l MemberTypes (for_name MEMTYPE t n)
kind_members l Fields t n = find_ends l CountedFields (for_name FIELDS t n)
kind_members l Methods t n = methods l t n

-- a file's static imports bring a member: a static one that is public, or of protected or package access in the file's package
abbrev pub is_brought : LayoutOf → ℕ → Scope → Bool
is_brought l file m = is_static_of l m && opens_to l (access_of l m) (package_of l (file_scope l file)) m

-- those of some members
abbrev pub brought_of : LayoutOf → ℕ → Ends → Ends
brought_of l file (Scopes ms) = Scopes (fold (put scope_cmp) [] (filter (is_brought l file) ms))
brought_of l file TooMany = TooMany

-- the members of a name that one type has, as far as they are brought
unfoldable pub kind_brought : LayoutOf → ℕ → StaticKind → Scope → NameId → Rule Ends
kind_brought l file k t n = and_then (kind_members l k t n) (λ e. done (brought_of l file e))

-- ---- the imports of a file

-- what two imports bring
abbrev pub together : Ends → Ends → Ends
together (Scopes ms) (Scopes ks) = Scopes (fold (put scope_cmp) ms ks)
together (Scopes ms) TooMany = TooMany
together TooMany e = TooMany

-- what an import brings, by what its name means
abbrev pub brought_by : LayoutOf → ℕ → StaticKind → NameId → Meaning → Rule Ends
brought_by l file k n (One t) = kind_brought l file k t n
brought_by l file k n Nothing = done (Scopes [])
brought_by l file k n Ambiguous = done (Scopes [])
brought_by l file k n TooManyTypes = done TooMany

-- the members of a name that an import brings
unfoldable pub import_brings : LayoutOf → ℕ → StaticKind → NameId → ImportTree → Rule Ends
import_brings l file k n i = and_then (import_rule l i) (λ r. brought_by l file k n r.meaning)

-- a static import is asked for a name: one on demand for each, a single one for its last identifier
abbrev pub is_asked : Bool → NameId → ImportTree → Bool
is_asked true n i = i.all
is_asked false n i = not i.all && ((last_name i.name).0 == n.0)

-- behind what earlier ones bring; too many paths do not end it
abbrev pub brought_from : LayoutOf → ℕ → Bool → StaticKind → NameId → Ends → List ImportTree → Rule Ends
brought_from l file all k n found [] = done found
brought_from l file all k n found (i ∷ is) =
    cond (is_asked all n i) (and_then (import_brings l file k n i) (λ e. brought_from l file all k n (together found e) is))
    (brought_from l file all k n found is)

-- the static members of a name that the static imports of a file bring, rising and once each: those on demand, or the single ones of this name
unfoldable pub static_members : LayoutOf → ℕ → Bool → StaticKind → NameId → Rule Ends
static_members l file all k n = brought_from l file all k n (Scopes []) (statics_of l file)

-- all that one type brings of a name: types, fields and methods
unfoldable pub statics_of_type : LayoutOf → ℕ → Scope → NameId → Rule Ends
statics_of_type l file t n =
    and_then (kind_brought l file Types t n)
    (λ a. and_then (kind_brought l file Fields t n) (λ b. and_then (kind_brought l file Methods t n) (λ c. done (together (together a b) c))))
