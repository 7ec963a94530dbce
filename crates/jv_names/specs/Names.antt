-- The meaning of the parts of names, and of the names of imports (JLS 6.5, 7.5).
use Rattle.std.specs.Prelude.{List, [], ◌∷◌, ◌++◌, Bool, true, false, not, cond, ◌&&◌}
use Rattle.sg_base.specs.declared.scope.Scope.{Scope}
use Rattle.sg_query.specs.declared.query.Query.{Query}
use Rattle.sg_reading.specs.Reading.{done, ask, and_then}
use Rattle.jv_instance.specs.declared.pred.JavaPred.{JavaPred}
use Rattle.jv_layout.specs.Folder.{LayoutOf}
use Rattle.jv_layout.specs.Scopes.{root_scope}
use Rattle.jv_tree.specs.declared.name.Ident.{Ident}
use Rattle.jv_tree.specs.declared.names.NameId.{NameId}
use Rattle.jv_tree.specs.DeclTree.{ImportTree}
use Rattle.jv_names.specs.declared.counts.Counts.{Counts}
use Rattle.jv_names.specs.declared.counts.Counts.TheVariants.{OwnPackages, OwnTypes, MemberTypes}
use Rattle.jv_names.specs.declared.kinds.TheConstants.{SUBPKG, OWNTYPE, MEMTYPE}
use Rattle.jv_names.specs.declared.meaning.Meaning.{Meaning}
use Rattle.jv_names.specs.declared.meaning.Meaning.TheVariants.{One, Nothing, Ambiguous, TooMany}
use Rattle.jv_names.specs.declared.context.Context.{Context}
use Rattle.jv_names.specs.declared.context.Context.TheVariants.{TypeName, SingleImport, OnDemandImport}
use Rattle.jv_names.specs.declared.qualifier.Qualifier.{Qualifier}
use Rattle.jv_names.specs.declared.qualifier.Qualifier.TheVariants.{InPackage, InType}
use Rattle.jv_names.specs.declared.resolved.Resolved.{Resolved}
use Rattle.jv_names.specs.Ends.{answer_meaning}
use Rattle.jv_names.specs.Replies.{Rule, for_name}
use Rattle.jv_names.specs.Written.{without_last}

-- the meaning by one query: by the ends that count
unfoldable pub look_up : LayoutOf → Counts → Query JavaPred → Rule Meaning
look_up l c q = ask q (λ a. done (answer_meaning l c a))

-- ---- one part

-- where nothing was found, the next rule
abbrev pub or_next : Meaning → Rule Meaning → Rule Meaning
or_next Nothing next = next
or_next (One s) next = done (One s)
or_next Ambiguous next = done Ambiguous
or_next TooMany next = done TooMany

-- a member type of a type
abbrev pub member_type : LayoutOf → Scope → NameId → Rule Meaning
member_type l t n = look_up l MemberTypes (for_name MEMTYPE t n)

-- ---- names with dots (JLS 6.5.3, 6.5.5.2)

-- what a name means, and the types that its parts mean
abbrev pub ended : Meaning → List Scope → Rule Resolved
ended m types = done (record { meaning = m; types = types })

-- with the one scope that was found; or with the next rule, where nothing was
abbrev pub on_one : Meaning → List Scope → (Scope → Rule Resolved) → Rule Resolved → Rule Resolved
on_one (One s) types found next = found s
on_one Nothing types found next = next
on_one Ambiguous types found next = ended Ambiguous types
on_one TooMany types found next = ended TooMany types

-- what a name means that ends here: a type, or where an import on demand names it, a package too
abbrev pub last_meaning : Context → Qualifier → Meaning
last_meaning context (InType t) = One t
last_meaning OnDemandImport (InPackage p) = One p
last_meaning TypeName (InPackage p) = Nothing
last_meaning SingleImport (InPackage p) = Nothing

-- a part of a name behind a type: one of its member types, and in an import one that it declares itself
abbrev pub type_part : LayoutOf → Context → Scope → NameId → Rule Meaning
type_part l TypeName t n = member_type l t n
type_part l SingleImport t n = look_up l OwnTypes (for_name OWNTYPE t n)
type_part l OnDemandImport t n = look_up l OwnTypes (for_name OWNTYPE t n)

-- a type that a package declares
abbrev pub package_type : LayoutOf → Scope → NameId → Rule Meaning
package_type l p n = look_up l OwnTypes (for_name OWNTYPE p n)

-- a package that stands directly in the root or in a package
abbrev pub subpackage : LayoutOf → Scope → NameId → Rule Meaning
subpackage l p n = look_up l OwnPackages (for_name SUBPKG p n)

-- the parts of a name behind what the parts so far mean
abbrev pub further_parts : LayoutOf → Context → Qualifier → List Scope → List Ident → Rule Resolved
further_parts l context at types [] = ended (last_meaning context at) types
further_parts l context (InType t) types (n ∷ ns) =
    and_then (type_part l context t n.id) (λ m. on_one m types (λ s. further_parts l context (InType s) (types ++ s ∷ []) ns) (ended Nothing types))
further_parts l context (InPackage p) types (n ∷ ns) =
    and_then (package_type l p n.id) (λ m. on_one m types (λ s. further_parts l context (InType s) (types ++ s ∷ []) ns)
    (and_then (subpackage l p n.id) (λ k. on_one k types (λ q. further_parts l context (InPackage q) types ns) (ended Nothing types))))

-- a name whose first part is a package directly in the root
abbrev pub from_root : LayoutOf → Context → Ident → List Ident → Rule Resolved
from_root l context n ns = and_then (subpackage l root_scope n.id) (λ k. on_one k [] (λ q. further_parts l context (InPackage q) [] ns) (ended Nothing []))

-- ---- imports (JLS 7.5)

-- what kind of import it is
abbrev pub import_context : Bool → Context
import_context true = OnDemandImport
import_context false = SingleImport

-- the name of an import, which starts at the root
abbrev pub import_name : LayoutOf → Bool → List Ident → Rule Resolved
import_name l all [] = ended Nothing []
import_name l all (n ∷ ns) = from_root l (import_context all) n ns

-- the name that an import looks up: of a single static one without what it brings
abbrev pub sought_ids : ImportTree → List Ident
sought_ids i = cond (i.is_static && not i.all) (without_last i.name) i.name

-- whether an import may name a package: one on demand that is not static
abbrev pub takes_packages : ImportTree → Bool
takes_packages i = not i.is_static && i.all

-- what an import means: the type or the package that it names, and for a static one the type whose members it brings
abbrev pub import_rule : LayoutOf → ImportTree → Rule Resolved
import_rule l i = import_name l (takes_packages i) (sought_ids i)
