-- The meaning of the names of types (JLS 6.5.5).
use Rattle.std.specs.Prelude.{ℕ, List, [], ◌∷◌, ◌++◌, true, false, ◌&&◌, map}
use Rattle.std.specs.List.{filter}
use Rattle.sg_base.specs.declared.scope.Scope.{Scope}
use Rattle.sg_query.specs.declared.answer.Answer.{Answer}
use Rattle.sg_query.specs.declared.answer.Answer.TheVariants.{Paths, TooMany as TooManyPaths}
use Rattle.sg_query.specs.declared.found.Found.{Found}
use Rattle.sg_reading.specs.Reading.{done, ask, and_then}
use Rattle.jv_instance.specs.declared.datum.JavaDatum.{JavaDatum}
use Rattle.jv_instance.specs.declared.labels.TheConstants.{SELF, SIMP, PKGOF, ODI}
use Rattle.jv_layout.specs.Folder.{LayoutOf}
use Rattle.jv_layout.specs.Scopes.{file_scope}
use Rattle.jv_tree.specs.declared.name.Ident.{Ident}
use Rattle.jv_tree.specs.declared.names.NameId.{NameId}
use Rattle.jv_names.specs.declared.context.Context.TheVariants.{TypeName}
use Rattle.jv_names.specs.declared.counts.Counts.TheVariants.{FileTypes}
use Rattle.jv_names.specs.declared.ends.Ends.{Ends}
use Rattle.jv_names.specs.declared.ends.Ends.TheVariants.{Scopes, TooMany}
use Rattle.jv_names.specs.declared.kinds.TheConstants.{FILETYPE}
use Rattle.jv_names.specs.declared.meaning.Meaning.{Meaning}
use Rattle.jv_names.specs.declared.meaning.Meaning.TheVariants.{Nothing, TooMany as TooManyTypes}
use Rattle.jv_names.specs.declared.qualifier.Qualifier.TheVariants.{InType}
use Rattle.jv_names.specs.declared.resolved.Resolved.{Resolved}
use Rattle.jv_names.specs.declared.static_kind.StaticKind.TheVariants.{Types}
use Rattle.jv_names.specs.Ends.{begins_with, is_counted, meaning_of, path_end}
use Rattle.jv_names.specs.Names.{or_next, member_type, ended, on_one, further_parts, from_root}
use Rattle.jv_names.specs.Replies.{Rule, for_name}
use Rattle.jv_names.specs.Statics.{static_members}

-- ---- the types that a file sees (JLS 6.4.1, 7.5)

-- the ends of the paths of a file's types that count and begin with a label
abbrev pub ends_by : LayoutOf → ℕ → List (Found JavaDatum) → List Scope
ends_by l label fs = map (λ f. path_end f.path) (filter (λ f. is_counted l FileTypes f && begins_with label f.path.steps) fs)

-- ends decide, where there are some
abbrev pub decided_or : List Scope → Rule Meaning → Rule Meaning
decided_or [] next = next
decided_or (e ∷ es) next = done (meaning_of (e ∷ es))

-- static types with the ends of a label
abbrev pub with_statics : List Scope → Ends → (List Scope → Rule Meaning) → Rule Meaning
with_statics es TooMany f = done TooManyTypes
with_statics es (Scopes ss) f = f (ss ++ es)

-- a type that imports on demand bring, static ones and others alike
abbrev pub on_demand_type : LayoutOf → ℕ → NameId → List (Found JavaDatum) → Rule Meaning
on_demand_type l file n fs = and_then (static_members l file true Types n) (λ e. with_statics (ends_by l ODI fs) e (λ ss. done (meaning_of ss)))

-- a type that single imports bring, static ones and others alike, or else one of the file's package, or else one on demand
abbrev pub single_type : LayoutOf → ℕ → NameId → List (Found JavaDatum) → Rule Meaning
single_type l file n fs =
    and_then (static_members l file false Types n)
    (λ e. with_statics (ends_by l SIMP fs) e (λ ss. decided_or ss (decided_or (ends_by l PKGOF fs) (on_demand_type l file n fs))))

-- by the answer: the file's own types, single imports, its package, imports on demand
abbrev pub file_answer : LayoutOf → ℕ → NameId → Answer JavaDatum → Rule Meaning
file_answer l file n (Paths fs) = decided_or (ends_by l SELF fs) (single_type l file n fs)
file_answer l file n TooManyPaths = done TooManyTypes

-- a type that a file sees by its simple name
abbrev pub file_type : LayoutOf → ℕ → NameId → Rule Meaning
file_type l file n = ask (for_name FILETYPE (file_scope l file) n) (file_answer l file n)

-- ---- simple names of types (JLS 6.5.5.1)

-- a simple name: a member type of the enclosing bodies, innermost first, and else a type that the file sees
abbrev pub simple_type : LayoutOf → ℕ → List Scope → NameId → Rule Meaning
simple_type l file [] n = file_type l file n
simple_type l file (b ∷ bs) n = and_then (member_type l b n) (λ m. or_next m (simple_type l file bs n))

-- ---- names of types with dots (JLS 6.5.5.2)

-- what follows where the first part of a name means no type: a package of the root, if further parts follow
abbrev pub not_a_type : LayoutOf → Ident → List Ident → Rule Resolved
not_a_type l n [] = ended Nothing []
not_a_type l n (k ∷ ks) = from_root l TypeName n (k ∷ ks)

-- the name of a type: its first part as a simple name, or else as a package of the root, and then the further parts
abbrev pub type_name : LayoutOf → ℕ → List Scope → List Ident → Rule Resolved
type_name l file bodies [] = ended Nothing []
type_name l file bodies (n ∷ ns) =
    and_then (simple_type l file bodies n.id) (λ m. on_one m [] (λ s. further_parts l TypeName (InType s) (s ∷ []) ns) (not_a_type l n ns))
