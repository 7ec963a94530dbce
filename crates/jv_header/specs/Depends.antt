-- Types that depend on themselves (JLS 8.1.4, 9.1.3).
use Rattle.std.specs.Prelude.{ℕ, List, [], ◌∷◌, ◌++◌, Bool, true, false, ◌||◌}
use Rattle.std.specs.List.{list_any}
use Rattle.sg_base.specs.declared.scope.Scope.{Scope}
use Rattle.sg_base.specs.Scope.{is_scope}
use Rattle.sg_query.specs.declared.answer.Answer.{Answer}
use Rattle.sg_query.specs.declared.answer.Answer.TheVariants.{Paths, TooMany}
use Rattle.sg_reading.specs.Reading.{done, ask, and_then}
use Rattle.jv_diag.specs.declared.codes.TheConstants.{DEPENDS_ON_ITSELF, TOO_MANY_PATHS}
use Rattle.jv_diag.specs.Plain.{DiagOf, diagnostic, fault_if}
use Rattle.jv_instance.specs.declared.datum.JavaDatum.{JavaDatum}
use Rattle.jv_layout.specs.Folder.{LayoutOf, text_of}
use Rattle.jv_layout.specs.Readers.{file_of}
use Rattle.jv_layout.specs.Titles.{title_of}
use Rattle.jv_tree.specs.declared.name.Ident.{Ident}
use Rattle.jv_names.specs.declared.counts.Counts.TheVariants.{Supertypes}
use Rattle.jv_names.specs.declared.kinds.TheConstants.{SUPERS}
use Rattle.jv_names.specs.Ends.{has_end}
use Rattle.jv_names.specs.Replies.{Rule, for_any}
use Rattle.jv_header.specs.declared.dependence.Dependence.{Dependence}

-- whether there were too many paths to look at
abbrev pub is_too_many : Answer JavaDatum → Bool
is_too_many (Paths fs) = false
is_too_many TooMany = true

-- what was found before, and what the supertypes of one more type tell: whether the type is among them, and whether there are too many paths
abbrev pub with_supertypes : LayoutOf → Scope → Dependence → Answer JavaDatum → Dependence
with_supertypes l c d a = record { on_itself = d.on_itself || has_end l Supertypes c a; too_many = d.too_many || is_too_many a }

-- a type's dependence by the supertypes of some types, behind what was found before
unfoldable pub dependence_from : LayoutOf → Scope → Dependence → List Scope → Rule Dependence
dependence_from l c d [] = done d
dependence_from l c d (t ∷ ts) = ask (for_any SUPERS t) (λ a. dependence_from l c (with_supertypes l c d a) ts)

-- a type depends on itself where it stands in its own row, or among the supertypes of a type of its row
abbrev pub dependence : LayoutOf → Scope → List Scope → Rule Dependence
dependence l c row = dependence_from l c (record { on_itself = list_any (is_scope c) row; too_many = false }) row

-- the diagnostics of a dependence, at the type's name
abbrev pub dependence_diags : LayoutOf → List (List ℕ) → Scope → Ident → Dependence → List DiagOf
dependence_diags l names c name d =
    fault_if d.on_itself (diagnostic (file_of l c) name.at DEPENDS_ON_ITSELF (title_of l names c ∷ [])) ++ fault_if d.too_many (diagnostic (file_of l c) name.at TOO_MANY_PATHS (text_of names name.id.0 ∷ []))

-- the diagnostics of a type's dependence, by its row
abbrev pub depends_rule : LayoutOf → List (List ℕ) → Scope → Ident → List Scope → Rule (List DiagOf)
depends_rule l names c name row = and_then (dependence l c row) (λ d. done (dependence_diags l names c name d))
