-- A name of a type with its diagnostics: what it means, and which of the types that its parts mean are not accessible (JLS 6.5.5, 6.6.1).
use Rattle.std.specs.Prelude.{ℕ, List, [], ◌∷◌, ◌++◌, map, cond}
use Rattle.sg_base.specs.declared.scope.Scope.{Scope}
use Rattle.sg_reading.specs.Reading.{done, and_then}
use Rattle.jv_diag.specs.declared.codes.TheConstants.{AMBIGUOUS_TYPE, INACCESSIBLE_TYPE, TOO_MANY_PATHS, UNKNOWN_TYPE}
use Rattle.jv_diag.specs.Plain.{DiagOf, diagnostic}
use Rattle.jv_layout.specs.Folder.{LayoutOf}
use Rattle.jv_layout.specs.Titles.{title_of}
use Rattle.jv_tree.specs.declared.name.Ident.{Ident}
use Rattle.jv_names.specs.declared.meaning.Meaning.{Meaning}
use Rattle.jv_names.specs.declared.meaning.Meaning.TheVariants.{One, Nothing, Ambiguous, TooMany}
use Rattle.jv_names.specs.declared.reference.Reference.{Reference}
use Rattle.jv_names.specs.Access.{type_accessible}
use Rattle.jv_names.specs.Replies.{Rule}
use Rattle.jv_names.specs.TypeNames.{type_name}
use Rattle.jv_names.specs.Written.{written, start_of}

-- behind those so far, the types that are not accessible at the place
abbrev pub refused : LayoutOf → ℕ → List Scope → List Scope → List Scope → Rule (List Scope)
refused l file bodies so_far [] = done so_far
refused l file bodies so_far (t ∷ ts) = and_then (type_accessible l file bodies t) (λ ok. refused l file bodies (cond ok so_far (so_far ++ t ∷ [])) ts)

-- a reference to a type: first what the name means, and then the access of the types that its parts mean, from left to right
unfoldable pub reference : LayoutOf → ℕ → List Scope → List Ident → Rule Reference
reference l file bodies ids =
    and_then (type_name l file bodies ids) (λ r. and_then (refused l file bodies [] r.types) (λ ts. done (record { meaning = r.meaning; refused = ts })))

-- where a name means no type: it is not found, it is ambiguous, or there were too many paths
abbrev pub meaning_diags : List (List ℕ) → ℕ → List Ident → Meaning → List DiagOf
meaning_diags names file ids (One s) = []
meaning_diags names file ids Nothing = diagnostic file (start_of ids) UNKNOWN_TYPE (written names ids ∷ []) ∷ []
meaning_diags names file ids Ambiguous = diagnostic file (start_of ids) AMBIGUOUS_TYPE (written names ids ∷ []) ∷ []
meaning_diags names file ids TooMany = diagnostic file (start_of ids) TOO_MANY_PATHS (written names ids ∷ []) ∷ []

-- each type that is not accessible, at the name's first token
abbrev pub access_diags : LayoutOf → List (List ℕ) → ℕ → List Ident → List Scope → List DiagOf
access_diags l names file ids ts = map (λ t. diagnostic file (start_of ids) INACCESSIBLE_TYPE (title_of l names t ∷ [])) ts

-- the diagnostics of a reference
abbrev pub reference_diags : LayoutOf → List (List ℕ) → ℕ → List Ident → Reference → List DiagOf
reference_diags l names file ids r = meaning_diags names file ids r.meaning ++ access_diags l names file ids r.refused
