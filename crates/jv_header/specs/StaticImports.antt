-- The members that the single static imports of a file bring: each brings one, or that is said (JLS 7.5.3).
use Rattle.std.specs.Prelude.{ℕ, List, [], ◌∷◌, ◌++◌, not, cond, ◌&&◌}
use Rattle.sg_reading.specs.Reading.{done, and_then}
use Rattle.jv_diag.specs.declared.codes.TheConstants.{TOO_MANY_PATHS, UNKNOWN_IMPORT}
use Rattle.jv_diag.specs.Plain.{DiagOf, diagnostic}
use Rattle.jv_layout.specs.Folder.{LayoutOf}
use Rattle.jv_tree.specs.declared.name.Ident.{Ident}
use Rattle.jv_tree.specs.DeclTree.{ImportTree}
use Rattle.jv_names.specs.declared.ends.Ends.{Ends}
use Rattle.jv_names.specs.declared.ends.Ends.TheVariants.{Scopes, TooMany as TooManyEnds}
use Rattle.jv_names.specs.declared.meaning.Meaning.{Meaning}
use Rattle.jv_names.specs.declared.meaning.Meaning.TheVariants.{One, Nothing, Ambiguous, TooMany as TooManyTypes}
use Rattle.jv_names.specs.Names.{import_rule}
use Rattle.jv_names.specs.Replies.{Rule}
use Rattle.jv_names.specs.Statics.{statics_of_type}
use Rattle.jv_names.specs.Written.{last_name, start_of, written}

-- by the members of the import's last identifier: where there is none, or there are too many paths, that is said, with the whole name at its first token
abbrev pub static_diags : List (List ℕ) → ℕ → List Ident → Ends → List DiagOf
static_diags names file ids TooManyEnds = diagnostic file (start_of ids) TOO_MANY_PATHS (written names ids ∷ []) ∷ []
static_diags names file ids (Scopes []) = diagnostic file (start_of ids) UNKNOWN_IMPORT (written names ids ∷ []) ∷ []
static_diags names file ids (Scopes (m ∷ ms)) = []

-- by what the name of its type means: where that is no type, it was said before
abbrev pub static_meant : LayoutOf → List (List ℕ) → ℕ → List Ident → Meaning → Rule (List DiagOf)
static_meant l names file ids (One t) = and_then (statics_of_type l file t (last_name ids)) (λ e. done (static_diags names file ids e))
static_meant l names file ids Nothing = done []
static_meant l names file ids Ambiguous = done []
static_meant l names file ids TooManyTypes = done []

-- a single static import; others bring what is asked of them
unfoldable pub static_check : LayoutOf → List (List ℕ) → ℕ → ImportTree → Rule (List DiagOf)
static_check l names file i = cond (i.is_static && not i.all) (and_then (import_rule l i) (λ r. static_meant l names file i.name r.meaning)) (done [])

-- several, behind the diagnostics so far
unfoldable pub statics_from : LayoutOf → List (List ℕ) → ℕ → List DiagOf → List ImportTree → Rule (List DiagOf)
statics_from l names file ds [] = done ds
statics_from l names file ds (i ∷ is) = and_then (static_check l names file i) (λ p. statics_from l names file (ds ++ p) is)

-- the imports of a file: each single static one is checked in turn
abbrev pub statics_rule : LayoutOf → List (List ℕ) → ℕ → List ImportTree → Rule (List DiagOf)
statics_rule l names file is = statics_from l names file [] is
