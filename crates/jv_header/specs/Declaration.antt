-- What is wrong with the declaration of a type itself (JLS 7.1, 7.6, 8.1, 8.1.1, 8.1.3, 8.5, 9.1.1, 9.5).
use Rattle.std.specs.Prelude.{ℕ, List, [], ◌∷◌, ◌++◌, Bool, false, not, cond, ◌&&◌, ◌||◌, Option, None, Some}
use Rattle.std.specs.List.{list_any}
use Rattle.sg_base.specs.declared.scope.Scope.{Scope}
use Rattle.jv_diag.specs.declared.codes.TheConstants.{DUPLICATE_TYPE, MODIFIERS, NAME_OF_ENCLOSING_TYPE, TYPE_AND_PACKAGE}
use Rattle.jv_diag.specs.Plain.{DiagOf, diagnostic, fault_if}
use Rattle.jv_layout.specs.Duplicates.{is_named, is_duplicate, has_subpackage}
use Rattle.jv_layout.specs.Folder.{LayoutOf, text_of, is_written}
use Rattle.jv_layout.specs.Readers.{file_of, package_of, owner_scope, is_interface_of, is_static_of}
use Rattle.jv_layout.specs.Titles.{title_of}
use Rattle.jv_layout.specs.Words.{has_repeat, has_two_accesses, has_other}
use Rattle.jv_tree.specs.declared.name.Ident.{Ident}
use Rattle.jv_tree.specs.declared.names.NameId.{NameId}
use Rattle.jv_names.specs.Bodies.{header_bodies}

-- ---- names

-- some type whose body encloses a type has this name
abbrev pub encloses_name : LayoutOf → NameId → Scope → Bool
encloses_name l n c = list_any (is_named l n) (header_bodies l c)

-- a top-level type has the name of a package that stands directly in its package
abbrev pub is_package_too : LayoutOf → Scope → NameId → Option Scope → Bool
is_package_too l c n None = has_subpackage l (package_of l c) n
is_package_too l c n (Some d) = false

-- ---- modifiers, by the numbers of their keywords: abstract 0, final 17, private 32, protected 33, public 34, static 37

-- the modifiers that may stand at a type with this owner: at the top public, abstract and final, in an interface static too, and in a class all six
abbrev pub of_types : LayoutOf → Option Scope → List ℕ
of_types l None = 34 ∷ 0 ∷ 17 ∷ []
of_types l (Some d) = cond (is_interface_of l d) (34 ∷ 37 ∷ 0 ∷ 17 ∷ []) (34 ∷ 33 ∷ 32 ∷ 37 ∷ 0 ∷ 17 ∷ [])

-- a static type stands in an inner class, which is a member class that is not static
abbrev pub is_static_in_inner : LayoutOf → Scope → Option Scope → Bool
is_static_in_inner l c None = false
is_static_in_inner l c (Some d) = is_static_of l c && not (is_static_of l d)

-- the modifiers of a type cannot stand: one is there twice, two say the access, one is not allowed there, an interface is final, a type is abstract
-- and final, or a member of an inner class is static
abbrev pub has_bad_modifiers : LayoutOf → Scope → List ℕ → Bool
has_bad_modifiers l c ws =
    has_repeat ws || (has_two_accesses ws || (has_other (of_types l (owner_scope l c)) ws || ((is_interface_of l c && is_written 17 ws)
    || ((is_written 0 ws && is_written 17 ws) || is_static_in_inner l c (owner_scope l c)))))

-- ---- the whole

-- the diagnostics of the declaration of a type: a second type of its name in its package or type, the name of a package, the name of an enclosing
-- type, and its modifiers
abbrev pub declared_diags : LayoutOf → List (List ℕ) → Scope → Ident → List ℕ → List DiagOf
declared_diags l names c name ws =
    fault_if (is_duplicate l c) (diagnostic (file_of l c) name.at DUPLICATE_TYPE (title_of l names c ∷ []))
    ++ (fault_if (is_package_too l c name.id (owner_scope l c)) (diagnostic (file_of l c) name.at TYPE_AND_PACKAGE (text_of names name.id.0 ∷ []))
    ++ (fault_if (encloses_name l name.id c) (diagnostic (file_of l c) name.at NAME_OF_ENCLOSING_TYPE (text_of names name.id.0 ∷ []))
    ++ fault_if (has_bad_modifiers l c ws) (diagnostic (file_of l c) name.at MODIFIERS (text_of names name.id.0 ∷ []))))
