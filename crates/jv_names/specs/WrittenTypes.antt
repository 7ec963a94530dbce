-- Types as they are written, and what they mean at a place (JLS 4.2, 4.3, 6.5.5, 10.1).
use Rattle.std.specs.Prelude.{ℕ, List, []}
use Rattle.sg_base.specs.declared.scope.Scope.{Scope}
use Rattle.sg_reading.specs.Reading.{done, and_then}
use Rattle.jv_instance.specs.declared.type_base.TypeBase.{TypeBase}
use Rattle.jv_instance.specs.declared.type_base.TypeBase.TheVariants.{Boolean, Char, Int, Long, Class, Void, Bad}
use Rattle.jv_layout.specs.Folder.{LayoutOf}
use Rattle.jv_tree.specs.declared.name.Ident.{Ident}
use Rattle.jv_tree.specs.TypeTree.{BaseTree, boolean, char, int, long, void, named, TypeTree}
use Rattle.jv_names.specs.declared.meaning.Meaning.{Meaning}
use Rattle.jv_names.specs.declared.meaning.Meaning.TheVariants.{One, Nothing, Ambiguous, TooMany}
use Rattle.jv_names.specs.declared.reference.Reference.{Reference}
use Rattle.jv_names.specs.declared.written_type.WrittenType.{WrittenType}
use Rattle.jv_names.specs.Reference.{reference, reference_diags}
use Rattle.jv_names.specs.Replies.{Rule}

-- the base that a name means: a class or an interface, and else a bad one
abbrev pub meant_base : Meaning → TypeBase
meant_base (One s) = Class s
meant_base Nothing = Bad
meant_base Ambiguous = Bad
meant_base TooMany = Bad

-- a type without a name, which has no diagnostic
abbrev pub plain_written : TypeBase → ℕ → WrittenType
plain_written b dims = record { ty = record { base = b; dims = dims }; diags = [] }

-- a type with a name, by what that means
abbrev pub named_written : LayoutOf → List (List ℕ) → ℕ → List Ident → ℕ → Reference → WrittenType
named_written l names file ids dims r = record { ty = record { base = meant_base r.meaning; dims = dims }; diags = reference_diags l names file ids r }

-- a base that is written, with so many pairs of brackets
abbrev pub written_base : LayoutOf → List (List ℕ) → ℕ → List Scope → ℕ → BaseTree → Rule WrittenType
written_base l names file bodies dims boolean = done (plain_written Boolean dims)
written_base l names file bodies dims char = done (plain_written Char dims)
written_base l names file bodies dims int = done (plain_written Int dims)
written_base l names file bodies dims long = done (plain_written Long dims)
written_base l names file bodies dims void = done (plain_written Void dims)
written_base l names file bodies dims (named ids) = and_then (reference l file bodies ids) (λ r. done (named_written l names file ids dims r))

-- a type that is written at a place of a file, within these bodies, innermost first
unfoldable pub written_type : LayoutOf → List (List ℕ) → ℕ → List Scope → TypeTree → Rule WrittenType
written_type l names file bodies t = written_base l names file bodies t.dims t.base
