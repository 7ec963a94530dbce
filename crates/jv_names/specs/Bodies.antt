-- The types whose bodies enclose a place.
use Rattle.std.specs.Prelude.{ℕ, zero, suc, List, [], ◌∷◌, length, Option, None, Some}
use Rattle.sg_base.specs.declared.scope.Scope.{Scope}
use Rattle.jv_layout.specs.Folder.{LayoutOf}
use Rattle.jv_layout.specs.Readers.{owner_scope}

-- a type and those whose bodies enclose it, innermost first; as many as the first number at most
abbrev pub outward : LayoutOf → ℕ → Option Scope → List Scope
outward l zero o = []
outward l (suc k) None = []
outward l (suc k) (Some t) = t ∷ outward l k (owner_scope l t)

-- the bodies around the header of a type, innermost first: the type's own is none of them; no more types enclose it than there are
abbrev pub header_bodies : LayoutOf → Scope → List Scope
header_bodies l c = outward l (length l.types) (owner_scope l c)

-- the bodies around what stands in the body of a type
abbrev pub member_bodies : LayoutOf → Scope → List Scope
member_bodies l c = c ∷ header_bodies l c
