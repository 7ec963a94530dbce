-- Types as they are written, without memory.
use Rattle.std.specs.Prelude.{ℕ, List}
use Rattle.jv_tree.specs.declared.name.Ident.{Ident}
use Rattle.jv_tree.specs.declared.name.Name.{Name}
use Rattle.jv_tree.specs.declared.type_ref.Base.{Base}
use Rattle.jv_tree.specs.declared.type_ref.Base.TheVariants.{Boolean, Char, Int, Long, Void, Named}
use Rattle.jv_tree.specs.declared.type_ref.TypeRef.{TypeRef}

-- a type without its brackets
pub data BaseTree : Type 0 where
  boolean : BaseTree
  char : BaseTree
  int : BaseTree
  long : BaseTree
  void : BaseTree
  named : List Ident → BaseTree

-- where a type starts, what it is, and how many pairs of brackets it has
pub record TypeTree : Type 0 where
  pub at : ℕ
  pub base : BaseTree
  pub dims : ℕ

-- the identifiers of a name
abbrev pub ids_of : Name → List Ident
ids_of n = n.ids.items

-- the pure tree of a type without its brackets
abbrev pub base_tree : Base → BaseTree
base_tree Boolean = boolean
base_tree Char = char
base_tree Int = int
base_tree Long = long
base_tree Void = void
base_tree (Named n) = named (ids_of n)

-- the pure tree of a type
abbrev pub type_tree : TypeRef → TypeTree
type_tree t = record { at = t.at; base = base_tree t.base; dims = t.dims }
