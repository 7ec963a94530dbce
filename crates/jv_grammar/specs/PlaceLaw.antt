-- What terminals that rise by place imply: a tree that derives from them lists what it declares by place.
use Rattle.std.specs.Prelude.{List}
use Rattle.std.specs.List.Sorted.{IsStrictlyIncreasing}
use Rattle.jv_tree.specs.DeclTree.{UnitTree}
use Rattle.jv_grammar.specs.declared.terminal.Terminal.{Terminal}
use Rattle.jv_grammar.specs.DeclGrammar.{Derives}
use Rattle.jv_grammar.specs.Places.{RiseByPlace, type_places, member_places}

-- all types of a file, nested ones too, rise by the places of their names
abbrev pub TypesRiseByPlace : Type 0
TypesRiseByPlace = (ts : List Terminal) (u : UnitTree) → RiseByPlace ts → Derives ts u → IsStrictlyIncreasing (type_places u)

-- all members of a file rise by place, and so do those of each type
abbrev pub MembersRiseByPlace : Type 0
MembersRiseByPlace = (ts : List Terminal) (u : UnitTree) → RiseByPlace ts → Derives ts u → IsStrictlyIncreasing (member_places u)
