use Rattle.std.proofs.Common.{◌≡◌, ◌++◌, map, drop}
use Rattle.jv_tree.specs.DeclTree.{tree_of}
use Rattle.jv_unit.specs.MemberPlaces.{places_from}
use Rattle.jv_unit.proofs.member_places.MemberPlaces.of.Given as goal

abbrev pub invariant-loop-unit : goal.invariant-loop-unit
invariant-loop-unit l = l.places.places.items ++ places_from l.places.types (map tree_of (drop l.unit-index l.files)) ≡ places_from 0 (map tree_of l.files)
