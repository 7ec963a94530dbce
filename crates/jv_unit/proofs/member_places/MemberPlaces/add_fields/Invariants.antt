use Rattle.std.proofs.Common.{◌≡◌, ◌++◌, map}
use Rattle.std.specs.List.{range_with_len}
use Rattle.jv_unit.specs.MemberPlaces.{in_body}
use Rattle.jv_unit.proofs.member_places.MemberPlaces.add_fields.Given as goal

abbrev pub invariant-loop-variable : goal.invariant-loop-variable
invariant-loop-variable l = record {
  places : l.self.places.items ≡ l.initial.self.places.items ++ map (in_body l.owner l.place) (range_with_len 0 l.variable);
  types : l.self.types ≡ l.initial.self.types;
}
