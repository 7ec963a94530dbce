use Rattle.std.proofs.Common.{◌≡◌, map, take}
use Rattle.jv_layout.specs.Keys.{type_key}
use Rattle.jv_layout.proofs.tables.Layout.type_keys.Given as goal

abbrev pub invariant-loop-t : goal.invariant-loop-t
invariant-loop-t l = l.keys.items ≡ map (type_key l.self) (take l.t l.self.types)
