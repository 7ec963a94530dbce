use Rattle.std.proofs.Common.{◌≡◌, map, take}
use Rattle.jv_layout.specs.Keys.{member_key}
use Rattle.jv_layout.proofs.tables.Layout.member_keys.Given as goal

abbrev pub invariant-loop-m : goal.invariant-loop-m
invariant-loop-m l = l.keys.items ≡ map (member_key l.self) (take l.m l.self.members)
