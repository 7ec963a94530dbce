use Rattle.std.proofs.Common.{◌≡◌, ◌++◌, map, take}
use Rattle.sg_script.specs.declared.write.Write.TheVariants.{AddEdge}
use Rattle.jv_unit.proofs.type_rules.add_edges.Given as goal

abbrev pub invariant-loop-to : goal.invariant-loop-to
invariant-loop-to l = l.writes ≡ l.initial.writes ++ map (AddEdge l.from l.label) (take l.to-index l.targets)
