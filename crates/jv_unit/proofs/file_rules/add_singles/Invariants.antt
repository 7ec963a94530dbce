use Rattle.std.proofs.Common.{◌≡◌, ◌++◌, map, take}
use Rattle.jv_instance.specs.declared.labels.TheConstants.{SIMP}
use Rattle.sg_script.specs.declared.write.Write.TheVariants.{AddEdge}
use Rattle.jv_unit.proofs.file_rules.add_singles.Given as goal

abbrev pub invariant-loop-to : goal.invariant-loop-to
invariant-loop-to l = l.writes ≡ l.initial.writes ++ map (λ p. AddEdge l.from SIMP p.1) (take l.to-index l.singles)
