use Rattle.std.proofs.Common.{◌≡◌, take, map}
use Rattle.sg_base.specs.declared.scope.Scope.{Scope}
use Rattle.sg_script.specs.declared.write.Write.TheVariants.{AddEdge}
use Rattle.sg_small.proofs.reader.row_writes.Given as goal

abbrev pub invariant-loop-to : goal.invariant-loop-to
invariant-loop-to l = l.writes ≡ map (λ (t : Scope). AddEdge l.from 0 t) (take l.to-index l.to-items)
