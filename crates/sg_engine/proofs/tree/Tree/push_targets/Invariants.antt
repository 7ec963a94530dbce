use Rattle.std.proofs.Common.{◌≡◌, take}
use Rattle.sg_base.specs.PathTree.{path_at}
use Rattle.sg_expr.specs.Tree.{ExprOf}
use Rattle.sg_engine.specs.Growth.{Gains, into_targets}
use Rattle.sg_engine.specs.Tree.{paths_of}
use Rattle.sg_engine.specs.Tree.{front_of, IsTree, ListsOn}
use Rattle.sg_engine.proofs.tree.Tree.push_targets.Given as goal

abbrev pub invariant-loop-t : goal.invariant-loop-t
invariant-loop-t g l =
    ((e : ExprOf) → IsTree e l.initial.self → IsTree e l.self × Gains e (front_of l.initial.self) (front_of l.self) (into_targets l.initial.self.start (path_at (paths_of l.initial.self.nodes.items) l.place) l.l (take l.t-index l.row)))
    × (l.self.next ≡ l.initial.self.next) × (l.self.explored ≡ l.initial.self.explored) × (l.self.blocked ≡ l.initial.self.blocked) × ListsOn l.initial.self l.self × (l.self.nodes.words ≡ l.initial.self.nodes.words)
