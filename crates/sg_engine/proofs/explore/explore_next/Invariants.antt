use Rattle.std.proofs.Common.{List, ◌≡◌, ◌-◌, length}
use Rattle.sg_base.specs.declared.step.Step.{Step}
use Rattle.sg_query.specs.Query.{Asked}
use Rattle.sg_state.specs.Held.{state_of}
use Rattle.sg_engine.specs.Keyed.{wanting_by}
use Rattle.sg_engine.specs.Run.{IsSearchIn, KeepsBlocked}
use Rattle.sg_engine.specs.Tree.{ListsOn}
use Rattle.sg_engine.proofs.explore.explore_next.Given as goal

abbrev pub invariant-loop-tree : goal.invariant-loop-tree
invariant-loop-tree g l =
    ((q : Asked g.row.I-Datum.Denot) (ps : List (List Step)) → IsSearchIn l.h (wanting_by g.I.Instance.wants g.I.Instance.datum_key g.I.Instance.pred_key l.pred) ps q l.initial.tree → IsSearchIn l.h (wanting_by g.I.Instance.wants g.I.Instance.datum_key g.I.Instance.pred_key l.pred) ps q l.tree)
    × ListsOn l.initial.tree l.tree
    × KeepsBlocked (state_of l.h) l.initial.tree l.tree
    × (l.tree.explored ≡ l.initial.tree.explored) × (l.tree.going ≡ l.initial.tree.going)

abbrev pub decreases-loop-tree : goal.decreases-loop-tree
decreases-loop-tree g l = length l.tree.queue.items - l.tree.next
