use Rattle.std.proofs.Common.{List, ◌≡◌, ◌+◌}
use Rattle.sg_base.specs.declared.step.Step.{Step}
use Rattle.sg_query.specs.Query.{Asked}
use Rattle.sg_state.specs.Held.{state_of}
use Rattle.sg_engine.specs.Keyed.{wanting_by}
use Rattle.sg_engine.specs.Run.{IsSearchIn}
use Rattle.sg_engine.specs.Tree.{AllBlock, ListsOn}
use Rattle.sg_engine.proofs.run.run_on.Given as goal

abbrev pub invariant-loop-n : goal.invariant-loop-n
invariant-loop-n g l =
    ((q : Asked g.row.I-Datum.Denot) (ps : List (List Step)) → IsSearchIn l.h (wanting_by g.I.Instance.wants g.I.Instance.datum_key g.I.Instance.pred_key l.pred) ps q l.initial.tree → IsSearchIn l.h (wanting_by g.I.Instance.wants g.I.Instance.datum_key g.I.Instance.pred_key l.pred) ps q l.tree)
    × ListsOn l.initial.tree l.tree
    × (AllBlock (state_of l.h) l.initial.tree.start l.initial.tree.nodes.items l.initial.tree.blocked.items → AllBlock (state_of l.h) l.tree.start l.tree.nodes.items l.tree.blocked.items)
    × (l.tree.explored ≡ l.initial.tree.explored + l.n)
