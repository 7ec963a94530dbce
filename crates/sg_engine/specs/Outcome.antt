-- What an advance comes to, by its answer and what it leaves.
use Rattle.std.specs.Prelude.{◌≡◌, List, [], Bool, ◌↔◌, Option, Some, None}
use Rattle.std.specs.List.{Contains}
use Rattle.sg_base.specs.declared.mark.Mark.{Mark}
use Rattle.sg_base.specs.declared.scope.Scope.{Scope}
use Rattle.sg_base.specs.List.{IsRising}
use Rattle.sg_expr.specs.Tree.{ExprOf}
use Rattle.sg_query.specs.declared.answer.Answer.{Answer}
use Rattle.sg_state.specs.declared.need.Need.{Need}
use Rattle.sg_engine.specs.declared.progress.Progress.{Progress}
use Rattle.sg_engine.specs.declared.progress.Progress.TheVariants.{Moved, Blocked, Ready}
use Rattle.sg_engine.specs.declared.tree.Tree.{Tree}
use Rattle.sg_engine.specs.declared.work.Work.{Work}
use Rattle.sg_engine.specs.Need.{need_of}
use Rattle.sg_state.specs.Need.{need_cmp}
use Rattle.sg_engine.specs.Search.{AnswersBy}
use Rattle.sg_engine.specs.Tree.{paths_of, item_of, front_of, AreNodes}

-- Moved: nothing. Blocked: the rising list of what the work that was put aside waits for. Ready: the answer by what was found
abbrev pub IsOutcome : {D : Type 0} → (D → D → Bool) → (Mark → Mark → Bool) → Tree D → Progress → List Need → Option (Answer D) → Type 0
IsOutcome same order t Moved needs answer = (needs ≡ []) × (answer ≡ None)
IsOutcome same order t Blocked needs answer =
    (answer ≡ None) × IsRising need_cmp needs × ((e : ExprOf) (start : Scope) → AreNodes e start t.nodes.items → (n : Need) → (Contains needs n) ↔ ((w : Work) × Contains t.blocked.items w × (n ≡ need_of start (item_of (paths_of t.nodes.items) w))))
IsOutcome {D} same order t Ready needs answer = (needs ≡ []) × ((a : Answer D) × (answer ≡ Some a) × AnswersBy same order (front_of t) a)
