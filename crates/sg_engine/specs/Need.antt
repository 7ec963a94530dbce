-- What blocks a query, in order.
use Rattle.std.specs.Prelude.{◌≡◌, List, ◌↔◌}
use Rattle.std.specs.List.{Contains}
use Rattle.sg_base.specs.declared.scope.Scope.{Scope}
use Rattle.sg_base.specs.List.{IsRising}
use Rattle.sg_base.specs.Path.{end_of}
use Rattle.sg_base.specs.State.{State}
use Rattle.sg_expr.specs.Tree.{ExprOf}
use Rattle.sg_query.specs.Query.{Asked}
use Rattle.sg_query.specs.State.{Item, next, whole, RowBlocks, DatumBlocks}
use Rattle.sg_state.specs.declared.need.Need.{Need}
use Rattle.sg_state.specs.declared.need.Need.TheVariants.{Row, Datum}
use Rattle.sg_state.specs.Need.{need_cmp}
use Rattle.sg_engine.specs.declared.work.Work.{Work}
use Rattle.sg_engine.specs.Nodes.{NodeOf as Node}
use Rattle.sg_engine.specs.Tree.{paths_of, item_of, AreNodes}

-- the row or the datum blocks the query
abbrev pub NeedBlocks : {D : Type 0} → State D → Asked D → Need → Type 0
NeedBlocks h q (Row s l) = RowBlocks h q s l
NeedBlocks h q (Datum s) = DatumBlocks h q s

-- what an item that is blocked waits for
abbrev pub need_of : Scope → Item → Need
need_of start (next ps l) = Row (end_of start ps) l
need_of start (whole ps) = Datum (end_of start ps)

-- the list holds exactly what the items of this work wait for, by the paths of the nodes
abbrev pub AreNeedsOf : List Node → List Work → List Need → Type 0
AreNeedsOf nodes blocked needs =
    (e : ExprOf) (start : Scope) → AreNodes e start nodes → (n : Need) → (Contains needs n) ↔ ((w : Work) × Contains blocked w × (n ≡ need_of start (item_of (paths_of nodes) w)))

-- the rising list of all that blocks the query
pub record AreNeeds {D : Type 0} (h : State D) (q : Asked D) (needs : List Need) : Type 0 where
  pub rising : IsRising need_cmp needs
  pub exact : (n : Need) → (Contains needs n) ↔ (NeedBlocks h q n)
