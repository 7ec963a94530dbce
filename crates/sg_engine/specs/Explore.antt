-- What the exploring of an item does to a tree, for each query whose search stands there.
use Rattle.std.specs.Prelude.{◌≡◌, ℕ, List, Bool, Option, Some, Result, OnOk}
use Rattle.sg_base.specs.declared.scope.Scope.{Scope}
use Rattle.sg_base.specs.PathTree.{path_at}
use Rattle.sg_base.specs.State.{State}
use Rattle.sg_expr.specs.Tree.{ExprOf}
use Rattle.sg_query.specs.Query.{Asked}
use Rattle.sg_state.specs.Held.{HeldOf, state_of}
use Rattle.sg_engine.specs.declared.tree.Tree.{Tree}
use Rattle.sg_engine.specs.declared.work.Work.{Work}
use Rattle.sg_engine.specs.Front.{Stands}
use Rattle.sg_engine.specs.Growth.{Gains, into_targets}
use Rattle.sg_engine.specs.Keyed.{Wanting, wanting_by, AreKeyedTargets, KeepsPassing}
use Rattle.sg_engine.specs.Tree.{paths_of, front_of, IsTree, IsTreeWith, StandsWith}

-- each query that starts where the tree does, wants these data, and whose search stood before this work was taken, has this property, where the
-- call did not fail
abbrev pub AfterWork : {D T E : Type 0} → State D → (D → Bool) → Work → Tree D → Result T E → (Asked D → Type 0) → Type 0
AfterWork {D} h wants w t result P =
    (q : Asked D) → q.start ≡ t.start → q.wants ≡ wants → IsTreeWith q.expr w t → StandsWith h q w t → OnOk result (P q)

-- after this work each such search stands in the new tree, and passes over what it is to pass over where it did so in the old one
abbrev pub TakesWork : {D T E : Type 0} → HeldOf D → Wanting D → Work → Tree D → Tree D → Result T E → Type 0
TakesWork h k w old new result =
    AfterWork (state_of h) k.wants w old result (λ q. IsTree q.expr new × Stands (state_of h) q (front_of new) × KeepsPassing h k q (paths_of old.nodes.items) (paths_of new.nodes.items))

-- along the words of each expression along which the old tree goes, the new one has the path at this place with one more step to each of some
-- scopes, which have this property, where the call did not fail
abbrev pub GrowsIntoRow : {D T E : Type 0} → Tree D → Tree D → ℕ → ℕ → Result T E → (ExprOf → List Scope → Type 0) → Type 0
GrowsIntoRow old new place l result P =
    (e : ExprOf) → IsTree e old → OnOk result (IsTree e new × ((ts : List Scope) × Gains e (front_of old) (front_of new) (into_targets old.start (path_at (paths_of old.nodes.items) place) l ts) × P e ts))

-- these are targets that are enough to look at, for each query along this expression that starts where the tree does and wants these data
abbrev pub AreTargetsFor : {D : Type 0} → HeldOf D → Wanting D → Tree D → ℕ → ℕ → ExprOf → List Scope → Type 0
AreTargetsFor {D} h k t place l e ts =
    (q : Asked D) → q.expr ≡ e → q.start ≡ t.start → q.wants ≡ k.wants → AreKeyedTargets h k q (path_at (paths_of t.nodes.items) place) l ts

-- the same for each predicate whose data have this key
abbrev pub AreTargetsUnder : {P D : Type 0} → (P → D → Bool) → (D → ℕ) → (P → Option ℕ) → HeldOf D → ℕ → Tree D → ℕ → ℕ → ExprOf → List Scope → Type 0
AreTargetsUnder {P} {D} wants datum_key pred_key h key t place l e ts =
    (q : Asked D) (p : P) → q.expr ≡ e → q.start ≡ t.start → q.wants ≡ wants p → pred_key p ≡ Some key → AreKeyedTargets h (wanting_by wants datum_key pred_key p) q (path_at (paths_of t.nodes.items) place) l ts
