-- Searches as callers see them, and what an advance does.
use Rattle.std.specs.Prelude.{◌≡◌, ◌≢◌, ◌+◌, ◌<◌, ◌≤◌, List, [], Bool, ◌⊎◌, Option, Some, Result, IfOk, length}
use Rattle.std.specs.List.{Contains}
use Rattle.sg_base.specs.declared.mark.Mark.{Mark}
use Rattle.sg_base.specs.List.{IsRising, MoreThan}
use Rattle.sg_base.specs.State.{State}
use Rattle.sg_expr.specs.Tree.{ExprOf}
use Rattle.sg_query.specs.declared.answer.Answer.{Answer}
use Rattle.sg_query.specs.declared.answer.Answer.TheVariants.{Paths, TooMany}
use Rattle.sg_query.specs.declared.query.Query.{Query}
use Rattle.sg_query.specs.Answer.{most_paths, found_cmp, IsAnswer}
use Rattle.sg_query.specs.Query.{Asked, KindOf, kind_of}
use Rattle.sg_query.specs.Shadow.{AreUnshadowed}
use Rattle.sg_query.specs.State.{Item, IsItem, IsSettled}
use Rattle.sg_state.specs.declared.need.Need.{Need}
use Rattle.sg_state.specs.Held.{HeldOf}
use Rattle.sg_engine.specs.declared.progress.Progress.{Progress}
use Rattle.sg_engine.specs.declared.progress.Progress.TheVariants.{Moved, Blocked, Ready}
use Rattle.sg_engine.specs.Front.{Front, IsBlocked, AllBlocked}
use Rattle.sg_engine.specs.Keyed.{Wanting, PassesOver, KeepsPassing, IsKeyedItem}
use Rattle.sg_engine.specs.Need.{AreNeeds}

-- a search: its query, the expression of the words that it follows, its front, and, where the last advance was blocked or ready, what blocked it
-- or the answer
pub record SearchOf (P D : Type 0) : Type 0 where
  pub query : Query P
  pub expr : ExprOf
  pub front : Front D
  pub needs : List Need
  pub answer : Option (Answer D)

-- the search follows the expression of the kind that its query names in this table
pub record IsOfTable {P D : Type 0} (kinds : List KindOf) (s : SearchOf P D) : Type 0 where
  pub kind : s.query.kind < length kinds
  pub expr : s.expr ≡ (kind_of kinds s.query.kind).expr

-- the answer by what a front found: too many of its paths go on, or the rising list of the paths that no other found path shadows
abbrev pub AnswersBy : {D : Type 0} → (D → D → Bool) → (Mark → Mark → Bool) → Front D → Answer D → Type 0
AnswersBy same order f TooMany = most_paths < f.going
AnswersBy same order f (Paths fs) = (f.going ≤ most_paths) × IsRising found_cmp fs × AreUnshadowed same order f.found fs

-- what an advance from the old search to the new one answers in a state; at most 64 items are explored.
-- Ready: no item is left, or too many paths go on; the query is settled, and its answer was built.
-- Blocked: otherwise, where each item left is blocked; the query is not settled, and the needs are what blocks it.
-- Moved: otherwise, where 64 items were explored and one is left that is not blocked; so the query has more items than were explored.
abbrev pub IsProgress : {P D : Type 0} → State D → Asked D → SearchOf P D → SearchOf P D → Progress → Type 0
IsProgress {P} {D} h q old new Ready =
    (new.front.explored ≤ old.front.explored + 64) × ((new.front.left ≡ []) ⊎ (most_paths < new.front.going)) × IsSettled h q × ((a : Answer D) × (new.answer ≡ Some a) × IsAnswer h.graph q a)
IsProgress h q old new Blocked =
    (new.front.explored ≤ old.front.explored + 64) × (new.front.left ≢ []) × AllBlocked h q new.front × (new.front.going ≤ most_paths) × (IsSettled h q → ⊥) × AreNeeds h q new.needs
IsProgress h q old new Moved =
    (new.front.explored ≡ old.front.explored + 64) × ((x : Item) × Contains new.front.left x × (IsBlocked h q.start x → ⊥)) × (new.front.going ≤ most_paths) × MoreThan new.front.explored (IsItem h q)

-- by what each predicate wants and what each query asks: where none of the old search's paths is passed over, none of the new one's is
abbrev pub SearchKeepsPassing : {P D : Type 0} → HeldOf D → (P → Wanting D) → (Query P → Asked D) → SearchOf P D → SearchOf P D → Type 0
SearchKeepsPassing h wanting asking old new =
    KeepsPassing h (wanting old.query.pred) (asking old.query) old.front.paths new.front.paths

-- where none of the old search's paths is passed over, an advance that moved has explored fewer items than the query has, without those that are
-- passed over
abbrev pub ExploresFewer : {P D E : Type 0} → HeldOf D → (P → Wanting D) → (Query P → Asked D) → SearchOf P D → SearchOf P D → Result Progress E → Type 0
ExploresFewer h wanting asking old new result =
    PassesOver h (wanting old.query.pred) (asking old.query) old.front.paths → IfOk result (λ p. p ≡ Moved → MoreThan new.front.explored (IsKeyedItem h (wanting old.query.pred) (asking old.query)))
