-- The paths that arrive, without those that others shadow, are the visible ones; and a query has one answer at most.
use Rattle.std.proofs.Common.{◌≡◌, List, Bool, refl, sym, subst, ap, ◌∙◌}
use Rattle.std.specs.List.{Contains}
use Rattle.sg_base.specs.declared.scope.Scope.{Scope}
use Rattle.sg_base.specs.declared.step.Step.{Step}
use Rattle.sg_base.specs.Graph.{GraphOf}
use Rattle.sg_base.specs.List.{IsRising, MoreThan}
use Rattle.sg_base.proofs.Rising.{rising_one}
use Rattle.sg_expr.specs.Tree.{ExprOf, expr_of}
use Rattle.sg_order.specs.Order.{precedes}
use Rattle.sg_query.specs.declared.answer.Answer.{Answer}
use Rattle.sg_query.specs.declared.answer.Answer.TheVariants.{Paths, TooMany}
use Rattle.sg_query.specs.declared.found.Found.{Found}
use Rattle.sg_query.specs.declared.kind.Kind.{Kind}
use Rattle.sg_query.specs.declared.query.Query.{Query}
use Rattle.sg_query.specs.Answer.{most_paths, Reaches, HoldsVisible, IsAnswer, found_cmp}
use Rattle.sg_query.specs.Law.{AnswersAreOne}
use Rattle.sg_query.specs.Query.{Asked, KindOf, value_of_kind, kind_of, asked}
use Rattle.sg_query.specs.Shadow.{AreUnshadowed}
use Rattle.sg_query.specs.Walk.{IsArrived, AreArrived, GoesOnFrom}
use Rattle.sg_query.proofs.Sorting.{found_total}

module _ {D : Type 0} (g : GraphOf D) (q : Asked D) where
  pub reaches_from : (ps : List Step) (d : D) → IsArrived g q.expr q.wants q.start ps d → Reaches g q ps d
  reaches_from ps d a = record { path = a.0; word = (a.1).0; datum = (a.1).1; wanted = (a.1).2 }

  pub reaches_to : (ps : List Step) (d : D) → Reaches g q ps d → IsArrived g q.expr q.wants q.start ps d
  reaches_to ps d m = (m.path, (m.word, m.datum, m.wanted))

  pub visible_paths : (all r : List (Found D)) → AreArrived g q.expr q.wants q.start all → AreUnshadowed q.same q.order all r → HoldsVisible g q r
  visible_paths all r holds shown f = (
    (λ c.
        let h = (shown f).0 c in
        let a = (holds.arrived f).0 h.0 in (
          a.0,
          record {
            reached = reaches_from f.path.steps f.datum a.1;
            unshadowed = λ qs e m s b.
                let other : Found D = record { path = record { start = q.start; steps = qs }; datum = e } in
                h.1 (other, (holds.arrived other).1 (refl, reaches_to qs e m), s, b);
          },
        )),
    (λ v.
        (shown f).1 ((holds.arrived f).1 (v.0, reaches_to f.path.steps f.datum (v.1).reached), (λ h. (v.1).unshadowed (h.0).path.steps (h.0).datum (reaches_from (h.0).path.steps (h.0).datum ((holds.arrived h.0).0 h.1).1) h.2 h.3))),
  )

  one : (a b : Answer D) → IsAnswer g q a → IsAnswer g q b → a ≡ b
  one TooMany TooMany x y = refl
  one TooMany (Paths fs) x y = absurd (y.0 x)
  one (Paths fs) TooMany x y = absurd (x.0 y)
  one (Paths fs) (Paths hs) x y =
      ap (λ (t : List (Found D)). Paths t) (rising_one found_cmp found_total fs hs x.1.rising y.1.rising
      (λ f. ((λ c. (y.1.visible f).1 ((x.1.visible f).0 c)), (λ c. (x.1.visible f).1 ((y.1.visible f).0 c)))))

-- the answer by the paths that a walk along a kind's words found
module _ {P D : Type 0} (g : GraphOf D) (wants : P → D → Bool) (same : D → D → Bool) (kinds : List KindOf) (q : Query P) (k : Kind) (is : value_of_kind k ≡ kind_of kinds q.kind) where
  pub answer_many : MoreThan most_paths (GoesOnFrom g (expr_of k.expr) q.start) → IsAnswer g (asked wants same kinds q) TooMany
  answer_many m = subst (λ (t : KindOf). MoreThan most_paths (GoesOnFrom g t.expr q.start)) is m

  pub answer_paths : (all r : List (Found D)) → (MoreThan most_paths (GoesOnFrom g (expr_of k.expr) q.start) → ⊥) → AreArrived g (expr_of k.expr) (wants q.pred) q.start all → IsRising found_cmp r → AreUnshadowed same (precedes k.order) all r → IsAnswer g (asked wants same kinds q) (Paths r)
  answer_paths all r few holds rising shown =
      let arrived = subst (λ (t : KindOf). AreArrived g t.expr (wants q.pred) q.start all) is holds in
      let left = subst (λ (t : KindOf). AreUnshadowed same (precedes t.order) all r) is shown in (
        subst (λ (t : KindOf). MoreThan most_paths (GoesOnFrom g t.expr q.start) → ⊥) is few,
        record { rising = rising; visible = visible_paths g (asked wants same kinds q) all r arrived left },
      )

-- paths that arrive begin at the start
pub all_start : {D : Type 0} (g : GraphOf D) (e : ExprOf) (wants : D → Bool) (start : Scope) (all : List (Found D)) → AreArrived g e wants start all → (f : Found D) → Contains all f → f.path.start ≡ start
all_start g e wants start all holds f c = ((holds.arrived f).0 c).0

pub answers_are_one : (D : Type 0) → AnswersAreOne D
answers_are_one D g q a b x y = one g q a b x y
