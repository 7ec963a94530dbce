use Rattle.std.proofs.Common.{◌∷◌, ◌⊎◌, ◌↔◌, inl, inr, sym}
use Rattle.std.proofs.lemmas.Result.{IfOk-weaker}
use Rattle.sg_expr.specs.declared.expr.Expr.{Expr}
use Rattle.sg_base.specs.Label.{Word}
use Rattle.sg_expr.specs.Tree.{expr_of}
use Rattle.sg_expr.specs.Word.{In, Splits, Chain}
use Rattle.sg_expr.proofs.WordLemmas.{nil-Splits, Splits-cons, cons-Splits, Splits-map, Chain-cons, cons-Chain, Chain-map, In-along}
use Rattle.sg_expr.proofs.expr.Expr.+after.Goals as goal

pub returns-in_ok-behind-in-Seq : goal.returns-in_ok-behind-in-Seq
returns-in_ok-behind-in-Seq t c =
    let begun = rw c.deref.ensures at c.in_ok-begun-in-Seq.ensures in
    let rest = rw c.deref-in-Seq.ensures at c.in_ok-rest-in-Seq.ensures in
    let inside = c.in_ok-inside-in-Seq.ensures in
    let null = rw c.deref-in-Seq-2.ensures at (c.nullable.ensures.0 c.if-nullable.true) in
    let behind = rw c.deref-then-nullable.ensures at c.in_ok-behind-in-Seq.ensures in
    rw c.in-Seq.is (IfOk-weaker c.alt.result
    (λ (r : Expr). (w : Word) → (In (expr_of r) w) ↔ (In (expr_of c.in_ok-inside-in-Seq.inside) w ⊎ In (expr_of c.in_ok-behind-in-Seq.behind) w))
    (λ (r : Expr). (w : Word) → (In (expr_of r) w) ↔ (Splits (In (expr_of c.in-Seq.first.value)) (In (expr_of c.in-Seq.second.value)) (c.args.l ∷ w)))
    (λ r h w. (
      (λ i. elim ((h w).0 i) [
        | inl k ↦ cons-Splits (In (expr_of c.in-Seq.first.value)) (In (expr_of c.in-Seq.second.value)) c.args.l w
            (Splits-map (In (expr_of c.in_ok-begun-in-Seq.begun)) (In (expr_of c.in_ok-rest-in-Seq.rest)) (λ (x : Word). In (expr_of c.in-Seq.first.value) (c.args.l ∷ x)) (In (expr_of c.in-Seq.second.value)) (λ v. (begun v).0) (In-along (expr_of c.in_ok-rest-in-Seq.rest) (expr_of c.in-Seq.second.value) rest) w ((inside w).0 k))
        | inr k ↦ nil-Splits (In (expr_of c.in-Seq.first.value)) (In (expr_of c.in-Seq.second.value)) (c.args.l ∷ w) null ((behind w).0 k)
      ]),
      (λ i. (h w).1 (elim (Splits-cons (In (expr_of c.in-Seq.first.value)) (In (expr_of c.in-Seq.second.value)) c.args.l w i) [
        | inl k ↦ inl ((inside w).1 (Splits-map (λ (x : Word). In (expr_of c.in-Seq.first.value) (c.args.l ∷ x)) (In (expr_of c.in-Seq.second.value)) (In (expr_of c.in_ok-begun-in-Seq.begun)) (In (expr_of c.in_ok-rest-in-Seq.rest)) (λ v. (begun v).1) (In-along (expr_of c.in-Seq.second.value) (expr_of c.in_ok-rest-in-Seq.rest) (sym rest)) w k))
        | inr k ↦ inr ((behind w).1 k.1)
      ])),
    ))
    c.alt.ensures.words)

pub returns-else-nullable : goal.returns-else-nullable
returns-else-nullable t c =
    let begun = rw c.deref.ensures at c.in_ok-begun-in-Seq.ensures in
    let rest = rw c.deref-in-Seq.ensures at c.in_ok-rest-in-Seq.ensures in
    let inside = c.in_ok-inside-in-Seq.ensures in
    let null = rw c.deref-in-Seq-2.ensures at c.nullable.ensures in
    rw c.in-Seq.is (λ w. (
      (λ i. cons-Splits (In (expr_of c.in-Seq.first.value)) (In (expr_of c.in-Seq.second.value)) c.args.l w
          (Splits-map (In (expr_of c.in_ok-begun-in-Seq.begun)) (In (expr_of c.in_ok-rest-in-Seq.rest)) (λ (x : Word). In (expr_of c.in-Seq.first.value) (c.args.l ∷ x)) (In (expr_of c.in-Seq.second.value)) (λ v. (begun v).0) (In-along (expr_of c.in_ok-rest-in-Seq.rest) (expr_of c.in-Seq.second.value) rest) w ((inside w).0 i))),
      (λ i. elim (Splits-cons (In (expr_of c.in-Seq.first.value)) (In (expr_of c.in-Seq.second.value)) c.args.l w i) [
        | inl k ↦ (inside w).1 (Splits-map (λ (x : Word). In (expr_of c.in-Seq.first.value) (c.args.l ∷ x)) (In (expr_of c.in-Seq.second.value)) (In (expr_of c.in_ok-begun-in-Seq.begun)) (In (expr_of c.in_ok-rest-in-Seq.rest)) (λ v. (begun v).1) (In-along (expr_of c.in-Seq.second.value) (expr_of c.in_ok-rest-in-Seq.rest) (sym rest)) w k)
        | inr k ↦ cc (null.1 k.0)
      ]),
    ))

pub returns-in_ok-again-in-Star-2 : goal.returns-in_ok-again-in-Star-2
returns-in_ok-again-in-Star-2 t c =
    let begun = rw c.deref-in-Star.ensures at c.in_ok-begun-in-Star.ensures in
    let same = rw c.deref-in-Star-2.ensures at c.in_ok-again-in-Star.ensures in
    let again = c.in_ok-again-in-Star-2.ensures in
    rw c.in-Star.is (IfOk-weaker c.seq-in-Star.result
    (λ (r : Expr). (w : Word) → (In (expr_of r) w) ↔ (Splits (In (expr_of c.in_ok-begun-in-Star.begun)) (In (expr_of c.in_ok-again-in-Star-2.again)) w))
    (λ (r : Expr). (w : Word) → (In (expr_of r) w) ↔ (Chain (In (expr_of c.in-Star.inner.value)) (c.args.l ∷ w)))
    (λ r h w. (
      (λ i. cons-Chain (In (expr_of c.in-Star.inner.value)) c.args.l w
          (Splits-map (In (expr_of c.in_ok-begun-in-Star.begun)) (In (expr_of c.in_ok-again-in-Star-2.again)) (λ (x : Word). In (expr_of c.in-Star.inner.value) (c.args.l ∷ x)) (Chain (In (expr_of c.in-Star.inner.value)))
          (λ v. (begun v).0) (λ v k. Chain-map (In (expr_of c.in_ok-again-in-Star.again)) (In (expr_of c.in-Star.inner.value)) (In-along (expr_of c.in_ok-again-in-Star.again) (expr_of c.in-Star.inner.value) same) v ((again v).0 k)) w ((h w).0 i))),
      (λ i. (h w).1 (Splits-map (λ (x : Word). In (expr_of c.in-Star.inner.value) (c.args.l ∷ x)) (Chain (In (expr_of c.in-Star.inner.value))) (In (expr_of c.in_ok-begun-in-Star.begun)) (In (expr_of c.in_ok-again-in-Star-2.again))
          (λ v. (begun v).1) (λ v k. (again v).1 (Chain-map (In (expr_of c.in-Star.inner.value)) (In (expr_of c.in_ok-again-in-Star.again)) (In-along (expr_of c.in-Star.inner.value) (expr_of c.in_ok-again-in-Star.again) (sym same)) v k)) w (Chain-cons (In (expr_of c.in-Star.inner.value)) c.args.l w i))),
    ))
    c.seq-in-Star.ensures)
