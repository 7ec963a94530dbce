use Rattle.std.proofs.Common.{[], ◌∷◌, ◌++◌, inl, inr, refl}
use Rattle.sg_expr.specs.Tree.{expr_of}
use Rattle.sg_expr.specs.Word.{In}
use Rattle.sg_expr.proofs.WordLemmas.{Splits-cons, Chain-cons, once-Chain}
use Rattle.sg_expr.proofs.expr.Expr.+heads.Goals as goal

pub returns-then-nullable : goal.returns-then-nullable
returns-then-nullable t c = λ l.
    let behind = rw c.deref.ensures at (c.live.ensures.0 c.if-not-live.false) in
    let first_null = rw c.deref-in-Seq.ensures at (c.nullable.ensures.0 c.if-nullable.true) in
    let first_heads = rw c.deref-then-nullable.ensures at c.heads.ensures in
    let second_heads = rw c.deref-then-nullable-2.ensures at c.heads-then-nullable.ensures in
    rw c.in-Seq.is (
      (λ h. elim ((c.union.ensures l).0 h) [
        | inl p ↦ let a = (first_heads l).0 p in (a.0 ++ behind.0, (l ∷ a.0, behind.0, refl, a.1, behind.1))
        | inr p ↦ let b = (second_heads l).0 p in (b.0, ([], l ∷ b.0, refl, first_null, b.1))
      ]),
      (λ s. (c.union.ensures l).1 (elim (Splits-cons (In (expr_of c.in-Seq.first.value)) (In (expr_of c.in-Seq.second.value)) l s.0 s.1) [
        | inl k ↦ inl ((first_heads l).1 (k.0, k.3))
        | inr k ↦ inr ((second_heads l).1 (s.0, k.1))
      ])),
    )

pub returns-else-nullable : goal.returns-else-nullable
returns-else-nullable t c = λ l.
    let behind = rw c.deref.ensures at (c.live.ensures.0 c.if-not-live.false) in
    let first_null = rw c.deref-in-Seq.ensures at c.nullable.ensures in
    let first_heads = rw c.deref-else-nullable.ensures at c.heads-else-nullable.ensures in
    rw c.in-Seq.is (
      (λ h. let a = (first_heads l).0 h in (a.0 ++ behind.0, (l ∷ a.0, behind.0, refl, a.1, behind.1))),
      (λ s. elim (Splits-cons (In (expr_of c.in-Seq.first.value)) (In (expr_of c.in-Seq.second.value)) l s.0 s.1) [
        | inl k ↦ (first_heads l).1 (k.0, k.3)
        | inr k ↦ cc (first_null.1 k.0, c.if-nullable.false)
      ]),
    )

pub returns-in-Star : goal.returns-in-Star
returns-in-Star t c = λ l.
    let b = rw c.deref-in-Star.ensures at c.heads-in-Star.ensures in
    rw c.in-Star.is (
      (λ h. let a = (b l).0 h in (a.0, once-Chain (In (expr_of c.in-Star.inner.value)) (l ∷ a.0) a.1)),
      (λ s. let k = Chain-cons (In (expr_of c.in-Star.inner.value)) l s.0 s.1 in (b l).1 (k.0, k.3)),
    )
