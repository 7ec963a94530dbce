use Rattle.std.proofs.Common.{[], ◌∷◌, inl, inr, refl, sym, ◌∙◌}
use Rattle.sg_expr.specs.Tree.{expr_of}
use Rattle.sg_expr.specs.Word.{In}
use Rattle.sg_expr.proofs.WordLemmas.{GoesOn-Splits, first-GoesOn, second-GoesOn, GoesOn-Chain, once-Chain}
use Rattle.sg_expr.proofs.expr.Expr.+goes_on.Goals as goal
use Rattle.sg_expr.proofs.expr.Expr.+goes_on.Goals.{then-goes_on, else-goes_on}

pub returns-in-One : goal.returns-in-One
returns-in-One t c = rw c.in-One.is ((λ _. (c.in-One.field-0 ∷ [], (λ e. cc), refl)), (λ _. refl))

pub returns-then-live : goal.returns-then-live
returns-then-live t c =
    elim c.if-goes_on.branch [
      | then-goes_on w ↦
          let g = rw c.deref.ensures at (c.goes_on.ensures.0 w.if-goes_on.true) in
          let b = rw w.deref-then-goes_on.ensures at (w.live.ensures.0 (sym w.value-is ∙ c.if-live.true)) in
          rw c.in-Seq.is ((λ _. first-GoesOn (In (expr_of c.in-Seq.first.value)) (In (expr_of c.in-Seq.second.value)) g b), (λ _. c.if-live.true))
      | else-goes_on w ↦ cc
    ]

pub returns-then-live-2 : goal.returns-then-live-2
returns-then-live-2 t c =
    let a = rw c.deref-else-live.ensures at (c.live-else-live.ensures.0 c.if-live-2.true) in
    let b = rw c.deref-then-live-2.ensures at c.goes_on-then-live-2.ensures in
    let g = rw c.deref.ensures at c.goes_on.ensures in
    elim c.if-goes_on.branch [
      | then-goes_on w ↦
          let l = rw w.deref-then-goes_on.ensures at w.live.ensures in
          rw c.in-Seq.is ((λ h. second-GoesOn (In (expr_of c.in-Seq.first.value)) (In (expr_of c.in-Seq.second.value)) a (b.0 h)), (λ s. elim (GoesOn-Splits (In (expr_of c.in-Seq.first.value)) (In (expr_of c.in-Seq.second.value)) s) [ inl p ↦ cc (l.1 p.1) | inr p ↦ b.1 p.1 ]))
      | else-goes_on w ↦
          rw c.in-Seq.is ((λ h. second-GoesOn (In (expr_of c.in-Seq.first.value)) (In (expr_of c.in-Seq.second.value)) a (b.0 h)), (λ s. elim (GoesOn-Splits (In (expr_of c.in-Seq.first.value)) (In (expr_of c.in-Seq.second.value)) s) [ inl p ↦ cc (g.1 p.0) | inr p ↦ b.1 p.1 ]))
    ]

pub returns-in-Star : goal.returns-in-Star
returns-in-Star t c =
    let b = rw c.deref-in-Star.ensures at c.goes_on-in-Star.ensures in
    rw c.in-Star.is ((λ h. ((b.0 h).0, (b.0 h).1, once-Chain (In (expr_of c.in-Star.inner.value)) (b.0 h).0 (b.0 h).2)), (λ s. b.1 (GoesOn-Chain (In (expr_of c.in-Star.inner.value)) s)))
