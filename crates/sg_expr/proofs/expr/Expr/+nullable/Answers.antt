use Rattle.std.proofs.Common.{[]}
use Rattle.sg_expr.specs.Tree.{expr_of}
use Rattle.sg_expr.specs.Word.{In}
use Rattle.sg_expr.proofs.WordLemmas.{Splits-nil, nil-Splits}
use Rattle.sg_expr.proofs.expr.Expr.+nullable.Goals as goal

pub returns-then-nullable : goal.returns-then-nullable
returns-then-nullable t c =
    let a = rw c.deref.ensures at (c.nullable.ensures.0 c.if-nullable.true) in
    let b = rw c.deref-then-nullable.ensures at c.nullable-then-nullable.ensures in
    rw c.in-Seq.is ((λ h. nil-Splits (In (expr_of c.in-Seq.first.value)) (In (expr_of c.in-Seq.second.value)) [] a (b.0 h)), (λ s. b.1 (Splits-nil (In (expr_of c.in-Seq.first.value)) (In (expr_of c.in-Seq.second.value)) s).1))

pub returns-else-nullable : goal.returns-else-nullable
returns-else-nullable t c =
    let b = rw c.deref.ensures at c.nullable.ensures in
    rw c.in-Seq.is ((λ h. cc), (λ s. b.1 (Splits-nil (In (expr_of c.in-Seq.first.value)) (In (expr_of c.in-Seq.second.value)) s).0))
