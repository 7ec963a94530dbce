use Rattle.std.proofs.Common.{[], ◌∷◌, ◌++◌, refl}
use Rattle.sg_expr.proofs.expr.Expr.+live.Goals as goal

pub returns-in-One : goal.returns-in-One
returns-in-One t c = rw c.in-One.is ((λ _. (c.in-One.field-0 ∷ [], refl)), (λ _. refl))

pub returns-then-live : goal.returns-then-live
returns-then-live t c =
    let a = rw c.deref.ensures at (c.live.ensures.0 c.if-live.true) in
    let b = rw c.deref-then-live.ensures at c.live-then-live.ensures in
    rw c.in-Seq.is ((λ h. (a.0 ++ (b.0 h).0, (a.0, (b.0 h).0, refl, a.1, (b.0 h).1))), (λ s. b.1 ((s.1).1, (s.1).4)))
