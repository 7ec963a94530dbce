use Rattle.std.proofs.Common.{◌∷◌}
use Rattle.sg_engine.proofs.tree.heads_of.Goals as goal

pub returns-else-goes_on : goal.returns-else-goes_on
returns-else-goes_on c = λ l. ((λ h. absurd (c.none.ensures l h)), (λ k. absurd (cc (c.goes_on.ensures.1 (l ∷ k.0, (λ e. cc e), k.1), c.if-goes_on.false))))
