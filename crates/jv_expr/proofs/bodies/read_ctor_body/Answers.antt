use Rattle.std.proofs.Common.{sym, ◌∙◌}
use Rattle.jv_expr.proofs.BodySteps.{begun_goes_on, begun_reads}
use Rattle.jv_expr.proofs.bodies.read_ctor_body.Goals as goal

pub returns-in-Some-clause-reads : goal.returns-in-Some-clause-reads
returns-in-Some-clause-reads c = begun_reads _ _ _ _ _ (sym c.take.ensures.begun ∙ c.in-Some.is) c.requires _ c.go_on_ctor.ensures.reads

pub returns-in-Some-clause-left : goal.returns-in-Some-clause-left
returns-in-Some-clause-left c = begun_goes_on _ _ _ _ _ (sym c.take.ensures.begun ∙ c.in-Some.is) c.requires _ c.go_on_ctor.ensures.left
