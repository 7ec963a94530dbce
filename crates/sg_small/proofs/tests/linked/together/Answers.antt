use Rattle.std.proofs.Common.{◌≡◌, [], length}
use Rattle.sg_small.specs.Link.{AreNewLinks}
use Rattle.sg_small.proofs.Linking.{if_some, links_are_new}
use Rattle.sg_small.proofs.tests.linked.together.Goals as goal

pub run_threads-requires-clause-new : goal.run_threads-requires-clause-new
run_threads-requires-clause-new g c κs within =
    links_are_new (λ k. k.number) (λ k. k.looks) (λ k. k.given) (λ k. k.core.value) c.in-Some-2.core 5 c.in-Some-2.units.items
    (if_some (λ p. (p.0.log ≡ []) × AreNewLinks (λ k. k.number) (λ k. k.looks) (λ k. k.given) (λ k. k.core.value) p.0 (length p.0.opening.made) p.1.items) c.in_ok-core.field-0 (c.in-Some-2.core, c.in-Some-2.units) c.in-Some-2.is c.in_ok-core.ensures).1
