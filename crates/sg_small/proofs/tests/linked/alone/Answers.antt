use Rattle.std.proofs.Common.{◌≡◌, [], length}
use Rattle.sg_small.specs.Link.{AreNewLinks}
use Rattle.sg_small.proofs.Linking.{if_some, links_are_new}
use Rattle.sg_small.proofs.tests.linked.alone.Goals as goal

pub run_serial-requires-clause-new : goal.run_serial-requires-clause-new
run_serial-requires-clause-new c =
    links_are_new (λ k. k.number) (λ k. k.looks) (λ k. k.given) (λ k. k.core.value) c.in-Some-2.core 5 c.in-Some-2.units.items
    (if_some (λ p. (p.0.log ≡ []) × AreNewLinks (λ k. k.number) (λ k. k.looks) (λ k. k.given) (λ k. k.core.value) p.0 (length p.0.opening.made) p.1.items) c.in_ok-core.field-0 (c.in-Some-2.core, c.in-Some-2.units) c.in-Some-2.is c.in_ok-core.ensures).1
