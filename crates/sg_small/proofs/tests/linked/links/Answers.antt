use Rattle.sg_small.proofs.Linking.{one_more_link}
use Rattle.sg_small.proofs.tests.linked.links.Goals as goal

pub loop-number-preserved : goal.loop-number-preserved
loop-number-preserved c = one_more_link (λ k. k.number) (λ k. k.looks) (λ k. k.given) (λ k. k.core.value) c.args.core.now c.loop-number.number c.loop-number.units.items c.push.new.self.items c.in-Some.link c.loop-number.invariant c.in_ok-push.ensures.items (c.in-Some.ensures.number, c.in-Some.ensures.core, c.in-Some.ensures.given, c.in-Some.ensures.can)
