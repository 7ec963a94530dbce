use Rattle.std.proofs.Common.{[]}
use Rattle.jv_layout.proofs.Looping.{pushed_first}
use Rattle.jv_layout.proofs.build.empty_lists.Goals as goal

pub loop-preserved : goal.loop-preserved
loop-preserved c = pushed_first (λ v. v.items) (λ _. []) c.loop.lists.items c.push.new.self.items c.loop.counter c.new.result c.in_ok-push.ensures.items c.new.ensures.items c.loop.invariant
