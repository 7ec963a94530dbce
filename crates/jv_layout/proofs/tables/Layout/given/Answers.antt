use Rattle.std.proofs.Common.{[], arith}
use Rattle.jv_layout.specs.Skeleton.{package_datum}
use Rattle.jv_layout.proofs.Looping.{pushed_plain}
use Rattle.jv_layout.proofs.tables.Layout.given.Goals as goal

pub loop-p-preserved : goal.loop-p-preserved
loop-p-preserved c = pushed_plain (package_datum c.args.self.now) c.loop-p.given.items c.push.new.self.items [] c.loop-p.p _ c.in_ok-push.ensures.items (grind arith) c.loop-p.invariant
