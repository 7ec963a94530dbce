use Rattle.std.proofs.Common.{arith}
use Rattle.jv_layout.specs.Skeleton.{type_datum}
use Rattle.jv_layout.proofs.Looping.{pushed_plain}
use Rattle.jv_layout.proofs.tables.Layout.add_type_data.Goals as goal

pub loop-t-preserved : goal.loop-t-preserved
loop-t-preserved c = pushed_plain (type_datum c.args.self.now) c.loop-t.given.items c.push.new.self.items c.args.given.now.items c.loop-t.t _ c.in_ok-push.ensures.items (grind arith) c.loop-t.invariant
