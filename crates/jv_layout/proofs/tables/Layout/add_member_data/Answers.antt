use Rattle.std.proofs.Common.{arith}
use Rattle.jv_layout.specs.Skeleton.{member_datum}
use Rattle.jv_layout.proofs.Looping.{pushed_plain}
use Rattle.jv_layout.proofs.tables.Layout.add_member_data.Goals as goal

pub loop-m-preserved : goal.loop-m-preserved
loop-m-preserved c = pushed_plain (member_datum c.args.self.now) c.loop-m.given.items c.push.new.self.items c.args.given.now.items c.loop-m.m _ c.in_ok-push.ensures.items (grind arith) c.loop-m.invariant
