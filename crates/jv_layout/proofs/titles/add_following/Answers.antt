use Rattle.std.proofs.Common.{arith}
use Rattle.std.specs.String.{string_bytes}
use Rattle.jv_layout.proofs.Naming.{following_round}
use Rattle.jv_layout.proofs.titles.add_following.Goals as goal

pub loop-id-preserved : goal.loop-id-preserved
loop-id-preserved c =
    following_round c.args.names.now (string_bytes c.loop-id.text) (string_bytes c.push.new.self) (string_bytes c.push_str.new.self) _ c.text_of.result.now c.loop-id.left.items c.pop.new.self.items c.in-Some.id _
    c.in_ok-push.ensures.bytes (c.in_ok-push.ensures.ascii (omega arith)) c.in_ok-push_str.ensures.bytes c.text_of.ensures c.in-Some.ensures.items c.loop-id.invariant
