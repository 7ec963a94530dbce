use Rattle.std.proofs.Common.{◌≡◌, ◌-◌, suc, arith}
use Rattle.jv_layout.proofs.Naming.{type_round}
use Rattle.jv_layout.proofs.tables.Layout.add_type_names.Goals as goal

pub loop-left-preserved : goal.loop-left-preserved
loop-left-preserved c =
    let less : c.loop-left.left ≡ suc (c.loop-left.left - 1) = omega arith in
    type_round c.args.self.now c.loop-left.left (c.loop-left.left - 1) c.in-Some.t c.loop-left.at c.type_row-row.result c.loop-left.ids.items c.push.new.self.items _ less c.in-Some.is c.type_row-row.ensures.value c.in_ok-push-in-Some.ensures.items c.loop-left.invariant
