use Rattle.std.proofs.Common.{◌≡◌, ◌-◌, suc, arith}
use Rattle.jv_layout.proofs.Naming.{package_round}
use Rattle.jv_layout.proofs.tables.Layout.add_package_names.Goals as goal

pub loop-left-preserved : goal.loop-left-preserved
loop-left-preserved c =
    let less : c.loop-left.left ≡ suc (c.loop-left.left - 1) = omega arith in
    package_round c.args.self.now c.loop-left.left (c.loop-left.left - 1) c.in-Some.p c.loop-left.at c.package_row-row.result c.loop-left.ids.items c.push.new.self.items _ less c.in-Some.is c.package_row-row.ensures c.in_ok-push-in-Some.ensures.items c.loop-left.invariant
