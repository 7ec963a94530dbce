use Rattle.std.proofs.Common.{◌≤◌, length, arith}
use Rattle.sg_expr.proofs.Stepping.{union_none, union_more, union_all}
use Rattle.sg_expr.proofs.positions.union_of.Goals as goal

pub loop-set-init : goal.loop-set-init
loop-set-init c = union_none c.args.sets.now

pub loop-set-preserved : goal.loop-set-preserved
loop-set-preserved c = union_more c.args.sets.now c.loop-set.all c.loop-set.set-index c.loop-set.invariant

pub returns : goal.returns
returns c =
    let all : length c.args.sets.now ≤ c.loop-set.set-index = omega arith in
    union_all c.args.sets.now c.loop-set.all c.loop-set.set-index all c.loop-set.invariant
