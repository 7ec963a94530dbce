use Rattle.std.proofs.Common.{◌≡◌, ◌<◌, length, subst, arith}
use Rattle.sc_app.specs.Results.{CameToBelow}
use Rattle.sc_app.proofs.Came.{all_came, came_below, none_below}
use Rattle.sc_app.proofs.results.joined.Goals as goal

pub loop-unit-init : goal.loop-unit-init
loop-unit-init c = none_below c.args.core.now _ c.empty-all.ensures

pub loop-unit-preserved : goal.loop-unit-preserved
loop-unit-preserved c = c.in_ok-add_result.ensures c.loop-unit.invariant

pub returns : goal.returns
returns c =
    let count : c.loop-unit.unit ≡ length c.args.core.now.opening.made = omega (arith, c.loop-unit-test.false, c.loop-unit.auto.unit-end, c.units-unit-end.ensures) in
    all_came c.args.core.now c.loop-unit.unit c.loop-unit.all c.loop-unit.invariant (λ u x k. omega (arith, count, came_below c.args.core.now c.requires u x k))
