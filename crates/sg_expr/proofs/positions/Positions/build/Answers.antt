use Rattle.std.proofs.Common.{◌≡◌, ◌≤◌, length, arith}
use Rattle.sg_expr.specs.Laying.{places_of}
use Rattle.sg_expr.specs.Positions.{PositionsOf}
use Rattle.sg_expr.specs.Tree.{expr_of}
use Rattle.sg_expr.proofs.Accepting.{places_of-le_ones}
use Rattle.sg_expr.proofs.Stepping.{built, built_live}
use Rattle.sg_expr.proofs.positions.Positions.build.Goals as goal

pub begin_at-first-requires : goal.begin_at-first-requires
begin_at-first-requires c = omega (arith, places_of-le_ones (expr_of c.args.e.now))

pub lay-requires-clause-room : goal.lay-requires-clause-room
lay-requires-clause-room c = rw c.new.ensures.items (omega (arith, places_of-le_ones (expr_of c.args.e.now)))

pub invariant_of-result : goal.invariant_of-result
invariant_of-result c =
    let e = expr_of c.args.e.now in
    let small : places_of e ≤ 63 = omega (arith, places_of-le_ones e) in
    let laid = rw c.new.ensures.items at c.in_ok-lay.ensures in
    let size : length c.lay.new.self.behind.items ≡ places_of e = omega (arith, laid.size) in
    let p : PositionsOf = record { first = c.begin_at-first.result; behind = c.lay.new.self.behind.items; places = c.lay.new.self.places } in
    (laid.labels, laid.within, built_live p e laid.within size small laid.laid, c.union_of-all.ensures)

pub returns : goal.returns
returns c =
    let e = expr_of c.args.e.now in
    let small : places_of e ≤ 63 = omega (arith, places_of-le_ones e) in
    let laid = rw c.new.ensures.items at c.in_ok-lay.ensures in
    let size : length c.lay.new.self.behind.items ≡ places_of e = omega (arith, laid.size) in
    let p : PositionsOf = record { first = c.begin_at-first.result; behind = c.lay.new.self.behind.items; places = c.lay.new.self.places } in
    rw c.begin_at-first.ensures (built p e laid.within size small laid.laid)
