use Rattle.std.proofs.Common.{refl, arith}
use Rattle.sg_expr.specs.Tree.{expr_of}
use Rattle.sg_query.proofs.Gathering.{nil_of}
use Rattle.sg_query.proofs.Standing.{stands_first, has_room, within, fresh, room_left, has_rest, stands_next, stands_over, stands_few, stands_all}
use Rattle.sg_query.proofs.walk.Walk.arrived.Goals as goal

pub loop-going-init : goal.loop-going-init
loop-going-init g c = record {
  sound = c.requires;
  stands = stands_first c.args.self.now.graph.now c.requires (expr_of c.args.self.now.expr.now) c.args.self.now.start (g.I.Instance.wants c.args.self.now.pred.now) c.none-steps.result (record { going = c.new.result; found = c.new-2.result }) c.visit.new.seen c.none-steps.ensures c.new.ensures.items c.new-2.ensures.items c.in_ok-visit.ensures;
}

pub overflow_sub-room : goal.overflow_sub-room
overflow_sub-room g c =
    let split = rw c.in-Some.is at c.pop.ensures.items in
    let k = c.loop-going.invariant in
    has_room c.args.self.now.graph.now k.sound (expr_of c.args.self.now.expr.now) c.args.self.now.start (g.I.Instance.wants c.args.self.now.pred.now) c.loop-going.steps c.loop-going.room c.loop-going.seen.going.items c.loop-going.seen.found.items k.stands c.pop.new.self.items c.in-Some.going split

pub go_to-requires-clause-within : goal.go_to-requires-clause-within
go_to-requires-clause-within g c =
    let split = rw c.in-Some.is at c.pop.ensures.items in
    let k = c.loop-going.invariant in
    within c.args.self.now.graph.now k.sound (expr_of c.args.self.now.expr.now) c.args.self.now.start (g.I.Instance.wants c.args.self.now.pred.now) c.loop-going.steps c.loop-going.room c.loop-going.seen.going.items c.loop-going.seen.found.items k.stands c.pop.new.self.items c.in-Some.going split

pub go_to-requires-clause-fresh : goal.go_to-requires-clause-fresh
go_to-requires-clause-fresh g c =
    let split = rw c.in-Some.is at c.pop.ensures.items in
    let k = c.loop-going.invariant in
    fresh c.args.self.now.graph.now k.sound (expr_of c.args.self.now.expr.now) c.args.self.now.start (g.I.Instance.wants c.args.self.now.pred.now) c.loop-going.steps c.loop-going.room c.loop-going.seen.going.items c.loop-going.seen.found.items k.stands c.pop.new.self.items c.in-Some.going split

pub visit_behind-requires-clause-fits : goal.visit_behind-requires-clause-fits
visit_behind-requires-clause-fits g c =
    let split = rw c.in-Some.is at c.pop.ensures.items in
    let k = c.loop-going.invariant in
    room_left c.args.self.now.graph.now k.sound (expr_of c.args.self.now.expr.now) c.args.self.now.start (g.I.Instance.wants c.args.self.now.pred.now) c.loop-going.steps c.loop-going.room c.loop-going.seen.going.items c.loop-going.seen.found.items k.stands c.pop.new.self.items c.in-Some.going split

pub visit_behind-requires-clause-rest : goal.visit_behind-requires-clause-rest
visit_behind-requires-clause-rest g c =
    let split = rw c.in-Some.is at c.pop.ensures.items in
    let k = c.loop-going.invariant in
    rw c.in_ok-go_to.ensures
    (has_rest c.args.self.now.graph.now k.sound (expr_of c.args.self.now.expr.now) c.args.self.now.start (g.I.Instance.wants c.args.self.now.pred.now) c.loop-going.steps c.loop-going.room c.loop-going.seen.going.items c.loop-going.seen.found.items k.stands c.pop.new.self.items c.in-Some.going split)

pub returns-then-not-branch : goal.returns-then-not-branch
returns-then-not-branch g c =
    let split = rw c.in-Some.is at c.pop.ensures.items in
    let k = c.loop-going.invariant in
    let h = rw c.if-not-branch.true at c.in_ok-visit_behind.ensures in
    stands_over c.args.self.now.graph.now k.sound (expr_of c.args.self.now.expr.now) c.args.self.now.start (g.I.Instance.wants c.args.self.now.pred.now) c.loop-going.steps c.loop-going.room c.loop-going.seen.going.items c.loop-going.seen.found.items k.stands c.pop.new.self.items c.in-Some.going split (record { going = c.pop.new.self; found = c.loop-going.seen.found }) c.visit_behind.new.seen refl refl c.go_to.new.self c.in_ok-go_to.ensures h.0 h.1 h.2 h.3 h.4

pub loop-going-smaller : goal.loop-going-smaller
loop-going-smaller g c =
    let split = rw c.in-Some.is at c.pop.ensures.items in
    let k = c.loop-going.invariant in
    let some = has_room c.args.self.now.graph.now k.sound (expr_of c.args.self.now.expr.now) c.args.self.now.start (g.I.Instance.wants c.args.self.now.pred.now) c.loop-going.steps c.loop-going.room c.loop-going.seen.going.items c.loop-going.seen.found.items k.stands c.pop.new.self.items c.in-Some.going split in
    omega (arith, some)

pub loop-going-preserved : goal.loop-going-preserved
loop-going-preserved g c =
    let split = rw c.in-Some.is at c.pop.ensures.items in
    let k = c.loop-going.invariant in
    let h = rw c.if-not-branch.false at c.in_ok-visit_behind.ensures in
    record {
      sound = k.sound;
      stands = stands_next c.args.self.now.graph.now k.sound (expr_of c.args.self.now.expr.now) c.args.self.now.start (g.I.Instance.wants c.args.self.now.pred.now) c.loop-going.steps c.loop-going.room c.loop-going.seen.going.items c.loop-going.seen.found.items k.stands c.pop.new.self.items c.in-Some.going split (record { going = c.pop.new.self; found = c.loop-going.seen.found }) c.visit_behind.new.seen refl refl c.go_to.new.self c.in_ok-go_to.ensures h.0 h.1;
    }

pub returns : goal.returns
returns g c =
    let none = nil_of c.loop-going.seen.going.items (omega (arith, c.in_default.ensures.cases.0, c.loop-going.seen.going.ok.0)) in
    let k = c.loop-going.invariant in (
      stands_few c.args.self.now.graph.now k.sound (expr_of c.args.self.now.expr.now) c.args.self.now.start (g.I.Instance.wants c.args.self.now.pred.now) c.loop-going.steps c.loop-going.room c.loop-going.seen.going.items c.loop-going.seen.found.items k.stands none,
      stands_all c.args.self.now.graph.now k.sound (expr_of c.args.self.now.expr.now) c.args.self.now.start (g.I.Instance.wants c.args.self.now.pred.now) c.loop-going.steps c.loop-going.room c.loop-going.seen.going.items c.loop-going.seen.found.items k.stands none,
    )
