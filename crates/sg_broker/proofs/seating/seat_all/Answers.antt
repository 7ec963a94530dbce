use Rattle.std.proofs.Common.{◌-◌, ◌∷◌, [], false, refl, length, sym, ap, ◌∙◌, arith, length-append}
use Rattle.sg_unit.specs.Unit.{setting_of}
use Rattle.sg_broker.specs.Broker.{root_of}
use Rattle.sg_broker.proofs.Seats.{last_seat, is_new, more_done, none_more}
use Rattle.sg_broker.proofs.Turning.{seat_view}
use Rattle.sg_broker.proofs.seating.seat_all.Goals as goal

pub invariant_of-push_reserved : goal.invariant_of-push_reserved
invariant_of-push_reserved g c =
    let p = last_seat c.args.turn.now.turn c.args.turn.now.root c.loop-seat.number c.pop.new.self.items c.in-Some.seat (sym c.loop-seat.invariant.left ∙ c.in-Some.ensures.items) (c.loop-seat.number - 1) refl in
    let a = c.nothing.result in
    is_new c.args.turn.now.turn c.args.turn.now.root c.requires.root c.in-Some.seat (c.loop-seat.number - 1) p.2 (setting_of g.I.Instance.wants g.I.Instance.same_datum (root_of c.in-Some.seat.root).opening (root_of c.in-Some.seat.root).kinds) a.sight a.count a.kept.events.items a.kept.ask c.nothing.ensures.0 c.nothing.ensures.1 c.nothing.ensures.2

pub loop-seat-preserved : goal.loop-seat-preserved
loop-seat-preserved g c =
    let p = last_seat c.args.turn.now.turn c.args.turn.now.root c.loop-seat.number c.pop.new.self.items c.in-Some.seat (sym c.loop-seat.invariant.left ∙ c.in-Some.ensures.items) (c.loop-seat.number - 1) refl in
    let a = c.nothing.result in
    record {
      left = p.1;
      done = more_done c.args.turn.now.turn c.args.turn.now.root c.loop-seat.number (c.loop-seat.number - 1) c.args.units p.0 c.loop-seat.places.items c.push_reserved.new.self.items c.in-Some.seat a.kept.events.items p.2 c.nothing.ensures.1 c.push_reserved.ensures.items c.loop-seat.invariant.done;
      room = omega (arith, p.0, c.loop-seat.invariant.room, ap length c.push_reserved.ensures.items, length-append c.loop-seat.places.items (seat_view c.in-Some.seat (c.loop-seat.number - 1) a.kept.events.items false ∷ []), c.push_reserved.ensures.capacity);
    }

pub returns : goal.returns
returns g c = none_more c.args.turn.now.turn c.args.turn.now.root c.loop-seat.number c.args.units c.loop-seat.places.items c.reverse.new.self.items c.loop-seat.left.items c.loop-seat.invariant.left (sym c.loop-seat.left.ok.0 ∙ c.in_default.ensures.cases.0) c.reverse.ensures.items c.loop-seat.invariant.done
