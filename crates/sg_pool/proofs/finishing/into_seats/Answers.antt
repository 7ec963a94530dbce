use Rattle.std.proofs.Common.{◌≡◌, ◌∷◌, ◌++◌, [], Some, false, length, map, ap, sym, ◌∙◌, arith, append-nil, append_assoc, length-append}
use Rattle.std.proofs.lemmas.List.Elements.{All-pop, All-nil, All-cons}
use Rattle.sg_pool.specs.Pool.{IsKept}
use Rattle.sg_board.proofs.Laid.{more_laid, none_left}
use Rattle.sg_pool.proofs.Pools.{none_laid, whole_kept}
use Rattle.sg_pool.proofs.finishing.into_seats.Goals as goal

pub loop-job-init : goal.loop-job-init
loop-job-init g c = record {
  seats = none_laid (map (λ j. j.seat) c.args.jobs.items) c.args.room.items c.requires.room.0;
  going = c.requires.going;
  done = [];
  whole = append-nil c.args.jobs.items;
  kept = All-nil (IsKept g.U.Inst.Instance.wants g.U.Inst.Instance.same_datum g.U.Unit.opening g.U.Unit.kinds g.U.Unit.owes_edge g.U.Unit.owes_datum g.U.Unit.may_ask g.U.Unit.comes_to g.U.Unit.number g.U.Unit.fixed g.U.Unit.stands g.K.Place.Seat.number g.K.Place.Seat.mine g.K.Place.Seat.spent g.K.Place.Seat.opening g.K.Place.Seat.kinds g.K.Desk.sits g.N.Site.desk g.N.Site.start);
  room = omega (arith, c.requires.room.1, ap length c.requires.room.0);
}

pub into_seat-requires : goal.into_seat-requires
into_seat-requires g c = record { going = (All-pop (λ j. j.failed ≡ false) c.loop-job.left.items c.pop.new.self.items (Some c.in-Some.job) c.in-Some.ensures.items c.loop-job.invariant.going).1 }

pub loop-job-preserved : goal.loop-job-preserved
loop-job-preserved g c = record {
  seats = more_laid (λ j. j.seat) c.loop-job.left.items c.pop.new.self.items c.in-Some.job c.loop-job.seats.items c.push_reserved.new.self.items c.into_seat.result _ c.in-Some.ensures.items c.push_reserved.ensures.items (sym c.into_seat.ensures.seat) c.loop-job.invariant.seats;
  going = (All-pop (λ j. j.failed ≡ false) c.loop-job.left.items c.pop.new.self.items (Some c.in-Some.job) c.in-Some.ensures.items c.loop-job.invariant.going).0;
  done = c.in-Some.job ∷ c.loop-job.invariant.done;
  whole = sym (append_assoc c.pop.new.self.items (c.in-Some.job ∷ []) c.loop-job.invariant.done) ∙ ap (λ l. l ++ c.loop-job.invariant.done) (sym c.in-Some.ensures.items) ∙ c.loop-job.invariant.whole;
  kept = All-cons (IsKept g.U.Inst.Instance.wants g.U.Inst.Instance.same_datum g.U.Unit.opening g.U.Unit.kinds g.U.Unit.owes_edge g.U.Unit.owes_datum g.U.Unit.may_ask g.U.Unit.comes_to g.U.Unit.number g.U.Unit.fixed g.U.Unit.stands g.K.Place.Seat.number g.K.Place.Seat.mine g.K.Place.Seat.spent g.K.Place.Seat.opening g.K.Place.Seat.kinds g.K.Desk.sits g.N.Site.desk g.N.Site.start) c.in-Some.job c.loop-job.invariant.done c.into_seat.ensures.kept c.loop-job.invariant.kept;
  room = omega (arith, c.loop-job.invariant.room, ap length c.in-Some.ensures.items, length-append c.pop.new.self.items (c.in-Some.job ∷ []), ap length c.push_reserved.ensures.items, length-append c.loop-job.seats.items (c.into_seat.result ∷ []), c.push_reserved.ensures.capacity);
}

pub returns-clause-kept : goal.returns-clause-kept
returns-clause-kept g c = whole_kept (IsKept g.U.Inst.Instance.wants g.U.Inst.Instance.same_datum g.U.Unit.opening g.U.Unit.kinds g.U.Unit.owes_edge g.U.Unit.owes_datum g.U.Unit.may_ask g.U.Unit.comes_to g.U.Unit.number g.U.Unit.fixed g.U.Unit.stands g.K.Place.Seat.number g.K.Place.Seat.mine g.K.Place.Seat.spent g.K.Place.Seat.opening g.K.Place.Seat.kinds g.K.Desk.sits g.N.Site.desk g.N.Site.start) c.loop-job.left.items c.loop-job.invariant.done c.args.jobs.items (sym c.loop-job.left.ok.0 ∙ c.in_default.ensures.cases.0) c.loop-job.invariant.whole c.loop-job.invariant.kept

pub returns-clause-seats : goal.returns-clause-seats
returns-clause-seats g c = none_left (λ j. j.seat) c.loop-job.left.items c.loop-job.seats.items c.reverse.new.self.items _ (sym c.loop-job.left.ok.0 ∙ c.in_default.ensures.cases.0) c.reverse.ensures.items c.loop-job.invariant.seats
