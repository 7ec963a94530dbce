use Rattle.std.proofs.Common.{map, ap, ◌∙◌, arith}
use denote.Exit.{no}
use denote.Param.Send.{param_send, arg_send}
use Rattle.sg_pool.proofs.Pools.{pooled, numbers_counted, as_many}
use Rattle.sg_pool.proofs.pool.run_at.Goals as goal

pub run-requires-clause-steps : goal.run-requires-clause-steps
run-requires-clause-steps g c = λ κs o j. let b = c.type_bounds in (c.requires.desk, (param_send _ _ (arg_send _ no _ b.send-U), param_send _ _ (arg_send _ no _ b.send-N), param_send _ _ (arg_send _ no _ b.send-U-Inst), param_send _ _ (arg_send _ no _ b.send-U-Outcome), param_send _ _ (arg_send _ no _ b.send-U-Inst-Datum), param_send _ _ (arg_send _ no _ b.send-U-Inst-Pred), param_send _ _ (arg_send _ no _ b.send-K-Place), record { shared = b.sync-K.shared }, record { shared = b.sync-G.shared }, record { shared = b.sync-Rt.shared }, record { shared = b.sync-U-Inst-Datum.shared }))

pub run-requires-clause-numbered : goal.run-requires-clause-numbered
run-requires-clause-numbered g c = λ a b. ap (map (λ j. g.K.Place.Seat.number j.seat)) c.in_ok-jobs.ensures ∙ numbers_counted g.K.Place.Seat.number g.N.Site.start c.args.units.items c.requires.start c.requires.numbered

pub into_seats-requires-clause-room : goal.into_seats-requires-clause-room
into_seats-requires-clause-room g c = (c.in_ok-seats.ensures.items, omega (arith, c.in_ok-seats.ensures.exact, c.args.units.ok.0, as_many g.K.Place.Seat.number g.N.Site.start c.args.units.items c.in_ok-jobs-3.jobs.items c.requires.start c.in_ok-jobs-3.ensures.numbered))

pub returns : goal.returns
returns g c = pooled g.U.Inst.Instance.wants g.U.Inst.Instance.same_datum g.U.Unit.opening g.U.Unit.kinds g.U.Unit.owes_edge g.U.Unit.owes_datum g.U.Unit.may_ask g.U.Unit.comes_to g.U.Unit.number g.U.Unit.fixed g.U.Unit.stands g.K.Place.Seat.number g.K.Place.Seat.mine g.K.Place.Seat.spent g.K.Place.Seat.opening g.K.Place.Seat.kinds g.K.Desk.sits g.N.Site.desk g.N.Site.start c.args.desk.now c.args.units.items c.requires.desk c.requires.start c.in_ok-jobs-3.jobs.items c.into_seats.result.items c.in_ok-jobs-3.ensures.numbered c.into_seats.ensures.kept c.in_ok-jobs-3.ensures.over c.into_seats.ensures.seats
