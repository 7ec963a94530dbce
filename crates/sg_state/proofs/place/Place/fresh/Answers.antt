use Rattle.std.proofs.Common.{◌≡◌, true, arith, refl}
use Rattle.sg_state.proofs.Making.{fresh_none, fresh_more, fresh_other, fresh_all}
use Rattle.sg_state.proofs.place.Place.fresh.Goals as goal
use Rattle.sg_state.proofs.place.Place.fresh.Goals.{then-has+in_ok-give_row, else-has}

pub loop-label-init : goal.loop-label-init
loop-label-init g c = fresh_none _ c.args.unit c.args.labels c.args.datum (rw (c.set_slot.ensures, c.new-place.ensures, c.fresh.ensures) refl)

pub loop-label-preserved : goal.loop-label-preserved
loop-label-preserved g c =
    elim c.if-has.branch [
      | then-has+in_ok-give_row w ↦
          let has = (c.has.ensures.member).0 w.if-has.true in
          let label = c.new.ensures in
          rw w.place-is (fresh_more c.loop-label.place w.give_row.new.self c.args.unit c.args.labels c.args.datum c.loop-label.label (rw label at has) c.loop-label.invariant w.in_ok-give_row.ensures.ok w.in_ok-give_row.ensures.place)
      | else-has w ↦
          rw w.place-is (fresh_other c.loop-label.place c.args.unit c.args.labels c.args.datum c.loop-label.label (λ h. (let t : c.has.result ≡ true = (c.has.ensures.member).1 (rw c.new.ensures h) in cc)) c.loop-label.invariant)
    ]

pub returns : goal.returns
returns g c = fresh_all c.loop-label.place c.args.unit c.args.labels c.args.datum c.loop-label.label (omega (arith, c.loop-label-test.false, c.loop-label.auto.label-end)) c.loop-label.invariant
