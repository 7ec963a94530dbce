use Rattle.std.proofs.Common.{◌≡◌, ◌∷◌, ◌++◌, [], false, length, map, reverse, refl, ap, sym, ◌∙◌, subst, arith, length-append}
use Rattle.std.specs.Prelude.{All}
use Rattle.std.proofs.lemmas.List.Elements.{All-nil, All-cons, All-append}
use Rattle.sg_pool.specs.Pool.{IsNewAt}
use Rattle.sg_pool.proofs.Pools.{last_pair, moves_over, one_more, turned_over, numbered_by, seats_numbered, all_reversed, length_popped}
use Rattle.sg_pool.proofs.seating.seat_each.Goals as goal

pub new-requires-clause-numbers : goal.new-requires-clause-numbers
new-requires-clause-numbers g c =
    let inv = c.loop-unit.invariant in
    let n = (last_pair (λ u v s. IsNewAt g.U.Unit.number g.U.Unit.fixed g.U.Unit.opening g.U.Unit.kinds g.U.Unit.stands g.S.Seat.number g.S.Seat.mine g.S.Seat.spent g.S.Seat.opening g.S.Seat.kinds u v s) c.args.units.items c.loop-unit.units.items c.pop.new.self.items (map (λ x. x.unit) (reverse c.loop-unit.team.items)) c.in-Some.unit c.args.seats.items c.loop-unit.seats.items c.pop-in-Some.new.self.items (map (λ x. x.seat) (reverse c.loop-unit.team.items)) c.in-Some-pop.seat c.requires.new c.in-Some.ensures.items inv.units c.in-Some-pop.ensures.items inv.seats inv.count).numbers in
    (n.0 ∙ sym n.1, omega (arith, n.1, n.2))

pub new-requires-clause-new : goal.new-requires-clause-new
new-requires-clause-new g c =
    let inv = c.loop-unit.invariant in
    (last_pair (λ u v s. IsNewAt g.U.Unit.number g.U.Unit.fixed g.U.Unit.opening g.U.Unit.kinds g.U.Unit.stands g.S.Seat.number g.S.Seat.mine g.S.Seat.spent g.S.Seat.opening g.S.Seat.kinds u v s) c.args.units.items c.loop-unit.units.items c.pop.new.self.items (map (λ x. x.unit) (reverse c.loop-unit.team.items)) c.in-Some.unit c.args.seats.items c.loop-unit.seats.items c.pop-in-Some.new.self.items (map (λ x. x.seat) (reverse c.loop-unit.team.items)) c.in-Some-pop.seat c.requires.new c.in-Some.ensures.items inv.units c.in-Some-pop.ensures.items inv.seats inv.count).new

pub new-requires-clause-run : goal.new-requires-clause-run
new-requires-clause-run g c =
    let inv = c.loop-unit.invariant in
    (last_pair (λ u v s. IsNewAt g.U.Unit.number g.U.Unit.fixed g.U.Unit.opening g.U.Unit.kinds g.U.Unit.stands g.S.Seat.number g.S.Seat.mine g.S.Seat.spent g.S.Seat.opening g.S.Seat.kinds u v s) c.args.units.items c.loop-unit.units.items c.pop.new.self.items (map (λ x. x.unit) (reverse c.loop-unit.team.items)) c.in-Some.unit c.args.seats.items c.loop-unit.seats.items c.pop-in-Some.new.self.items (map (λ x. x.seat) (reverse c.loop-unit.team.items)) c.in-Some-pop.seat c.requires.new c.in-Some.ensures.items inv.units c.in-Some-pop.ensures.items inv.seats inv.count).run

pub loop-unit-preserved : goal.loop-unit-preserved
loop-unit-preserved g c =
    let inv = c.loop-unit.invariant in
    let P = c.push_reserved.ensures.items in
    record {
      count = omega (arith, inv.count, length_popped c.loop-unit.units.items c.pop.new.self.items c.in-Some.unit c.in-Some.ensures.items, length_popped c.loop-unit.seats.items c.pop-in-Some.new.self.items c.in-Some-pop.seat c.in-Some-pop.ensures.items);
      units = ap (λ l. c.pop.new.self.items ++ l) (one_more (λ x. x.unit) c.loop-unit.team.items c.push_reserved.new.self.items c.new.result (map (λ x. x.unit) (reverse c.loop-unit.team.items)) c.in-Some.unit P (ap (λ x. x.unit) c.new.ensures) refl)
          ∙ moves_over c.loop-unit.units.items c.pop.new.self.items (map (λ x. x.unit) (reverse c.loop-unit.team.items)) c.args.units.items c.in-Some.unit c.in-Some.ensures.items inv.units;
      seats = ap (λ l. c.pop-in-Some.new.self.items ++ l) (one_more (λ x. x.seat) c.loop-unit.team.items c.push_reserved.new.self.items c.new.result (map (λ x. x.seat) (reverse c.loop-unit.team.items)) c.in-Some-pop.seat P (ap (λ x. x.seat) c.new.ensures) refl)
          ∙ moves_over c.loop-unit.seats.items c.pop-in-Some.new.self.items (map (λ x. x.seat) (reverse c.loop-unit.team.items)) c.args.seats.items c.in-Some-pop.seat c.in-Some-pop.ensures.items inv.seats;
      going = subst (λ l. All (λ x. x.failed ≡ false) l) (sym P) (All-append (λ x. x.failed ≡ false) c.loop-unit.team.items (c.new.result ∷ []) inv.going (All-cons (λ x. x.failed ≡ false) c.new.result [] (ap (λ x. x.failed) c.new.ensures) (All-nil (λ x. x.failed ≡ false))));
      room = omega (arith, inv.room, length_popped c.loop-unit.units.items c.pop.new.self.items c.in-Some.unit c.in-Some.ensures.items, ap length P, length-append c.loop-unit.team.items (c.new.result ∷ []), c.push_reserved.ensures.capacity);
    }

pub returns-clause-numbered : goal.returns-clause-numbered
returns-clause-numbered g c =
    let inv = c.loop-unit.invariant in
    numbered_by g.S.Seat.number c.reverse.new.self.items c.args.seats.items
    (turned_over (λ x. x.seat) c.loop-unit.team.items c.reverse.new.self.items (map (λ x. x.seat) (reverse c.loop-unit.team.items)) c.args.seats.items c.loop-unit.seats.items c.reverse.ensures.items refl (inv.count ∙ sym c.loop-unit.units.ok.0 ∙ c.in_default.ensures.cases.0) inv.seats)
    (seats_numbered g.S.Seat.number c.args.units.items c.args.seats.items c.requires.count (λ u v s a b. (c.requires.new u v s a b).numbers.1))

pub returns-clause-going : goal.returns-clause-going
returns-clause-going g c = all_reversed (λ x. x.failed ≡ false) c.loop-unit.team.items c.reverse.new.self.items c.reverse.ensures.items c.loop-unit.invariant.going
