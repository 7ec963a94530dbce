use Rattle.std.proofs.Common.{rules, ◌≡◌, ◌+◌, ◌-◌, ◌++◌, ◌∷◌, [], sym, ap, ◌∙◌, arith}
use Rattle.sg_turn.specs.TurnSeat.{known, fresh_seat}
use Rattle.sg_turn.proofs.RuleSteps.{deals}
use Rattle.sg_turn.proofs.SeatLists.{fresh_more}
use Rattle.sg_turn.proofs.dealing.deal.Goals as goal

pub split_seat-next-requires : goal.split_seat-next-requires
split_seat-next-requires g c = let inv = c.loop-i.invariant in let made : c.loop-i.last.me.0.made ≡ c.loop-i.i = ap (λ z. z.0.made) inv.last in let all = c.requires.seats.1 in let from = c.loop-i.auto.i in
    (inv.seat, search rules, deals _ _ _ _ _ _ c.loop-i.last.me.0 (ap (λ z. z.0.stage) inv.last) (omega arith) (omega arith))

pub returns : goal.returns
returns g c = let inv = c.loop-i.invariant in let some = c.requires.seats.0 in let from = c.loop-i.auto.i in let to = c.loop-i.auto.i-end in let at_end = c.loop-i-test.false in
    let n : c.args.seats ≡ (c.loop-i.i - 1) + 1 = omega arith in
    let seat : known c.loop-i.last.table_id c.loop-i.last.me.0 ≡ fresh_seat c.args.shared.now.table_id (g.V.Storied.root c.args.shared.now.key.value.value) (c.loop-i.i - 1) = λ i. known (inv.seat i) (inv.last i).0 in
    c.push_reserved-2.ensures.items ∙ ((λ i. inv.made i ++ seat i ∷ []) ∙ sym (fresh_more c.args.shared.now.table_id (g.V.Storied.root c.args.shared.now.key.value.value) (c.loop-i.i - 1) c.args.seats n))
