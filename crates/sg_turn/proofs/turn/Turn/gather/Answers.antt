use Rattle.std.proofs.Common.{rules, ap, ◌∙◌}
use Rattle.sg_turn.proofs.RuleSteps.{gathers}
use Rattle.sg_turn.proofs.SeatLists.{free_of}
use Rattle.sg_turn.proofs.turn.Turn.gather.Goals as goal

pub join_seat-requires : goal.join_seat-requires
join_seat-requires g c = let me = c.seat.inside.seat in let it = c.other.inside.seat in
    let f = free_of me.me.0.stage me.me.1 c.seat.invariant (ap (λ z. z.inside) c.seat.view_is ∙ c.requires.outside.0) in
    let f' = free_of it.me.0.stage it.me.1 c.other.invariant (ap (λ z. z.inside) c.other.view_is ∙ c.requires.outside.1) in
    (search rules, search rules, f'.1, search rules, gathers _ _ _ _ _ _ me.me.0 _ it.me.0 f.0 f'.0)
