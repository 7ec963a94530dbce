use Rattle.std.proofs.Common.{rules, ◌∙◌, subst, ◌≡◌, ◌∷◌}
use Rattle.atomic_table.specs.Table.{rest}
use Rattle.std.specs.Prelude.{Some}
use Rattle.sg_turn.proofs.RuleSteps.{looks}
use Rattle.sg_turn.proofs.Slots.{looked_stage, took_slot, can_exchange, some_slot, took, is_some}
use Rattle.sg_turn.proofs.taking.take.Goals as goal
use Rattle.sg_turn.proofs.taking.take.Goals.{After-load-served, After-exchange}

pub load-served-requires : goal.load-served-requires
load-served-requires g c = (search rules, search rules, looks _ _ _ _ _ _ _ c.loop.seat.me c.draw-ticket.result (looked_stage g.V.Storied.entries g.V.Storied.root g.V.Storied.teller c.args.seat.now.me.0 _ _ c.loop.invariant.1))

pub exchange-requires : goal.exchange-requires
exchange-requires g c = let k = (c.load-served.ensures.2 c.draw-ticket.result (looked_stage g.V.Storied.entries g.V.Storied.root g.V.Storied.teller c.args.seat.now.me.0 _ _ c.loop.invariant.1)).0 c.if-served-ticket.true in
    (search rules, (Some k.value, can_exchange c.load-served.new.seat.me.1 (Some k.value) (took_slot g.V.Storied.entries g.V.Storied.root g.V.Storied.teller c.args.seat.now.me.0 c.loop.seat.me c.load-served.new.seat.me c.draw-ticket.result c.loop.invariant.1 k)))

pub unwrap-requires : goal.unwrap-requires
unwrap-requires g c = let k = (c.load-served.ensures.2 c.draw-ticket.result (looked_stage g.V.Storied.entries g.V.Storied.root g.V.Storied.teller c.args.seat.now.me.0 _ _ c.loop.invariant.1)).0 c.if-served-ticket.true in
    is_some c.exchange.result k.value (some_slot c.load-served.new.seat.me.1 c.exchange.result (Some k.value) c.exchange.ensures.2
    (took_slot g.V.Storied.entries g.V.Storied.root g.V.Storied.teller c.args.seat.now.me.0 c.loop.seat.me c.load-served.new.seat.me c.draw-ticket.result c.loop.invariant.1 k))

pub returns-then-served-ticket : goal.returns-then-served-ticket
returns-then-served-ticket g c = let k = (c.load-served.ensures.2 c.draw-ticket.result (looked_stage g.V.Storied.entries g.V.Storied.root g.V.Storied.teller c.args.seat.now.me.0 _ _ c.loop.invariant.1)).0 c.if-served-ticket.true in
    let t = took g.V.Storied.entries g.V.Storied.root g.V.Storied.teller c.args.seat.now.me.0 c.loop.seat.me c.load-served.new.seat.me c.exchange.new.seat.me c.draw-ticket.result c.unwrap.result c.loop.invariant.1 k (subst (λ z. c.load-served.new.seat.me.1 ≡ (0, z) ∷ rest c.load-served.new.seat.me.1) c.unwrap.ensures c.exchange.ensures.2) c.exchange.ensures.3 in
    record { seat = (c.exchange.ensures.0 ∙ (c.load-served.ensures.0 ∙ c.loop.invariant.0.0), c.exchange.ensures.1 ∙ (c.load-served.ensures.1 ∙ c.loop.invariant.0.1)); view = (c.draw-ticket.result, t.0); begins = t.1; own = t.2; root = t.3 }

pub loop-preserved : goal.loop-preserved
loop-preserved g c = (
  (c.load-served.ensures.0 ∙ c.loop.invariant.0.0, c.load-served.ensures.1 ∙ c.loop.invariant.0.1),
  (c.load-served.ensures.2 c.draw-ticket.result (looked_stage g.V.Storied.entries g.V.Storied.root g.V.Storied.teller c.args.seat.now.me.0 c.loop.seat.me c.draw-ticket.result c.loop.invariant.1)).1 c.if-served-ticket.false ∙ c.loop.invariant.1,
)
