use Rattle.std.proofs.Common.{rules, sym, ap, ◌∙◌, subst}
use Rattle.sg_turn.specs.Steps.{Ends}
use Rattle.sg_turn.proofs.RuleSteps.{serves_after}
use Rattle.sg_turn.proofs.Slots.{gave}
use Rattle.sg_turn.proofs.giving.give.Goals as goal

pub fetch_add-requires : goal.fetch_add-requires
fetch_add-requires g c = (search rules, search rules, serves_after _ _ _ _ _ _ _ c.args.seat.now.me c.exchange-found.new.seat.me c.requires.inside.0.0 c.args.value c.requires.inside.0.1 c.requires.inside.1 c.exchange-found.ensures.3 (g.V.Storied.few c.args.value) c.requires.root c.requires.gives)

pub returns : goal.returns
returns g c = let t = gave g.V.Storied.entries g.V.Storied.root g.V.Storied.teller c.args.seat.now.me c.exchange-found.new.seat.me c.fetch_add.new.seat.me c.args.value c.requires.inside.1 c.exchange-found.ensures.3 c.fetch_add.ensures.2 in
    let same = c.wake_one.ensures.1 in
    record { seat = (search rules, ap (λ z. z.1) same ∙ t.0); view = subst (λ z. Ends c.args.seat.now.me.0 (g.V.Storied.entries c.args.value) z.0) (sym same) t.1 }
