use Rattle.std.proofs.Common.{◌∙◌, ap, length}
use Rattle.sg_state.specs.Opening.{opened_of}
use Rattle.sg_core.proofs.Moving.{core_of}
use Rattle.sg_core.proofs.TakingBack.{within, back}
use Rattle.sg_core.proofs.machine.Core.apply_behind_some.Goals as goal

pub forget_ask-requires : goal.forget_ask-requires
forget_ask-requires g c =
    let i = c.self.inside in
    record { within = within g.I.Instance.wants g.I.Instance.same_datum c.args.self.now c.args.unit c.args.kept.now.events.items c.args.kept.now.ask c.requires.free c.requires.kept (opened_of i.opening) i.kinds i.held i.waits i.asks.items i.ends.items i.shown i.log.items c.self.invariant c.apply_kept.new.self c.apply_with.new.self c.self.view_is c.in-Err.ensures.err c.in_ok-apply_kept.ensures.ok.0 }

pub invariant_of-self : goal.invariant_of-self
invariant_of-self g c =
    let i = c.self.inside in
    (back g.I.Instance.wants g.I.Instance.same_datum c.args.self.now c.args.unit c.args.kept.now.events.items c.args.kept.now.ask c.requires.free c.requires.kept (opened_of i.opening) i.kinds i.held i.waits i.asks.items i.ends.items i.shown i.log.items c.self.invariant c.apply_kept.new.self c.apply_with.new.self c.self.view_is c.in-Err.ensures.err c.in_ok-apply_kept.ensures.ok.0
    c.forget_ask.new.asks.items c.take_back.new.log.items c.take_back.new.events.items c.forget_ask.ensures (c.take_back.ensures.log ∙ ap length c.log-before.ensures.log) c.take_back.ensures.all).0

pub returns-in-Err-clause-core : goal.returns-in-Err-clause-core
returns-in-Err-clause-core g c =
    let i = c.self.inside in
    core_of g.I.Instance.wants g.I.Instance.same_datum (opened_of i.opening) i.kinds i.held i.waits c.forget_ask.new.asks.items i.ends.items i.shown c.take_back.new.log.items (invariant_of-self g c)

pub returns-in-Err-clause-err : goal.returns-in-Err-clause-err
returns-in-Err-clause-err g c =
    let i = c.self.inside in
    let b = back g.I.Instance.wants g.I.Instance.same_datum c.args.self.now c.args.unit c.args.kept.now.events.items c.args.kept.now.ask c.requires.free c.requires.kept (opened_of i.opening) i.kinds i.held i.waits i.asks.items i.ends.items i.shown i.log.items c.self.invariant c.apply_kept.new.self c.apply_with.new.self c.self.view_is c.in-Err.ensures.err c.in_ok-apply_kept.ensures.ok.0
    c.forget_ask.new.asks.items c.take_back.new.log.items c.take_back.new.events.items c.forget_ask.ensures (c.take_back.ensures.log ∙ ap length c.log-before.ensures.log) c.take_back.ensures.all in
    (b.1, ap (λ v. v.items) c.set_ask.ensures.events ∙ b.2, c.set_ask.ensures.ask ∙ c.in_ok-ask.ensures)
