use Rattle.sg_core.specs.Core.{run}
use Rattle.sg_broker.proofs.Gaining.{step_gains}
use Rattle.sg_broker.proofs.logging.step.Goals as goal

pub returns-clause-gains : goal.returns-clause-gains
returns-clause-gains g c =
    rw c.seen_first.ensures.same (rw c.shrink.ensures.items (rw c.shrink.ensures.ask (step_gains g.I.Instance.wants g.I.Instance.same_datum c.args.core.now.kinds (run g.I.Instance.wants g.I.Instance.same_datum c.args.core.now).held c.args.core.now c.apply_behind-reply.new.self c.args.unit c.args.aside.now.kept.events.items c.apply_behind-reply.new.kept.events.items c.args.aside.now.kept.ask c.apply_behind-reply.new.kept.ask c.requires.kept c.args.op c.apply_behind-reply.result c.apply_behind-reply.ensures.ok c.apply_behind-reply.ensures.none c.apply_behind-reply.ensures.err)))
