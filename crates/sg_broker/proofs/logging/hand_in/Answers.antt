use Rattle.sg_core.specs.Core.{run}
use Rattle.sg_broker.proofs.Gaining.{hand_gains, none_left}
use Rattle.sg_broker.proofs.logging.hand_in.Goals as goal

pub returns-clause-gains : goal.returns-clause-gains
returns-clause-gains g c =
    rw c.seen_first.ensures.same (hand_gains g.I.Instance.wants g.I.Instance.same_datum c.args.core.now.kinds (run g.I.Instance.wants g.I.Instance.same_datum c.args.core.now).held c.args.core.now c.apply_kept-done.new.self c.args.unit c.args.aside.now.kept.events.items c.apply_kept-done.new.kept.events.items c.args.aside.now.kept.ask c.apply_kept-done.new.kept.ask c.requires.kept c.apply_kept-done.result c.apply_kept-done.ensures.ok c.apply_kept-done.ensures.err)

pub returns-clause-none : goal.returns-clause-none
returns-clause-none g c = none_left g.I.Instance.wants g.I.Instance.same_datum c.args.core.now.kinds (run g.I.Instance.wants g.I.Instance.same_datum c.args.core.now).held c.args.core.now c.apply_kept-done.new.self c.args.unit c.args.aside.now.kept.events.items c.apply_kept-done.new.kept.events.items c.args.aside.now.kept.ask c.apply_kept-done.new.kept.ask c.requires.kept c.apply_kept-done.result c.apply_kept-done.ensures.ok
