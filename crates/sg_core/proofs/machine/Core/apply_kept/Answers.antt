use Rattle.std.proofs.Common.{◌≡◌, ◌++◌, slice_set, ap, ◌∙◌}
use Rattle.sg_state.specs.Opening.{opened_of}
use Rattle.sg_unit.specs.Unit.{setting_of}
use Rattle.sg_core.specs.declared.ask.Ask.{Ask}
use Rattle.sg_core.specs.Beside.{ask_found}
use Rattle.sg_core.proofs.Beside.{second, is_some, handed_in, few_more}
use Rattle.sg_core.proofs.Moving.{core_of, core_log, kept_log, kept_asks}
use Rattle.sg_core.proofs.machine.Core.apply_kept.Goals as goal

pub returns-in_err-append-clause-core : goal.returns-in_err-append-clause-core
returns-in_err-append-clause-core g c =
    let i = c.self.inside in
    core_log g.I.Instance.wants g.I.Instance.same_datum (opened_of i.opening) i.kinds c.append.new.self.items i.log.items c.in_err-append.ensures.items
    (core_of g.I.Instance.wants g.I.Instance.same_datum (opened_of i.opening) i.kinds i.held i.waits i.asks.items i.ends.items i.shown i.log.items c.self.invariant)

pub invariant_of-self-2 : goal.invariant_of-self-2
invariant_of-self-2 g c =
    let i = c.self.inside in
    let z = setting_of g.I.Instance.wants g.I.Instance.same_datum (opened_of i.opening) i.kinds in
    let es = c.args.kept.now.events.items in
    let kept = rw (← c.self.view_is) at c.requires.kept in
    let free = second (rw (← c.self.view_is) at c.requires.free) (is_some es c.is_empty.result _ c.args.kept.now.events.ok.0 c.is_empty.ensures c.if-is_empty.false) in
    let now : c.append.new.self.items ≡ i.log.items ++ es = c.in_ok-append.ensures.items in
    let few = few_more i.log.items es c.append.new.self.items _ _ now c.append.new.self.ok c.append.new.self.small in
    let found : c.ask_of.result ≡ ask_found c.args.kept.now.ask = c.ask_of.ensures ∙ ap ask_found c.replace.ensures.value in
    kept_log z i.held i.waits (slice_set i.asks.items c.args.unit c.ask_of.result) i.ends.items i.shown c.append.new.self.items (i.log.items ++ es) now
    (kept_asks z i.held i.waits (slice_set i.asks.items c.args.unit c.ask_of.result) (slice_set i.asks.items c.args.unit (ask_found c.args.kept.now.ask)) i.ends.items i.shown (i.log.items ++ es) (ap (λ (x : Ask g.row.I.Denot g.row.I-Datum.Denot g.row.I-Pred.Denot). slice_set i.asks.items c.args.unit x) found)
    (handed_in z i.held i.waits i.ends.items i.shown c.args.unit es i.log.items i.asks.items c.self.invariant free c.args.kept.now.ask kept few))

pub returns-clause-core : goal.returns-clause-core
returns-clause-core g c =
    core_of g.I.Instance.wants g.I.Instance.same_datum _ c.self.inside.kinds _ _ _ _ _ _ (invariant_of-self-2 g c)
