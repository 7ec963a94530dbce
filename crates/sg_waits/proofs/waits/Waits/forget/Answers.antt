use Rattle.std.proofs.Common.{sym, ◌∙◌, arith}
use Rattle.sg_waits.proofs.Standing.{live_within, status_is}
use Rattle.sg_waits.proofs.Flagged.{runner_flagged}
use Rattle.sg_waits.proofs.Tables.{now_run_few, forgets}
use Rattle.sg_waits.proofs.waits.Waits.forget.Goals as goal

pub overflow_add-self : goal.overflow_add-self
overflow_add-self c =
    let live = rw (← c.self.view_is) at c.requires.live in
    let e = rw c.deref.ensures.value at (sym c.waits.ensures ∙ c.if-waits.true) in
    omega (arith, now_run_few c.self.inside.units.items c.self.inside.kept.items c.self.inside.listings.keys c.self.inside.running c.self.inside.waiting c.self.invariant.0 c.args.unit (live_within c.self.inside.units.items c.args.unit live) e)

pub invariant_of-self : goal.invariant_of-self
invariant_of-self c =
    let live = rw (← c.self.view_is) at c.requires.live in
    let e = rw c.deref.ensures.value at (sym c.waits.ensures ∙ c.if-waits.true) in
    let l = live_within c.self.inside.units.items c.args.unit live in
    let stood = c.replace.ensures.value ∙ c.index_mut.ensures.value ∙ status_is c.self.inside.units.items c.args.unit c.index_mut.result.now l in
    let table = forgets c.self.inside.units.items c.self.inside.kept.items c.self.inside.listings.keys c.self.inside.running c.self.inside.waiting c.self.invariant.0 c.args.unit l e in
    rw (c.replace.ensures.after, stood, c.mark.ensures) (table, runner_flagged c.self.inside.units.items c.self.inside.flags.items c.self.invariant.1 c.args.unit l)
