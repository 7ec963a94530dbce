use Rattle.std.proofs.Common.{ℕ, ◌<◌, ap, sym, ◌∙◌, subst, length, slice_set}
use Rattle.sg_waits.specs.declared.status.Status.TheVariants.{Ended, Runs}
use Rattle.sg_waits.specs.Block.{IsFlagged}
use Rattle.sg_waits.specs.Waits.{WaitsOf, needs_at, status_at}
use Rattle.sg_waits.proofs.Standing.{live_within, set_here, set_twice, length_set}
use Rattle.sg_waits.proofs.Tables.{ends}
use Rattle.sg_waits.proofs.waits.Waits.end_live.Goals as goal

pub invariant_of-self : goal.invariant_of-self
invariant_of-self c =
    let l = live_within c.args.self.now c.args.unit c.requires.live in
    let items = c.self.view_is ∙ c.forget.ensures in
    let status = ap (λ (ws : WaitsOf). status_at ws c.args.unit) items ∙ set_here c.args.self.now c.args.unit Runs l in
    let same = ap (λ (ws : WaitsOf). length ws) items ∙ length_set c.args.self.now c.args.unit Runs in
    (ends c.self.inside.units.items c.self.inside.kept.items c.self.inside.listings.keys c.self.inside.running c.self.inside.waiting c.self.invariant.0 c.args.unit (subst (λ (n : ℕ). c.args.unit < n) (sym same) l) c.needs_at-needs.result.now (c.needs_at-needs.ensures.needs ∙ ap (λ (ws : WaitsOf). needs_at ws c.args.unit) c.deref.ensures.value) c.take_off.new.listings.keys status c.take_off.ensures.left c.take_off.ensures.rising, subst (λ (ws : WaitsOf). IsFlagged ws c.refresh.new.flags.items) c.deref-2.ensures.value c.refresh.ensures)

pub returns : goal.returns
returns c =
    ap (λ (ws : WaitsOf). slice_set ws c.args.unit Ended) (c.self.view_is ∙ c.forget.ensures) ∙ set_twice c.args.self.now c.args.unit Runs Ended
