use Rattle.std.specs.Prelude.{IsTrue, nat_lt}
use Rattle.std.proofs.Common.{◌≡◌, ◌<◌, ◌-◌, arith, ap, subst, sym, slice_set}
use Rattle.sg_waits.specs.declared.status.Status.TheVariants.{Ended, Runs}
use Rattle.sg_waits.specs.Waits.{WaitsOf, AllWait, status_at, is_live, runs}
use borrow.Author.Tests.{eqb-true}
use Rattle.sg_waits.proofs.Standing.{live_within, counted_within}
use Rattle.sg_waits.proofs.Tables.{no_more_run, wait_as_many, stuck, stuck_none, stuck_some, above_none, some_above}
use Rattle.sg_waits.proofs.waits.Waits.is_stuck_without.Goals as goal

pub returns-then-self-eq1 : goal.returns-then-self-eq1
returns-then-self-eq1 c =
    let same = c.self.view_is in
    let status : status_at c.self.inside.units.items c.args.unit ≡ Runs = subst (λ (ws : WaitsOf). status_at ws c.args.unit ≡ Runs) (sym same) c.requires.runs in
    let l = live_within c.self.inside.units.items c.args.unit (ap is_live status) in
    let run = no_more_run c.self.inside.units.items c.self.inside.kept.items c.self.inside.listings.keys c.self.inside.running c.self.inside.waiting c.self.invariant.0 c.args.unit l (ap runs status) in
    let wait = wait_as_many c.self.inside.units.items c.self.inside.kept.items c.self.inside.listings.keys c.self.inside.running c.self.inside.waiting c.self.invariant.0 c.args.unit l (ap runs status) in
    let none : c.self.inside.running - 1 ≡ 0 = omega (arith, c.if-self-eq1.true) in
    subst (λ (ws : WaitsOf). (IsTrue (nat_lt 0 c.self.inside.waiting) → AllWait (slice_set ws c.args.unit Ended)) × (AllWait (slice_set ws c.args.unit Ended) → IsTrue (nat_lt 0 c.self.inside.waiting))) same (
      (λ h. stuck (slice_set c.self.inside.units.items c.args.unit Ended) (c.self.inside.running - 1) c.self.inside.waiting run wait none (above_none c.self.inside.waiting h)),
      (λ h. some_above c.self.inside.waiting (stuck_some (slice_set c.self.inside.units.items c.args.unit Ended) (c.self.inside.running - 1) c.self.inside.waiting run wait h)),
    )

pub returns-else-self-eq1 : goal.returns-else-self-eq1
returns-else-self-eq1 c =
    let same = c.self.view_is in
    let status : status_at c.self.inside.units.items c.args.unit ≡ Runs = subst (λ (ws : WaitsOf). status_at ws c.args.unit ≡ Runs) (sym same) c.requires.runs in
    let l = live_within c.self.inside.units.items c.args.unit (ap is_live status) in
    let run = no_more_run c.self.inside.units.items c.self.inside.kept.items c.self.inside.listings.keys c.self.inside.running c.self.inside.waiting c.self.invariant.0 c.args.unit l (ap runs status) in
    let wait = wait_as_many c.self.inside.units.items c.self.inside.kept.items c.self.inside.listings.keys c.self.inside.running c.self.inside.waiting c.self.invariant.0 c.args.unit l (ap runs status) in
    let some : 0 < c.self.inside.running = omega (arith, counted_within runs c.self.inside.units.items c.args.unit l (ap runs status), (c.self.invariant.0).count_running) in
    rw (← c.self.view_is) (
      (λ h. absurd (c.if-self-eq1.false (eqb-true c.self.inside.running 1 h))),
      (λ h. absurd (stuck_none (slice_set c.self.inside.units.items c.args.unit Ended) (c.self.inside.running - 1) c.self.inside.waiting run wait h (omega (arith, some, c.if-self-eq1.false)))),
    )
