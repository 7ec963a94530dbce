use Rattle.std.proofs.Common.{◌∙◌}
use Rattle.std.specs.Ordering.{nat_cmp}
use Rattle.sg_base.proofs.Rising.{Rising-filter}
use Rattle.sg_waits.proofs.Standing.{needy_lives}
use Rattle.sg_waits.proofs.Tables.{few_units, which, wakes_all}
use Rattle.sg_waits.proofs.waits.Waits.woken_by.Goals as goal

pub listed_for-requires : goal.listed_for-requires
listed_for-requires c = record { few = few_units c.self.inside.units.items c.self.inside.kept.items c.self.inside.listings.keys c.self.inside.running c.self.inside.waiting c.self.invariant.0 }

pub wake-requires : goal.wake-requires
wake-requires c = record {
  live = λ u k.
      let h = (which c.self.inside.units.items c.self.inside.kept.items c.self.inside.listings.keys c.self.inside.running c.self.inside.waiting c.self.invariant.0 c.args.self.now c.self.view_is c.args.gone.now c.in_ok-found.found.keys c.as_slice.result.now _ c.deref.ensures.value (c.as_slice.ensures ∙ c.in_ok-woken.ensures) c.in_ok-found.ensures.ok u).0 k in
      needy_lives c.args.self.now u h.0 h.2;
}

pub returns-clause-woken : goal.returns-clause-woken
returns-clause-woken c = which c.self.inside.units.items c.self.inside.kept.items c.self.inside.listings.keys c.self.inside.running c.self.inside.waiting c.self.invariant.0 c.args.self.now c.self.view_is c.args.gone.now c.in_ok-found.found.keys c.in_ok-woken.woken _ c.deref.ensures.value c.in_ok-woken.ensures c.in_ok-found.ensures.ok

pub returns-clause-ok : goal.returns-clause-ok
returns-clause-ok c =
    rw c.wake.ensures (wakes_all c.args.self.now c.args.gone.now c.as_slice.result.now (which c.self.inside.units.items c.self.inside.kept.items c.self.inside.listings.keys c.self.inside.running c.self.inside.waiting c.self.invariant.0 c.args.self.now c.self.view_is c.args.gone.now c.in_ok-found.found.keys c.as_slice.result.now _ c.deref.ensures.value (c.as_slice.ensures ∙ c.in_ok-woken.ensures) c.in_ok-found.ensures.ok))

pub returns-clause-rising : goal.returns-clause-rising
returns-clause-rising c = rw c.in_ok-woken.ensures (Rising-filter nat_cmp _ c.in_ok-found.found.keys c.in_ok-found.ensures.rising)
