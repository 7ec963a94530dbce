use Rattle.std.proofs.Common.{◌∙◌}
use Rattle.std.specs.Ordering.{nat_cmp}
use Rattle.sg_base.proofs.Rising.{Rising-filter}
use Rattle.sg_waits.proofs.Tables.{few_units, which}
use Rattle.sg_waits.proofs.waits.Waits.waiting_for.Goals as goal

pub listed_for-requires : goal.listed_for-requires
listed_for-requires c = record { few = few_units c.self.inside.units.items c.self.inside.kept.items c.self.inside.listings.keys c.self.inside.running c.self.inside.waiting c.self.invariant.0 }

pub returns-clause-exact : goal.returns-clause-exact
returns-clause-exact c =
    which c.self.inside.units.items c.self.inside.kept.items c.self.inside.listings.keys c.self.inside.running c.self.inside.waiting c.self.invariant.0 c.args.self.now c.self.view_is c.args.gone.now c.in_ok-found.found.keys c.into_vec.result.items _ c.deref.ensures.value (c.into_vec.ensures ∙ c.in_ok-woken.ensures) c.in_ok-found.ensures.ok

pub returns-clause-rising : goal.returns-clause-rising
returns-clause-rising c = rw (c.into_vec.ensures, c.in_ok-woken.ensures) (Rising-filter nat_cmp _ c.in_ok-found.found.keys c.in_ok-found.ensures.rising)
