use Rattle.std.proofs.lemmas.List.Filters.{dedup_is}
use Rattle.sg_engine.proofs.Needing.{is_need, needs_rise, needs_hold}
use Rattle.sg_engine.proofs.needs.needs_of.Goals as goal

pub returns-clause-rising : goal.returns-clause-rising
returns-clause-rising c =
    rw (dedup_is is_need c.sort_unstable.new.self.items c.dedup.new.self.items c.dedup.ensures.filtered) (needs_rise c.in_ok-needs.needs.items c.sort_unstable.new.self.items c.sort_unstable.ensures.permutation c.sort_unstable.ensures.sorted)

pub returns-clause-exact : goal.returns-clause-exact
returns-clause-exact c = λ e start nodes n.
    let once = needs_hold c.in_ok-needs.needs.items c.sort_unstable.new.self.items c.sort_unstable.ensures.permutation c.sort_unstable.ensures.sorted n in
    let all = c.in_ok-needs.ensures e start nodes n in
    rw (dedup_is is_need c.sort_unstable.new.self.items c.dedup.new.self.items c.dedup.ensures.filtered) ((λ m. all.0 (once.0 m)), (λ h. once.1 (all.1 h)))
