use Rattle.std.proofs.Common.{[], map, ap, Bor}
use Rattle.jv_layout.proofs.Looping.{pushed_first}
use Rattle.sg_unit.specs.Own.{own}
use Rattle.sc_listing.specs.Answers.{JavaEntry}
use Rattle.sc_listing.proofs.OwnEntries.{entries_in}
use Rattle.sc_listing.proofs.by_unit.empty_lists.Goals as goal

pub loop-preserved : goal.loop-preserved
loop-preserved c =
    pushed_first entries_in (λ u. own u []) c.loop.lists.items c.push.new.self.items c.loop.counter c.new.result c.in_ok-push.ensures.items (ap (map (λ (e : Bor JavaEntry). e.now)) c.new.ensures.items) c.loop.invariant
